use Rattle.apd_read.proofs.Unique.{one_answer}
use Rattle.apd_read.proofs.Grammar.{Splits_from_Reads, Reads_from_Splits}
use Rattle.apd_read.proofs.reader.one_reading.Goals as goal

pub returns-clause-answers : goal.returns-clause-answers
returns-clause-answers c = one_answer

pub returns-clause-grammar : goal.returns-clause-grammar
returns-clause-grammar c = λ p ps t apart. ((λ r. Splits_from_Reads apart r), (λ s. Reads_from_Splits s))
