use Rattle.apd_written.proofs.Breaks.{written-break}
use Rattle.apd_written.proofs.laws.a_written_term_is_on_one_line.Goals as goal

pub returns : goal.returns
returns c = λ ops names t place. written-break ops names t place
