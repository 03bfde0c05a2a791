use Rattle.apd_known.proofs.OneList.{one_list}
use Rattle.apd_known.proofs.laws.one_statement_list.Goals as goal

pub returns : goal.returns
returns c = λ names r s ops text table. one_list names r s ops text table
