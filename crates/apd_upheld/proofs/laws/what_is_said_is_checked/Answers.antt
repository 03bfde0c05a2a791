use Rattle.apd_upheld.proofs.Saying.{says-checked}
use Rattle.apd_upheld.proofs.laws.what_is_said_is_checked.Goals as goal

pub returns : goal.returns
returns c = λ names reader ops program s found n in_group text cs said good. says-checked reader ops program s found n in_group said good
