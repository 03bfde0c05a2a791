use Rattle.apd_upheld.proofs.Good.{entries-good}
use Rattle.apd_upheld.proofs.laws.what_right_entries_say_is_good.Goals as goal

pub returns : goal.returns
returns g c = λ program strategy a s es. entries-good program strategy g.M.Intended.interpretation a s es
