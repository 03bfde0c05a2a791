use Rattle.apd_demo.proofs.Holding.{tree_true}
use Rattle.apd_demo.proofs.laws.replies_are_true.Goals as goal

pub returns : goal.returns
returns c start = λ t holds q r e. tree_true t c.M.Intended.interpretation holds q r e
