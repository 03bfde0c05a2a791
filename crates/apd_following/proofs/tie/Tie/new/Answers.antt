use Rattle.apd_following.proofs.Tying.{tied_none}
use Rattle.apd_following.proofs.tie.Tie.new.Goals as goal

pub returns : goal.returns
returns c = λ s. tied_none c.new.result s c.new.ensures
