use Rattle.std.proofs.Common.{drop}
use Rattle.apd_frames.specs.Links.{link_of}
use Rattle.apd_frames.specs.Instances.{terms_in, tuple_in}
use Rattle.apd_frames.proofs.Writing.{IsCounting}
use Rattle.apd_frames.proofs.instance.is_within.Given as goal

abbrev pub invariant-goals : goal.invariant-goals
invariant-goals l = IsCounting (tuple_in l.store (link_of l.link).instance) (terms_in l.store (drop l.goal-index l.link.goals.now)) l.left
