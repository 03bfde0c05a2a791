use Rattle.std.proofs.Common.{refl, sym, ◌∙◌}
use Rattle.apd_term.proofs.Ground.{ground_list}
use Rattle.apd_arith.proofs.Tests.{all_ground}
use Rattle.apd_divide.proofs.forms.is_ground_tuple.Goals as goal

pub returns : goal.returns
returns c = λ is. rw (c.is_ground.ensures.0 c.if-not-is_ground.false, ground_list c.args.tuple.now.body (all_ground c.args.tuple.now.body (sym c.are_ground.ensures ∙ is))) refl
