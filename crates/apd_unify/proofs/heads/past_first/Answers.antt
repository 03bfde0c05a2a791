use Rattle.std.proofs.Common.{refl}
use Rattle.apd_unify.proofs.Onward.{is_past_first, is_past_last}
use Rattle.apd_unify.proofs.heads.past_first.Goals as goal

pub returns-then-here-eq1 : goal.returns-then-here-eq1
returns-then-here-eq1 c = is_past_last c.args.heap.now c.args.here _ c.requires.right c.if-here-eq1.true refl

pub returns : goal.returns
returns c = is_past_first c.args.heap.now c.args.here _ c.end.ensures.store c.requires.right c.requires.some (rw c.end.ensures.end refl)
