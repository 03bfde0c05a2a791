use Rattle.std.proofs.Common.{refl}
use Rattle.apd_unify.proofs.Pairing.{is_past, is_past_last}
use Rattle.apd_unify.proofs.unify.past.Goals as goal

pub returns-then-here-eq1 : goal.returns-then-here-eq1
returns-then-here-eq1 c = is_past_last c.args.heap.now c.args.here _ c.requires.right c.if-here-eq1.true refl

pub returns : goal.returns
returns c = is_past c.args.heap.now c.args.here _ c.end.ensures.store c.requires.right c.requires.some (rw (c.end.ensures.end, c.end-2.ensures.end) refl)
