use Rattle.std.proofs.Common.{sym, ◌∙◌}
use Rattle.apd_load.proofs.Calling.{no_value}
use Rattle.apd_by_hand.proofs.Replaying.{may_call}
use Rattle.apd_by_hand.proofs.replay.called_by.Goals as goal

pub returns : goal.returns
returns c =
    let free = sym c.child.ensures.child ∙ no_value c.child.result (sym c.is_some.ensures ∙ c.if-is_some.false) in
    rw c.in_ok-atom.ensures.is
    (may_call c.args.recorded.now c.args.from.0 c.args.caller.now c.in_ok-goal.goal.now c.is_kept.ensures c.requires.point c.in_ok-goal.ensures free (c.is_complete.ensures c.if-is_complete.false) (rw c.in_ok-atom.ensures.is at c.in_ok-atom.ensures.atom))
