use Rattle.std.proofs.Common.{sym, ◌∙◌, ◌+◌, refl, arith}
use Rattle.apd_record.specs.Index.{id_of}
use Rattle.apd_record.specs.Recorded.{follow}
use Rattle.apd_by_hand.proofs.Replaying.{may_solve, no_image}
use Rattle.apd_by_hand.proofs.replay.solved_by.Goals as goal

pub returns-in-Some-clause-may : goal.returns-in-Some-clause-may
returns-in-Some-clause-may c =
    let R = c.args.recorded.now in
    let free = no_image id_of (follow R c.from-from.result.0 c.args.exit.0) c.follow.result c.follow.ensures.point (sym c.is_some.ensures ∙ c.if-is_some.false) in
    may_solve R c.from-from.result c.args.exit c.in_ok-left.left c.args.last.now (c.in_ok-left.left.done + 1) c.in-Some.tuple c.is_kept.ensures c.in_ok-left.ensures.point c.requires.point (c.has_goal.ensures c.if-has_goal.false) (omega arith) c.requires.owner
    c.from-from.ensures.from c.in-Some.ensures refl free (c.is_complete.ensures c.if-is_complete.false)
