use Rattle.std.proofs.Common.{sym, ◌∙◌, arith, MatchBool}
use Rattle.apd_term.specs.Substitution.{IsInstance}
use Rattle.apd_record.specs.Index.{id_of}
use Rattle.apd_record.specs.Recorded.{first_point}
use Rattle.apd_by_hand.proofs.Replaying.{may_enter_by, fits_told, no_image}
use Rattle.apd_by_hand.proofs.replay.clause_entered.Goals as goal

pub returns-clause-may : goal.returns-clause-may
returns-clause-may c =
    let R = c.args.recorded.now in
    let owner = c.args.owner in
    let free = no_image id_of (first_point R owner c.in_ok-clause.clause) c.first_point.result c.first_point.ensures.point (sym c.is_some.ensures ∙ c.if-is_some.false) in
    let fits = fits_told c.is_instance.result (λ b. MatchBool b (IsInstance c.args.tuple.now.head c.in-Ok.call) (¬ IsInstance c.args.tuple.now.head c.in-Ok.call)) (sym c.unwrap_or-fits.ensures ∙ c.if-not-fits.false) c.is_instance.ensures in
    may_enter_by R owner c.in_ok-clause.clause c.args.tuple.now c.in-Ok.call c.is_user-is_user.result c.is_kept.ensures (omega arith) (omega arith) c.is_user-is_user.ensures c.if-not-is_user.false c.in-Ok.ensures fits free (c.is_complete.ensures c.if-is_complete.false)
