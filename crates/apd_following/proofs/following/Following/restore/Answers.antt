use Rattle.std.proofs.Common.{◌≡◌, ◌<◌, ◌∷◌, ◌∙◌, ap, drop, length, subst, sym}
use Rattle.apd_cells.specs.declared.front.Front.{Front}
use Rattle.apd_cells.specs.Undone.{IsFront}
use Rattle.apd_past.proofs.Moments.{right_cells}
use Rattle.apd_past.specs.History.{History}
use Rattle.apd_frames.specs.Framed.{frames_of}
use Rattle.apd_following.specs.Followed.{Followed}
use Rattle.apd_following.specs.Tied.{past_of}
use Rattle.apd_tuples.specs.Tuples.{kept_tuples, AreThere}
use Rattle.apd_tuples.proofs.Standing.{there_more, tuples_same}
use Rattle.apd_following.proofs.Backward.{is_back, past_stays}
use Rattle.apd_following.proofs.following.Following.restore.Goals as goal

pub restore-requires-clause-framed : goal.restore-requires-clause-framed
restore-requires-clause-framed c = c.self.invariant.0

pub restore-requires-clause-some : goal.restore-requires-clause-some
restore-requires-clause-some c = subst (λ (f : Followed). 0 < length f.saved) (sym c.self.view_is) c.requires

pub restore-requires-clause-front : goal.restore-requires-clause-front
restore-requires-clause-front c =
    subst (λ (f : Front). IsFront f c.self.inside.linked.store.cells) (sym c.front-kept.ensures)
    (right_cells _ c.self.inside.tie.journal.variables c.self.inside.tie.journal.spans c.self.invariant.1.right)

pub go_back-requires : goal.go_back-requires
go_back-requires c = is_back c.self.inside.tie c.self.inside.linked c.restore.new.self c.front-kept.result c.self.invariant.1 c.restore.ensures.sound c.restore.ensures.store c.front-kept.ensures

pub returns-clause-current : goal.returns-clause-current
returns-clause-current c =
    subst (λ (f : Followed). f.saved ≡ (frames_of c.restore.new.self).current ∷ drop 1 f.saved) c.self.view_is c.restore.ensures.current

pub returns-clause-saved : goal.returns-clause-saved
returns-clause-saved c = c.restore.ensures.saved ∙ ap (λ (f : Followed). f.saved) c.self.view_is

pub returns-clause-tuples : goal.returns-clause-tuples
returns-clause-tuples c =
    let now = c.restore.new.self.store in
    let past = past_stays c.self.inside.tie c.self.inside.linked c.restore.new.self c.front-kept.result c.self.invariant.1 c.restore.ensures.sound c.restore.ensures.store c.front-kept.ensures in
    tuples_same (past_of c.self.inside.tie now) (past_of c.go_back.new.self now) c.self.inside.spots c.go_back.ensures.kept
    (subst (λ (h : History). AreThere h c.self.inside.spots) (sym past) c.self.invariant.2)
    ∙ ap (λ (h : History). kept_tuples h c.self.inside.spots) past
    ∙ ap (λ (f : Followed). f.tuples) c.self.view_is

pub invariant_of-self : goal.invariant_of-self
invariant_of-self c =
    let now = c.restore.new.self.store in
    let past = past_stays c.self.inside.tie c.self.inside.linked c.restore.new.self c.front-kept.result c.self.invariant.1 c.restore.ensures.sound c.restore.ensures.store c.front-kept.ensures in (
      c.restore.ensures.framed,
      c.go_back.ensures.tied,
      there_more (past_of c.self.inside.tie now) (past_of c.go_back.new.self now) c.self.inside.spots c.go_back.ensures.kept
          (subst (λ (h : History). AreThere h c.self.inside.spots) (sym past) c.self.invariant.2),
    )
