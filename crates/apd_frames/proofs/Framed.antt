-- Links over a store that are the same, or whose store is.
use Rattle.std.proofs.Common.{◌≡◌, ◌∙◌, ap, subst, sym}
use Rattle.apd_frames.specs.declared.linked.Linked.{Linked}
use Rattle.apd_frames.specs.Framed.{AreFramed, IsSame, frames_of}
use Rattle.apd_frames.specs.Linked.{IsFramed}
use Rattle.apd_frames.proofs.Current.{view_of}

pub same_frames : (old new : Linked) → IsSame old new → frames_of new ≡ frames_of old
same_frames old new h =
    ap (λ s. view_of s new.links new.innermost new.notes) h.store
    ∙ ap (λ ls. view_of old.store ls new.innermost new.notes) h.links
    ∙ ap (λ k. view_of old.store old.links k new.notes) h.innermost
    ∙ ap (view_of old.store old.links old.innermost) h.notes

pub same_framed : (old new : Linked) → IsSame old new → AreFramed old → AreFramed new
same_framed old new h f =
    subst (λ s. IsFramed s new.links new.innermost new.notes) (sym h.store)
    (subst (λ ls. IsFramed old.store ls new.innermost new.notes) (sym h.links)
    (subst (λ k. IsFramed old.store old.links k new.notes) (sym h.innermost)
    (subst (IsFramed old.store old.links old.innermost) (sym h.notes) f)))
