use Rattle.std.proofs.Common.{◌∙◌, ap, subst, sym, take}
use Rattle.apd_past.specs.History.{History, IsRight, history_of}
use Rattle.apd_tuples.specs.Tuples.{kept_tuples, AreThere}
use Rattle.apd_following.specs.Followed.{Followed}
use Rattle.apd_following.proofs.following.Following.into_kept.Goals as goal

pub into_past-requires : goal.into_past-requires
into_past-requires c =
    subst (λ z. IsRight (take c.self.inside.tie.cells z) c.self.inside.tie.journal.variables c.self.inside.tie.journal.spans) (sym c.into_cells-cells.ensures) c.self.invariant.1.right

pub new-requires : goal.new-requires
new-requires c =
    subst (λ (h : History). AreThere h c.self.inside.spots)
    (sym (c.into_past.ensures ∙ ap (λ z. history_of (take c.self.inside.tie.cells z) c.self.inside.tie.journal) c.into_cells-cells.ensures)) c.self.invariant.2

pub returns : goal.returns
returns c =
    c.new.ensures
    ∙ ap (λ (h : History). kept_tuples h c.self.inside.spots)
    (c.into_past.ensures ∙ ap (λ z. history_of (take c.self.inside.tie.cells z) c.self.inside.tie.journal) c.into_cells-cells.ensures)
    ∙ ap (λ (f : Followed). f.tuples) c.self.view_is
