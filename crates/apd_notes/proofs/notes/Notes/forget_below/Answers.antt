use Rattle.std.proofs.Common.{◌∙◌, ap, subst, sym}
use Rattle.std.specs.Prelude.{reverse}
use Rattle.apd_notes.specs.Notes.{forgotten, notes_in, AreHands, IsNewestBranch}
use Rattle.apd_notes.proofs.Kept.{forgotten_at, forgotten_none}
use Rattle.apd_notes.proofs.notes.Notes.forget_below.Goals as goal

pub returns-in-None : goal.returns-in-None
returns-in-None c =
    sym c.self.view_is ∙ forgotten_none c.self.inside.oldest_first.items (subst AreHands c.as_slice-rows.ensures.value c.in-None.ensures) ∙ ap forgotten c.self.view_is

pub returns-in-Some : goal.returns-in-Some
returns-in-Some c =
    ap (λ xs. notes_in (reverse xs)) c.remove.ensures.by_index.2
    ∙ forgotten_at c.self.inside.oldest_first.items c.in-Some.place (subst (λ xs. IsNewestBranch xs c.in-Some.place) c.as_slice-rows.ensures.value c.in-Some.ensures)
    ∙ ap forgotten c.self.view_is
