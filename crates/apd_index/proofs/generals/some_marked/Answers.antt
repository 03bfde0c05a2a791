use Rattle.std.proofs.Common.{ℕ, List, get_or, refl, ap, ◌∙◌, sym}
use Rattle.std.specs.Prelude.{slice_get}
use Rattle.std.specs.List.{list_any}
use Rattle.apd_marks.specs.Places.{places_at}
use Rattle.apd_index.specs.Retrieval.{is_above}
use Rattle.apd_index.proofs.Telling.{any-at}
use Rattle.apd_index.proofs.generals.some_marked.Goals as goal

pub returns-then-branch : goal.returns-then-branch
returns-then-branch c =
    any-at (λ (m : ℕ). list_any (λ (k : ℕ). is_above c.args.atom.now (slice_get c.args.atoms.now k)) (places_at c.args.places.now m)) c.as_slice-mark-items.result.now c.marks.mark-index 0
    (get_or c.as_slice-mark-items.result.now c.marks.mark-index 0) c.in_ok-some_above.field-0 c.marks-test.true refl
    (c.in_ok-some_above.ensures ∙ ap (λ (ps : List ℕ). list_any (λ (k : ℕ). is_above c.args.atom.now (slice_get c.args.atoms.now k)) ps) c.with_mark.ensures) c.if-branch.true
    ∙ sym c.marks.invariant
