use Rattle.std.proofs.Common.{ℕ, get_or, refl, ◌∙◌, sym}
use Rattle.std.specs.Prelude.{slice_get}
use Rattle.apd_index.specs.Retrieval.{is_above}
use Rattle.apd_index.proofs.Telling.{any-at}
use Rattle.apd_index.proofs.generals.some_above.Goals as goal

pub returns-then-branch : goal.returns-then-branch
returns-then-branch c =
    any-at (λ (k : ℕ). is_above c.args.atom.now (slice_get c.args.atoms.now k)) c.args.places.now c.places.place-index 0 (get_or c.args.places.now c.places.place-index 0) c.in_ok-is_above.field-0
    c.places-test.true refl c.in_ok-is_above.ensures c.if-branch.true ∙ sym c.places.invariant
