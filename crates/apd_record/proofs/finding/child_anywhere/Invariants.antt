use Rattle.std.proofs.Common.{◌≡◌, ℕ, ◌<◌, Some, false}
use Rattle.std.specs.Prelude.{slice_get, ◌==◌}
use Rattle.apd_boxes.specs.declared.boxes.KeptBox.{KeptBox}
use Rattle.apd_record.proofs.finding.child_anywhere.Given as goal

-- none of those before was called from there
abbrev pub invariant-boxes : goal.invariant-boxes
invariant-boxes l = (i : ℕ) (b : KeptBox) → slice_get l.boxes.boxes i ≡ Some b → i < l.place → (b.from == l.from) ≡ false
