use Rattle.std.proofs.Common.{◌≡◌, ℕ, ◌<◌, ◌≤◌, ◌-◌, length, Some}
use Rattle.std.specs.Prelude.{slice_get}
use Rattle.apd_boxes.specs.declared.boxes.KeptBox.{KeptBox}
use Rattle.apd_record.proofs.finding.child_rising.Given as goal

-- the boxes before these were called from earlier points, and those behind them from later ones
abbrev pub invariant-halves : goal.invariant-halves
invariant-halves l =
    record {
      order : l.low ≤ l.high;
      within : l.high ≤ length l.boxes.boxes;
      below : (i : ℕ) (b : KeptBox) → slice_get l.boxes.boxes i ≡ Some b → i < l.low → b.from < l.from;
      above : (i : ℕ) (b : KeptBox) → slice_get l.boxes.boxes i ≡ Some b → l.high ≤ i → l.from < b.from;
    }

abbrev pub decreases-halves : goal.decreases-halves
decreases-halves l = l.high - l.low
