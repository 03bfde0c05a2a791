use Rattle.std.proofs.Common.{◌≤◌, drop, length}
use Rattle.apd_notes.specs.Notes.{AreHands}
use Rattle.apd_notes.proofs.notes.newest_branch.Given as goal

abbrev pub invariant-rows : goal.invariant-rows
invariant-rows l = record {
  within : l.place ≤ length l.rows;
  hands : AreHands (drop l.place l.rows);
}

abbrev pub decreases-rows : goal.decreases-rows
decreases-rows l = l.place
