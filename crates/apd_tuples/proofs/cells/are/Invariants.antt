use Rattle.std.proofs.Common.{◌≡◌, ◌-◌, length, take}
use Rattle.apd_tuples.specs.Cells.{kept_cells}
use Rattle.apd_tuples.proofs.cells.are.Given as goal

abbrev pub invariant-cells : goal.invariant-cells
invariant-cells l = take l.i l.kept ≡ kept_cells (take l.i l.cells)

abbrev pub decreases-cells : goal.decreases-cells
decreases-cells l = length l.cells - l.i
