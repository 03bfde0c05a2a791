use Rattle.std.proofs.Common.{[], ◌∷◌, length}
use Rattle.apd_cells.specs.Work.{runs_symbols}
use Rattle.apd_past.proofs.Grounding.{IsSeeing}
use Rattle.apd_past.proofs.then.Then.is_seen_ground.Given as goal

abbrev pub invariant-symbols : goal.invariant-symbols
invariant-symbols l = IsSeeing l.self l.fn.cell.0 l.here

abbrev pub decreases-symbols : goal.decreases-symbols
decreases-symbols l = length (runs_symbols l.self (l.here ∷ []))
