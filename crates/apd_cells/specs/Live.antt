-- A store as its parts are read.
use Rattle.std.specs.Prelude.{reverse}
use Rattle.apd_cells.specs.declared.live.Live.{Live}
use Rattle.apd_cells.specs.Stored.{Stored}

-- the store that has these parts
abbrev pub store_of : Live → Stored
store_of l = record { cells = l.cells.now; variables = l.variables; trail = reverse l.notes.now }
