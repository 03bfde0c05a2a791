use Rattle.std.proofs.Common.{◌-◌, length}
use Rattle.apd_clauses.proofs.pieces.note_atom.Given as goal

abbrev pub decreases-symbols : goal.decreases-symbols
decreases-symbols l = length l.symbols - l.at
