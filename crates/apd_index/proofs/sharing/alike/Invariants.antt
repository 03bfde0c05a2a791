use Rattle.std.proofs.Common.{ℕ}
use Rattle.apd_term.specs.Term.{IsAmong}
use Rattle.apd_marks.specs.Positions.{any_term}
use Rattle.apd_bits.specs.Rows.{HasBit}
use Rattle.apd_index.specs.Nodes.{noted_at}
use Rattle.apd_index.specs.Spots.{Leaves, IsSpot}
use Rattle.apd_index.specs.declared.sharing.SymbolSpot.{SymbolSpot}
use Rattle.apd_index.proofs.sharing.alike.Given as goal

abbrev pub invariant-spots : goal.invariant-spots
invariant-spots l = (k : ℕ) → IsAmong (noted_at l.nodes any_term) k → ((s : SymbolSpot) → IsSpot l.atom s → Leaves l.nodes k s) → HasBit l.row k
