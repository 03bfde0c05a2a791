use Rattle.apd_index.proofs.Walked.{IsWalked}
use Rattle.apd_index.proofs.walk.note_symbols.Given as goal

abbrev pub invariant-symbols : goal.invariant-symbols
invariant-symbols l = IsWalked l.atom l.symbols l.place l.i l.fn.table l.table l.open.items l.is_right
