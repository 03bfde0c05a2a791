use Rattle.std.proofs.Common.{List}
use Rattle.apd_index.specs.Columns.{AreIn}
use Rattle.apd_index.specs.declared.columns.ColumnEntry.{ColumnEntry}
use Rattle.apd_index.proofs.gathered.put_back.Given as goal

abbrev pub invariant-newer : goal.invariant-newer
invariant-newer l = (column : List ColumnEntry) → AreIn column l.fn.entries.items → AreIn column l.newer → AreIn column l.entries.items
