use Rattle.apd_index.specs.Chains.{entries_from}
use Rattle.apd_index.specs.Columns.{AreIn}
use Rattle.apd_index.proofs.Linked.{IsOn}
use Rattle.apd_index.proofs.gathered.newer.Given as goal

abbrev pub invariant-entries : goal.invariant-entries
invariant-entries l = record {
  on : IsOn l.entries l.fn.from l.at;
  newer : AreIn (entries_from l.entries l.fn.from) l.newer.items;
}

abbrev pub decreases-entries : goal.decreases-entries
decreases-entries l = l.at
