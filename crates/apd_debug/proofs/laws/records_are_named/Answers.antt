use Rattle.apd_debug.proofs.NamedTrees.{run_record-named, tree-named}
use Rattle.apd_debug.proofs.laws.records_are_named.Goals as goal

pub returns : goal.returns
returns c = record { run = run_record-named; tree = tree-named }
