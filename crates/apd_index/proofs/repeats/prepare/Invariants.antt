use Rattle.apd_index.specs.Columns.{HasUnlikes}
use Rattle.apd_index.proofs.repeats.prepare.Given as goal

abbrev pub invariant-repeats : goal.invariant-repeats
invariant-repeats l = HasUnlikes l.table.columns l.unlikes
