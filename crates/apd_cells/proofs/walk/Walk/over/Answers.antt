use Rattle.std.proofs.Common.{refl}
use Rattle.apd_cells.proofs.Passing.{started}
use Rattle.apd_cells.proofs.walk.Walk.over.Goals as goal

pub returns-clause-right : goal.returns-clause-right
returns-clause-right c = (started c.args.heap.now c.args.at c.new.result _ c.requires c.new.ensures refl).right

pub returns-clause-symbols : goal.returns-clause-symbols
returns-clause-symbols c = (started c.args.heap.now c.args.at c.new.result _ c.requires c.new.ensures refl).symbols
