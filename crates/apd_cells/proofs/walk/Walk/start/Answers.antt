use Rattle.std.proofs.Common.{refl}
use Rattle.apd_cells.proofs.Passing.{started}
use Rattle.apd_cells.proofs.walk.Walk.start.Goals as goal

pub returns-clause-right : goal.returns-clause-right
returns-clause-right c = (started c.args.heap.now c.args.at c.clear.new.self _ c.requires c.clear.ensures refl).right

pub returns-clause-symbols : goal.returns-clause-symbols
returns-clause-symbols c = (started c.args.heap.now c.args.at c.clear.new.self _ c.requires c.clear.ensures refl).symbols
