use Rattle.apd_cells.specs.Store.{term_at}
use Rattle.apd_cells.specs.Work.{walk_symbols}
use Rattle.apd_cells.proofs.Sought.{sought_first}
use Rattle.apd_cells.proofs.Skipping.{sought_same}
use Rattle.apd_resolved.proofs.reading.mentioned_soon.Goals as goal

pub symbols-init : goal.symbols-init
symbols-init c = record {
  right = c.skip_twins.ensures.right;
  sought = sought_same c.args.v (term_at c.args.heap.now c.args.at) (walk_symbols c.args.heap.now c.start.new.self) (walk_symbols c.args.heap.now c.skip_twins.new.self)
      (sought_first c.args.v (term_at c.args.heap.now c.args.at) (walk_symbols c.args.heap.now c.start.new.self) c.start.ensures.symbols) c.skip_twins.ensures.same;
}
