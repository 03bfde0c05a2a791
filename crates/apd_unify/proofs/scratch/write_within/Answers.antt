use Rattle.std.proofs.Common.{◌∷◌, length, ap, refl, arith}
use Rattle.apd_cells.specs.Store.{term_at}
use Rattle.apd_cells.specs.Work.{runs_symbols}
use Rattle.apd_cells.proofs.Passing.{started, goes_and_passes}
use Rattle.apd_cells.proofs.Placing.{writing_first, writing_more}
use Rattle.apd_unify.proofs.scratch.write_within.Goals as goal

pub symbols-init : goal.symbols-init
symbols-init c =
    let k = started c.args.heap.now c.args.at c.clear.new.self _ c.requires c.clear.ensures refl in
    record {
      right = (k.right.here, k.right.rest);
      writing = writing_first c.args.order.now (term_at c.args.heap.now c.args.at) c.clear-2.new.self.items
          (runs_symbols c.args.heap.now (record { at = c.args.at; left = 1 } ∷ c.clear.new.self)) c.clear-2.ensures.items k.symbols;
      within = omega (arith, ap length c.clear-2.ensures.items);
    }

pub symbols-preserved : goal.symbols-preserved
symbols-preserved c = record {
  right = c.in_ok-passed.ensures.right;
  writing = writing_more c.args.order.now c.symbols.order c.placed.new.self (term_at c.args.heap.now c.args.at) c.symbols.symbols.items c.push.new.self.items
      (runs_symbols c.args.heap.now (c.symbols.here ∷ c.symbols.runs)) (runs_symbols c.args.heap.now (c.in_ok-passed.passed.next ∷ c.pass.new.rest))
      c.in_ok-passed.passed.symbol c.in_ok-placed.placed c.symbols.invariant.writing
      (goes_and_passes c.args.heap.now c.symbols.here c.symbols.runs c.in-Some.run' c.next_run.new.rest c.in_ok-passed.passed.symbol
      (c.in_ok-passed.passed.next ∷ c.pass.new.rest) c.in-Some.ensures c.in_ok-passed.ensures)
      c.in_ok-placed.ensures.order c.in_ok-placed.ensures.symbol c.in_ok-push.ensures.items;
  within = omega (arith, c.in_ok-push.ensures.len, c.symbols.invariant.within, c.if-len-limit.false);
}
