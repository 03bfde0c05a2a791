use Rattle.std.proofs.Common.{refl}
use Rattle.apd_cells.specs.Store.{written}
use Rattle.apd_resolved.proofs.Noticing.{sees_more, sees_all}
use Rattle.apd_resolved.proofs.reaching.see_written.Goals as goal

pub loop-symbol-preserved : goal.loop-symbol-preserved
loop-symbol-preserved c =
    sees_more c.args.seen.now c.loop-symbol.seen c.placed.new.self c.written-symbols.result.now c.loop-symbol.symbol-index _
    c.loop-symbol.invariant c.loop-symbol-test.true refl c.in_ok-placed.ensures.order

pub returns-clause-seen : goal.returns-clause-seen
returns-clause-seen c =
    sees_all c.args.seen.now c.loop-symbol.seen c.written-symbols.result.now c.loop-symbol.symbol-index (written c.args.heap.now.cells c.args.at)
    c.loop-symbol.invariant c.loop-symbol-test.false c.written-symbols.ensures.symbols
