use Rattle.std.proofs.Common.{arith, refl}
use Rattle.apd_cells.proofs.Appending.{HasAppended, appended_all, appended_more, appended_none, occurs_at}
use Rattle.apd_cells.proofs.symbols.append_symbols.Goals as goal

pub raised-moved-requires : goal.raised-moved-requires
raised-moved-requires c =
    λ v is. c.requires v (occurs_at c.args.t.now c.symbols-symbols.result.now c.loop-symbol.symbol-index v c.symbols-symbols.ensures c.loop-symbol-test.true is)

pub loop-symbol-init : goal.loop-symbol-init
loop-symbol-init c = record {
  done = appended_none c.args.base c.symbols-symbols.result.now c.args.cells.now.items c.room_for.new.v.items c.args.there c.room_for.ensures.items;
  room = omega (arith, c.in_ok-room_for.ensures.room);
}

pub loop-symbol-preserved : goal.loop-symbol-preserved
loop-symbol-preserved c = record {
  done = appended_more c.args.base c.symbols-symbols.result.now c.loop-symbol.symbol-index
      c.args.cells.now.items c.loop-symbol.cells.items c.push_reserved.new.self.items
      c.args.there c.loop-symbol.count c.in_ok-count.count _ c.raised-moved.result
      c.loop-symbol.invariant.done c.loop-symbol-test.true refl c.raised-moved.ensures
      c.in_ok-count.ensures c.push_reserved.ensures.items;
  room = omega (arith, c.loop-symbol.invariant.room, c.push_reserved.ensures.len, c.push_reserved.ensures.capacity, c.loop-symbol-test.true);
}

whole : (c : goal.After-loop-symbol) → HasAppended c.args.base c.args.t.now c.args.cells.now.items c.loop-symbol.cells.items c.args.there c.loop-symbol.count
whole c =
    appended_all c.args.base c.args.t.now c.symbols-symbols.result.now c.loop-symbol.symbol-index
    c.args.cells.now.items c.loop-symbol.cells.items c.args.there c.loop-symbol.count
    c.loop-symbol.invariant.done c.symbols-symbols.ensures c.loop-symbol-test.false

pub returns-clause-cells : goal.returns-clause-cells
returns-clause-cells c = (whole c).put

pub returns-clause-count : goal.returns-clause-count
returns-clause-count c = (whole c).count
