use Rattle.std.proofs.Common.{arith, get_or, refl, subst}
use Rattle.std.proofs.lemmas.List.{take_all}
use Rattle.apd_term.specs.declared.term.Sym.TheVariants.{Var}
use Rattle.apd_cells.specs.Slots.{Places, Placing}
use Rattle.apd_cells.proofs.Standing.{placing_first, placing_more}
use Rattle.apd_cells.proofs.slots.append_placed.Goals as goal

pub loop-symbol-init : goal.loop-symbol-init
loop-symbol-init c = record {
  done = placing_first c.args.cells.now.items c.room_for.new.v.items c.args.there c.args.slots.now.items c.requires c.room_for.ensures.items;
  room = omega (arith, c.in_ok-room_for.ensures.room);
}

pub loop-symbol-preserved : goal.loop-symbol-preserved
loop-symbol-preserved c = record {
  done = placing_more c.args.cells.now.items c.loop-symbol.cells.items c.push_reserved.new.self.items
      c.args.there c.loop-symbol.count c.in_ok-count.count
      c.args.slots.now.items c.loop-symbol.slots.items c.place.new.slots.items
      c.args.symbols.now c.loop-symbol.symbol-index (get_or c.args.symbols.now c.loop-symbol.symbol-index (Var 0)) c.in_ok-put.put
      c.loop-symbol.invariant.done c.loop-symbol-test.true refl
      (subst (λ cs. Places cs c.loop-symbol.count c.loop-symbol.slots.items c.place.new.slots.items (get_or c.args.symbols.now c.loop-symbol.symbol-index (Var 0)) c.in_ok-put.put) c.as_slice.ensures.value c.in_ok-put.ensures)
      c.in_ok-count.ensures c.push_reserved.ensures.items;
  room = omega (arith, c.loop-symbol.invariant.room, c.push_reserved.ensures.len, c.push_reserved.ensures.capacity, c.loop-symbol-test.true);
}

pub returns-clause-put : goal.returns-clause-put
returns-clause-put c =
    subst (Placing c.args.cells.now.items c.loop-symbol.cells.items c.args.there c.loop-symbol.count c.args.slots.now.items c.loop-symbol.slots.items)
    (take_all c.loop-symbol.symbol-index c.args.symbols.now c.loop-symbol-test.false) c.loop-symbol.invariant.done
