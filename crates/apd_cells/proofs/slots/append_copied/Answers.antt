use Rattle.std.proofs.Common.{arith, refl, subst, sym}
use Rattle.apd_term.specs.Term.{term_of}
use Rattle.apd_cells.specs.Slots.{IsPutFor, PlacesNext}
use Rattle.apd_cells.proofs.Stretching.{putting_first, putting_more, put_all}
use Rattle.apd_cells.proofs.slots.append_copied.Goals as goal

pub symbols-init : goal.symbols-init
symbols-init c = record {
  done = putting_first c.args.copied.now c.args.symbols.now c.args.cells.now.items c.room_for.new.v.items c.args.there c.args.slots.now.items c.requires.slots c.room_for.ensures.items;
  room = omega (arith, c.in_ok-room_for.ensures.room);
}

pub place_next-requires-clause-found : goal.place_next-requires-clause-found
place_next-requires-clause-found c = c.stretch_at-found.ensures.stretch c.args.symbols.now c.requires.stretches

pub symbols-preserved : goal.symbols-preserved
symbols-preserved c = record {
  done = putting_more c.args.copied.now c.args.symbols.now c.args.cells.now.items c.symbols.cells.items c.push_reserved.new.self.items
      c.args.there c.symbols.count c.in_ok-count.count c.args.slots.now.items c.symbols.slots.items c.place_next.new.slots.items
      c.symbols.at _ c.in_ok-put.put c.symbols.invariant.done
      (subst (λ cs. PlacesNext cs c.symbols.count c.symbols.slots.items c.place_next.new.slots.items c.args.symbols.now c.symbols.at c.in_ok-put.put) c.as_slice.ensures.value c.in_ok-put.ensures.places)
      (λ means a. subst (λ cs. IsPutFor means cs c.place_next.new.slots.items c.args.symbols.now c.symbols.at c.in_ok-put.put) c.as_slice.ensures.value
      (c.in_ok-put.ensures.put means (c.stretch_at-found.ensures.meant means c.args.symbols.now a)))
      c.in_ok-count.ensures c.push_reserved.ensures.items refl;
  room = omega (arith, c.symbols.invariant.room, c.push_reserved.ensures.len, c.push_reserved.ensures.capacity, c.symbols-test.true, c.in_ok-put.ensures.places.some, c.in_ok-put.ensures.places.within);
}

pub returns-clause-put : goal.returns-clause-put
returns-clause-put c = λ means a.
    put_all means c.args.copied.now c.args.symbols.now c.args.cells.now.items c.symbols.cells.items c.args.there c.symbols.count c.args.slots.now.items c.symbols.slots.items c.symbols.at (term_of c.args.symbols.now)
    a c.symbols.invariant.done c.symbols-test.false (sym c.requires.whole)
