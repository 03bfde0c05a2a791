use Rattle.std.proofs.Common.{◌≡◌, arith, length, map, subst, sym, take}
use Rattle.std.specs.List.{flat_map}
use Rattle.apd_term.specs.Spelling.{variable_in}
use Rattle.apd_term.specs.Term.{spell}
use Rattle.apd_cells.specs.Slots.{Placing, put_symbol}
use Rattle.apd_cells.proofs.Loading.{above-ge}
use Rattle.apd_cells.proofs.Together.{front_put, front_then, terms_all, terms_more, terms_none}
use Rattle.apd_cells.proofs.slots.append_all.Goals as goal

pub terms-init : goal.terms-init
terms-init c = terms_none c.args.cells.now.items (length c.args.bindings.now.items) c.len-count.result c.args.slots.now.items c.args.terms.now c.requires (omega arith)

pub append_placed-requires : goal.append_placed-requires
append_placed-requires c = c.terms.invariant.slots

pub returns-in_err-count-clause-front : goal.returns-in_err-count-clause-front
returns-in_err-count-clause-front c =
    front_then c.args.cells.now.items c.terms.cells.items c.append_placed.new.cells.items (length c.args.bindings.now.items) c.terms.count c.args.slots.now.items c.terms.slots.items
    (flat_map spell (take c.terms.term-index c.args.terms.now)) c.terms.invariant c.append_placed.ensures.front

pub terms-preserved : goal.terms-preserved
terms-preserved c =
    terms_more c.args.cells.now.items c.terms.cells.items c.append_placed.new.cells.items (length c.args.bindings.now.items) c.terms.count c.in_ok-count.count
    c.args.slots.now.items c.terms.slots.items c.append_placed.new.slots.items c.args.terms.now c.terms.term-index c.term-item.result c.symbols.result.now
    c.terms.invariant c.terms-test.true c.term-item.is c.symbols.ensures c.in_ok-count.ensures.put

pub returns-in_err-make_room-clause-front : goal.returns-in_err-make_room-clause-front
returns-in_err-make_room-clause-front c =
    front_put c.args.cells.now.items c.terms.cells.items (length c.args.bindings.now.items) c.terms.count c.args.slots.now.items c.terms.slots.items
    (flat_map spell (take c.terms.term-index c.args.terms.now)) c.terms.invariant

pub returns-clause-front : goal.returns-clause-front
returns-clause-front c =
    front_put c.args.cells.now.items c.terms.cells.items (length c.args.bindings.now.items) c.terms.count c.args.slots.now.items c.terms.slots.items
    (flat_map spell (take c.terms.term-index c.args.terms.now)) c.terms.invariant

pub returns-clause-put : goal.returns-clause-put
returns-clause-put c =
    let n = length c.args.bindings.now.items in
    let put = map (put_symbol c.terms.cells.items c.terms.slots.items) (flat_map spell (take c.terms.term-index c.args.terms.now)) in
    let count : length c.make_room.new.bindings.items ≡ c.terms.count =
    omega (arith, c.in_ok-make_room.ensures.ok, c.terms.invariant.count, above-ge n (flat_map variable_in put)) in
    subst (λ k. Placing c.args.cells.now.items c.terms.cells.items n k c.args.slots.now.items c.terms.slots.items (flat_map spell c.args.terms.now)) (sym count)
    (terms_all c.args.cells.now.items c.terms.cells.items n c.terms.count c.args.slots.now.items c.terms.slots.items c.args.terms.now c.terms.term-index c.terms.invariant c.terms-test.false)
