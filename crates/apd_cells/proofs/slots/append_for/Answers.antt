use Rattle.std.proofs.Common.{◌≡◌, arith, length, subst, sym}
use Rattle.apd_term.specs.Canonical.{shifted}
use Rattle.apd_term.specs.Term.{term_of, variables}
use Rattle.apd_cells.specs.Slots.{HasPut}
use Rattle.apd_cells.proofs.Loading.{above-ge}
use Rattle.apd_cells.proofs.slots.append_for.Goals as goal

pub returns-clause-put : goal.returns-clause-put
returns-clause-put c = λ means a.
    let cells = c.args.cells.now.items in
    let new = c.append_symbols.new.cells.items in
    let slots = c.append_symbols.new.slots.items in
    let t = term_of c.args.symbols.now in
    let there : c.len.result ≡ length c.args.bindings.now.items = omega arith in
    let h : HasPut means cells new c.len.result c.in_ok-count.count c.args.slots.now.items slots t = c.in_ok-count.ensures.put means a in
    let count : length c.make_room.new.bindings.items ≡ c.in_ok-count.count =
    omega (arith, c.in_ok-make_room.ensures.ok, h.count, above-ge c.len.result (variables (shifted 0 h.term))) in
    subst (λ k. HasPut means cells new (length c.args.bindings.now.items) k c.args.slots.now.items slots t) (sym count)
    (subst (λ k. HasPut means cells new k c.in_ok-count.count c.args.slots.now.items slots t) there h)
