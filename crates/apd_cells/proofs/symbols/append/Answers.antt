use Rattle.std.proofs.Common.{◌≡◌, ◌∙◌, ap, arith, length}
use Rattle.apd_term.specs.Canonical.{shifted}
use Rattle.apd_term.specs.Term.{variables}
use Rattle.apd_cells.specs.Store.{above}
use Rattle.apd_cells.proofs.Loading.{above-ge}
use Rattle.apd_cells.proofs.symbols.append.Goals as goal

pub returns-clause-variables : goal.returns-clause-variables
returns-clause-variables c =
    let vs = variables (shifted c.args.base c.args.t.now) in
    let there : c.len.result ≡ length c.args.bindings.now.items = omega arith in
    let count : c.in_ok-count.count ≡ above (length c.args.bindings.now.items) vs = c.in_ok-count.ensures.count ∙ ap (λ n. above n vs) there in
    omega (arith, c.in_ok-make_room.ensures.ok, count, above-ge (length c.args.bindings.now.items) vs)
