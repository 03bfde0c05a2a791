use Rattle.std.proofs.Common.{◌≡◌, ◌∙◌, ◌-◌, arith, drop, length, subst, sym, take}
use Rattle.std.proofs.lemmas.List.{length-drop, take_all}
use Rattle.apd_unify.specs.Copies.{Begins}
use Rattle.apd_cells.specs.Store.{term_at}
use Rattle.apd_unify.proofs.Copying.{is_copied}
use Rattle.apd_unify.proofs.copies.checked.Goals as goal

pub returns : goal.returns
returns c =
    let s = c.args.heap.now in
    let xs = c.args.symbols.now in
    let from = c.in_ok-from.from in
    let z : c.arity_of.result ≡ 0 = omega arith in
    let rest : take (length xs - from) (drop from xs) ≡ drop from xs = take_all (length xs - from) (drop from xs) (omega (arith, length-drop from xs)) in
    is_copied s xs from c.in_ok-size.size c.args.hint.cell c.symbol-symbol.result (omega (arith, c.if-hint-cells.false, c.cells.ensures)) c.symbol-symbol.ensures.symbol (sym c.arity_of.ensures ∙ z)
    c.if-from-symbols.false (subst (λ ys. Begins (term_at s c.args.hint.cell) ys c.in_ok-size.size) rest c.in_ok-size.ensures)
