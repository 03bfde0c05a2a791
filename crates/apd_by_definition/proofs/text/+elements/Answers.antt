use Rattle.std.proofs.Common.{arith, refl, sym, ap, ◌∙◌, ◌∷◌, ◌++◌}
use Rattle.std.proofs.lemmas.Result.{IfOk-weaker}
use Rattle.apd_by_definition.proofs.Arguments.{arg_smaller, cell_is}
use Rattle.apd_by_definition.proofs.text.+elements.Goals as goal

pub elements-requires : goal.elements-requires
elements-requires t c = let s = arg_smaller c.args.list.now c.in_ok-sides.sides.right 1 c.in_ok-sides.ensures.right in (omega (arith, s, c.decreases), tt)

pub returns-then-is_cell : goal.returns-then-is_cell
returns-then-is_cell t c =
    let l = c.in_ok-sides.sides.left in
    let r = c.in_ok-sides.sides.right in
    IfOk-weaker c.joined-all.result _ _
    (λ all h. h
    ∙ ap (λ ts. ts ++ c.as_slice.result.now) c.in-Ok.ensures
    ∙ ap (λ ts. l ∷ ts) (c.as_slice.ensures ∙ c.in-Ok-elements.ensures)
    ∙ sym (cell_is c.args.list.now l r (c.if-is_cell.ensures.0 refl) c.in_ok-sides.ensures.left c.in_ok-sides.ensures.right))
    c.joined-all.ensures
