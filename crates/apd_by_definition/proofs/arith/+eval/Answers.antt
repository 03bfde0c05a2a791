use Rattle.std.proofs.Common.{rules, ◌≡◌, ℕ, ℤ, w64, FitsSigned, Ok, get_or, length, ap, sym, ◌∙◌, arith}
use Rattle.std.proofs.lemmas.Int.{to_z-of_z}
use Rattle.apd_term.specs.Term.{spell}
use Rattle.apd_term.specs.declared.term.Sym.TheVariants.{Var, Fun}
use Rattle.apd_term.proofs.Spelling.{length-spell, size_positive}
use Rattle.apd_arith.specs.Value.{Value, of_one_by, of_two_by}
use Rattle.apd_arith.specs.Operations.{unary_operation, binary_operation}
use Rattle.apd_by_definition.proofs.Recursion.{value-variable, value-integer, value-other, value-one, value-two, smaller}
use Rattle.apd_by_definition.proofs.arith.+eval.Goals as goal

pub bounds-0 : goal.bounds-0
bounds-0 t c = omega (arith, ap length c.symbols.ensures, length-spell c.args.expr.now, size_positive c.args.expr.now)

pub eval-value-requires : goal.eval-value-requires
eval-value-requires t c =
    let less = smaller c.args.expr.now 0 c.in_ok-only-in-Fun-default-eq1.only c.in_ok-only-in-Fun-default-eq1.ensures in
    (omega (arith, less, c.decreases), omega (arith, less))

pub eval-x-requires : goal.eval-x-requires
eval-x-requires t c =
    let less = smaller c.args.expr.now 0 c.in_ok-sides-in-Fun-default-eq2.sides.left c.in_ok-sides-in-Fun-default-eq2.ensures.left in
    (omega (arith, less, c.decreases), omega (arith, less))

pub eval-y-requires : goal.eval-y-requires
eval-y-requires t c =
    let less = smaller c.args.expr.now 1 c.in_ok-sides-in-Fun-default-eq2.sides.right c.in_ok-sides-in-Fun-default-eq2.ensures.right in
    (omega (arith, less, c.decreases), omega (arith, less))

pub returns-in-Var : goal.returns-in-Var
returns-in-Var t c m =
    let e : get_or (spell c.args.expr.now) 0 (Var 0) ≡ Var c.in-Var.field-0 = ap (λ s. get_or s 0 (Var 0)) (sym c.symbols.ensures) ∙ c.in-Var.is in
    sym (value-variable c.args.expr.now (Var 0) c.in-Var.field-0 e)

pub returns-in-Int : goal.returns-in-Int
returns-in-Int t c m =
    let i : ℤ = c.in-Int.i in
    let f : FitsSigned w64 c.in-Int.i = search rules in
    let e = ap (λ s. get_or s 0 (Var 0)) (sym c.symbols.ensures) ∙ c.in-Int.is in
    ap (λ (q : ℤ). let r : Value = Ok q in r) (to_z-of_z w64 i f) ∙ sym (value-integer c.args.expr.now (Var 0) i e)

pub returns-in_ok-only-in-Fun-default-eq1 : goal.returns-in_ok-only-in-Fun-default-eq1
returns-in_ok-only-in-Fun-default-eq1 t c m =
    let e : get_or (spell c.args.expr.now) 0 (Var 0) ≡ Fun c.in-Fun-default-eq1.name 1 = ap (λ s. get_or s 0 (Var 0)) (sym c.symbols.ensures) ∙ c.in-Fun-default-eq1.is ∙ ap (λ (n : ℕ). Fun c.in-Fun-default-eq1.name n) (sym c.in-Fun-default-eq1.field-1-is ∙ c.in-Fun-default-eq1.field-1-test) in
    let o : c.of_one.result ≡ of_one_by (unary_operation c.in-Fun-default-eq1.name) c.eval-value.result = c.of_one.ensures ∙ ap (λ q. of_one_by q c.eval-value.result) c.named.ensures in
    o ∙ value-one c.args.expr.now (Var 0) c.in-Fun-default-eq1.name c.in_ok-only-in-Fun-default-eq1.only c.eval-value.result e c.in_ok-only-in-Fun-default-eq1.ensures c.eval-value.ensures (λ k. m (o ∙ k))

pub returns-in_ok-sides-in-Fun-default-eq2 : goal.returns-in_ok-sides-in-Fun-default-eq2
returns-in_ok-sides-in-Fun-default-eq2 t c m =
    let e : get_or (spell c.args.expr.now) 0 (Var 0) ≡ Fun c.in-Fun-default-eq2.name 2 = ap (λ s. get_or s 0 (Var 0)) (sym c.symbols.ensures) ∙ c.in-Fun-default-eq2.is ∙ ap (λ (n : ℕ). Fun c.in-Fun-default-eq2.name n) (sym c.in-Fun-default-eq2.field-1-is ∙ c.in-Fun-default-eq2.field-1-test) in
    let x : Value = c.eval-x.result in
    let y : Value = c.eval-y.result in
    let o : c.of_two.result ≡ of_two_by (binary_operation c.in-Fun-default-eq2.name) x y = c.of_two.ensures ∙ ap (λ q. of_two_by q c.eval-x.result c.eval-y.result) c.named-in-Fun-default-eq2.ensures in
    o ∙ value-two c.args.expr.now (Var 0) c.in-Fun-default-eq2.name c.in_ok-sides-in-Fun-default-eq2.sides.left c.in_ok-sides-in-Fun-default-eq2.sides.right x y e c.in_ok-sides-in-Fun-default-eq2.ensures.left c.in_ok-sides-in-Fun-default-eq2.ensures.right c.eval-x.ensures c.eval-y.ensures (λ k. m (o ∙ k))

pub returns-in-Fun : goal.returns-in-Fun
returns-in-Fun t c m =
    let e = ap (λ s. get_or s 0 (Var 0)) (sym c.symbols.ensures) ∙ c.in-Fun.is in
    sym (value-other c.args.expr.now (Var 0) c.in-Fun.field-0 c.in-Fun.field-1 e (λ k. c.in-Fun.field-1-test.0.1 (c.in-Fun.field-1-is ∙ k)) (λ k. c.in-Fun.field-1-test.1 (c.in-Fun.field-1-is ∙ k)))
