use Rattle.std.proofs.Common.{◌≡◌, ℕ, [], ◌∷◌, ap, sym, ◌∙◌}
use Rattle.apd_term.specs.declared.term.Sym.TheVariants.{Fun}
use Rattle.apd_cells.specs.First.{first_symbol}
use Rattle.apd_cells.specs.Store.{term_at}
use Rattle.apd_arith.specs.Value.{value, value_of}
use Rattle.apd_frames.proofs.Valued.{value-one, value-two, value-other}
use Rattle.apd_frames.proofs.evaluating.+value.Goals as goal

pub value_within-returns-in_ok-only-in-Fun-default-eq1 : goal.value_within-returns-in_ok-only-in-Fun-default-eq1
value_within-returns-in_ok-only-in-Fun-default-eq1 t c =
    let s = c.args.store.now in
    let f = c.in-Fun-default-eq1.name in
    let e : first_symbol (term_at s c.args.cell.0) ≡ Fun f 1 = sym c.symbol.ensures ∙ c.in-Fun-default-eq1.is ∙ ap (λ (n : ℕ). Fun f n) (sym c.in-Fun-default-eq1.field-1-is ∙ c.in-Fun-default-eq1.field-1-test) in
    c.value_of_one.ensures
    ∙ ap (λ x. value_of f (x ∷ [])) c.in_ok-only-in-Fun-default-eq1.ensures
    ∙ sym (value-one (term_at s c.args.cell.0) (term_at s c.only_argument.result.0) f e c.only_argument.ensures.is)

pub value_within-returns-in_ok-second-in-Fun-default-eq2 : goal.value_within-returns-in_ok-second-in-Fun-default-eq2
value_within-returns-in_ok-second-in-Fun-default-eq2 t c =
    let s = c.args.store.now in
    let f = c.in-Fun-default-eq2.name in
    let e : first_symbol (term_at s c.args.cell.0) ≡ Fun f 2 = sym c.symbol.ensures ∙ c.in-Fun-default-eq2.is ∙ ap (λ (n : ℕ). Fun f n) (sym c.in-Fun-default-eq2.field-1-is ∙ c.in-Fun-default-eq2.field-1-test) in
    c.value_of_two.ensures
    ∙ ap (λ x. value_of f (x ∷ c.in_ok-second-in-Fun-default-eq2.second ∷ [])) c.in_ok-first-in-Fun-default-eq2.ensures
    ∙ ap (λ y. value_of f (value (term_at s c.two_arguments.result.0.0) ∷ y ∷ [])) c.in_ok-second-in-Fun-default-eq2.ensures
    ∙ sym (value-two (term_at s c.args.cell.0) (term_at s c.two_arguments.result.0.0) (term_at s c.two_arguments.result.1.0) f e c.two_arguments.ensures.are)

pub value_within-returns-in-Fun : goal.value_within-returns-in-Fun
value_within-returns-in-Fun t c =
    sym (value-other (term_at c.args.store.now c.args.cell.0) c.in-Fun.field-0 c.in-Fun.field-1 (sym c.symbol.ensures ∙ c.in-Fun.is)
    (λ k. c.in-Fun.field-1-test.0.1 (c.in-Fun.field-1-is ∙ k)) (λ k. c.in-Fun.field-1-test.1 (c.in-Fun.field-1-is ∙ k)))
