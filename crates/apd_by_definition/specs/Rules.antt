-- What the textbook's rules make of an equation and of those after it.
use Rattle.std.specs.Prelude.{◌≡◌, ℕ, ◌++◌, List, Bool, true, false}
use Rattle.std.specs.List.{zip}
use Rattle.apd_term.specs.Term.{Term, arguments}
use Rattle.apd_term.specs.Substitution.{extended, single, term_for}
use Rattle.apd_unify.specs.declared.rule.Rule.{Rule}
use Rattle.apd_unify.specs.declared.rule.Rule.TheVariants.{Delete, Decompose, Clash, Cycle, Eliminate}
use Rattle.apd_unify.specs.Textbook.{Equation, apply_equations}

-- whether the rule for l and r goes on, from the other equations and the pairs found before it to those after it
abbrev pub IsAfter : Rule → Term → Term → List Equation → List (ℕ × Term) → Bool → List Equation → List (ℕ × Term) → Type 0
IsAfter Delete l r es found goes es' found' = (goes ≡ true) × (es' ≡ es) × (found' ≡ found)
IsAfter Decompose l r es found goes es' found' = (goes ≡ true) × (es' ≡ zip (arguments l) (arguments r) ++ es) × (found' ≡ found)
IsAfter Clash l r es found goes es' found' = goes ≡ false
IsAfter Cycle l r es found goes es' found' = goes ≡ false
IsAfter (Eliminate v t) l r es found goes es' found' =
    (goes ≡ true) × (es' ≡ apply_equations (term_for (single v t)) es) × (found' ≡ extended found v t)
