use Rattle.std.proofs.Common.{◌≡◌, map}
use Rattle.apd_term.specs.Substitution.{term_for}
use Rattle.apd_unify.specs.Textbook.{apply_equations}
use Rattle.apd_by_definition.proofs.unify.substituted.Given as goal

abbrev pub invariant-equations : goal.invariant-equations
invariant-equations l = l.rest.items ≡ apply_equations (term_for l.s) (map (λ e. e.now) l.yielded)
