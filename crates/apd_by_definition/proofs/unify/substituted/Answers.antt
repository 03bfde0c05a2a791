use Rattle.apd_term.specs.Substitution.{term_for}
use Rattle.apd_unify.proofs.Worklist.{substituted_more}
use Rattle.apd_by_definition.proofs.unify.substituted.Goals as goal

pub equations-preserved : goal.equations-preserved
equations-preserved c =
    substituted_more (λ e. e.now) (term_for c.args.s.now) c.equations.yielded c.in-Some.equation
    c.equations.rest.items c.push_back.new.self.items c.in_ok-left.left c.in_ok-right.right
    c.equations.invariant c.in_ok-left.ensures c.in_ok-right.ensures c.in_ok-push_back.ensures.items
