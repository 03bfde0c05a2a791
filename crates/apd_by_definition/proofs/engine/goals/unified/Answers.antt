use Rattle.std.proofs.Common.{None, Some, ap, subst, refl}
use Rattle.apd_unify.specs.Unifier.{IsAnswer}
use Rattle.apd_by_definition.proofs.Answering.{is_answer}
use Rattle.apd_by_definition.proofs.engine.goals.unified.Goals as goal

pub returns-in-None : goal.returns-in-None
returns-in-None c = (
  None,
  subst (IsAnswer c.args.left.now c.args.right.now) c.in-None.is (is_answer c.args.left.now c.args.right.now c.in_ok-mgu.field-0 c.in_ok-mgu.ensures.unifies c.in_ok-mgu.ensures.idempotent c.in_ok-mgu.ensures.brings_no_variable c.in_ok-mgu.ensures.none),
  refl,
)

pub returns-in_ok-all-in-Some : goal.returns-in_ok-all-in-Some
returns-in_ok-all-in-Some c = (
  Some c.in-Some.s,
  subst (IsAnswer c.args.left.now c.args.right.now) c.in-Some.is (is_answer c.args.left.now c.args.right.now c.in_ok-mgu.field-0 c.in_ok-mgu.ensures.unifies c.in_ok-mgu.ensures.idempotent c.in_ok-mgu.ensures.brings_no_variable c.in_ok-mgu.ensures.none),
  ap Some c.in_ok-all-in-Some.ensures,
)
