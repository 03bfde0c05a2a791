use Rattle.apd_term.specs.Term.{arguments}
use Rattle.apd_unify.proofs.Worklist.{pushed_place}
use Rattle.apd_by_definition.proofs.unify.push_arguments.Goals as goal

pub places-preserved : goal.places-preserved
places-preserved c =
    pushed_place (arguments c.args.left.now) (arguments c.args.right.now) c.places.k c.in_ok-arg.field-0 c.in_ok-arg-2.field-0
    c.args.equations.now.items c.places.equations.items c.push_front.new.self.items
    c.places-test.true c.in_ok-arg.ensures c.in_ok-arg-2.ensures c.places.invariant c.in_ok-push_front.ensures.items
