use Rattle.std.proofs.Common.{◌+◌, subst}
use Rattle.apd_term.specs.Term.{apply, variable, variables, IsAmong}
use Rattle.apd_frames.proofs.Instancing.{among_atom}
use Rattle.apd_by_definition.proofs.Walks.{mapped_more}
use Rattle.apd_by_definition.proofs.engine.tuples.shifted_terms.Goals as goal

pub shifted-requires : goal.shifted-requires
shifted-requires c =
    λ v o. c.requires v (among_atom c.args.terms.now c.terms.term-index v c.term-item.result c.terms-test.true (subst (λ y. IsAmong (variables y) v) c.term-item.is o))

pub terms-preserved : goal.terms-preserved
terms-preserved c =
    mapped_more (apply (λ v. variable (c.args.base + v))) c.args.terms.now c.terms.all _ c.terms.term-index c.term-item.result c.in_ok-moved.moved
    c.in_ok-push.ensures.ok c.terms-test.true c.term-item.is c.terms.invariant c.in_ok-moved.ensures
