use Rattle.std.proofs.Common.{◌∙◌, sym, refl}
use Rattle.std.proofs.lemmas.Bool.{false≢true}
use Rattle.apd_unify.proofs.Solving.{may_bind, bound_to_term, no_unifier_cycle}
use Rattle.apd_unify.proofs.unify.solve_variable.Goals as goal

pub returns-then-branch-clause-ok : goal.returns-then-branch-clause-ok
returns-then-branch-clause-ok c = (
  refl,
  no_unifier_cycle c.args.heap.now c.args.v c.args.at c.args.to c.requires.store c.requires.variable.inside c.requires.to c.requires.variable.is c.requires.variable.free c.requires.term
      (c.in_ok-stands_in.ensures.0 c.if-branch.true),
)

pub bind-requires : goal.bind-requires
bind-requires c =
    may_bind c.args.heap.now c.args.v c.args.at c.args.to c.requires.store c.requires.variable.inside c.requires.to c.requires.variable.is c.requires.variable.free
    (λ o. false≢true (sym c.if-branch.false ∙ c.in_ok-stands_in.ensures.1 o)) (λ w is. absurd (c.requires.term w is))

pub returns-clause-ok : goal.returns-clause-ok
returns-clause-ok c =
    bound_to_term c.args.heap.now c.bind.new.self c.args.v c.args.at c.args.to c.requires.variable.inside c.requires.variable.is c.requires.variable.free
    (λ o. false≢true (sym c.if-branch.false ∙ c.in_ok-stands_in.ensures.1 o)) c.in_ok-bind.ensures.ok
