use Rattle.std.proofs.Common.{◌∙◌, ap, sym, subst}
use Rattle.apd_term.specs.Term.{predicate_of}
use Rattle.apd_term.specs.declared.tuple.Tuple.{Tuple}
use Rattle.apd_divide.specs.Referring.{tuple_in, IsTupleThere}
use Rattle.apd_divide.proofs.Referring.{ground_head}
use Rattle.apd_divide.proofs.node_tuple.NodeTuple.pred.Goals as goal

pub returns-in-Recorded : goal.returns-in-Recorded
returns-in-Recorded c =
    let there = subst IsTupleThere c.in-Recorded.is c.self.invariant in
    sym there.1.pred_is ∙ ap predicate_of (ground_head _ _ _ there.1) ∙ ap (λ (t : Tuple). predicate_of t.head) (ap tuple_in (sym c.in-Recorded.is) ∙ c.self.view_is)

pub returns-in-Own : goal.returns-in-Own
returns-in-Own c = c.pred.ensures ∙ ap predicate_of c.head.ensures ∙ ap (λ (t : Tuple). predicate_of t.head) c.deref.ensures ∙ ap (λ (t : Tuple). predicate_of t.head) (ap tuple_in (sym c.in-Own.is) ∙ c.self.view_is)
