use Rattle.std.proofs.Common.{◌≡◌, ◌∙◌, ap, sym, subst}
use Rattle.std.specs.Prelude.{IfOk}
use Rattle.apd_term.specs.declared.tuple.Tuple.{Tuple}
use Rattle.apd_divide.specs.Referring.{tuple_in, IsTupleThere}
use Rattle.apd_divide.proofs.Referring.{ground_head}
use Rattle.apd_divide.proofs.node_tuple.NodeTuple.head.Goals as goal

pub head_at-requires : goal.head_at-requires
head_at-requires c = (subst IsTupleThere c.in-Recorded.is c.self.invariant).0

pub returns-in-Recorded : goal.returns-in-Recorded
returns-in-Recorded c =
    let there = subst IsTupleThere c.in-Recorded.is c.self.invariant in
    subst (λ (t : Tuple). IfOk c.head_at.result (λ r. r ≡ t.head)) (ap tuple_in (sym c.in-Recorded.is) ∙ c.self.view_is)
    (subst (λ h. IfOk c.head_at.result (λ r. r ≡ h)) (ground_head _ _ _ there.1) c.head_at.ensures)

pub returns-in-Own : goal.returns-in-Own
returns-in-Own c =
    subst (λ (t : Tuple). IfOk c.copy.result (λ r. r ≡ t.head)) (ap tuple_in (sym c.in-Own.is) ∙ c.self.view_is)
    (subst (λ h. IfOk c.copy.result (λ r. r ≡ h)) (c.head.ensures ∙ ap (λ (t : Tuple). t.head) c.deref.ensures) c.copy.ensures)
