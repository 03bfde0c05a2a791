use Rattle.std.proofs.Common.{◌≡◌, ◌∙◌, ap, sym, subst}
use Rattle.std.specs.Prelude.{IfOk}
use Rattle.apd_divide.specs.Referring.{tuple_in, IsTupleThere}
use Rattle.apd_divide.proofs.node_tuple.NodeTuple.tuple.Goals as goal

pub form_at-requires : goal.form_at-requires
form_at-requires c = (subst IsTupleThere c.in-Recorded.is c.self.invariant).0

pub returns-in-Recorded : goal.returns-in-Recorded
returns-in-Recorded c = subst (λ t. IfOk c.form_at.result (λ r. r ≡ t)) (ap tuple_in (sym c.in-Recorded.is) ∙ c.self.view_is) c.form_at.ensures

pub returns-in-Own : goal.returns-in-Own
returns-in-Own c = subst (λ t. IfOk c.tuple.result (λ r. r ≡ t)) (c.deref.ensures ∙ ap tuple_in (sym c.in-Own.is) ∙ c.self.view_is) c.tuple.ensures
