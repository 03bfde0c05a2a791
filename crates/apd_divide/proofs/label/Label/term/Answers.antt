use Rattle.std.proofs.Common.{◌≡◌, ◌∙◌, ap, sym, subst}
use Rattle.std.specs.Prelude.{IfOk}
use Rattle.apd_divide.specs.Referring.{label_in, IsLabelThere}
use Rattle.apd_divide.proofs.label.Label.term.Goals as goal

pub head_at-requires : goal.head_at-requires
head_at-requires c = subst IsLabelThere c.in-Recorded.is c.self.invariant

pub returns-in-Recorded : goal.returns-in-Recorded
returns-in-Recorded c = subst (λ t. IfOk c.head_at.result (λ r. r ≡ t)) (ap label_in (sym c.in-Recorded.is) ∙ c.self.view_is) c.head_at.ensures

pub goal_at-requires-clause-there : goal.goal_at-requires-clause-there
goal_at-requires-clause-there c = (subst IsLabelThere c.in-Goal.is c.self.invariant).0

pub goal_at-requires-clause-place : goal.goal_at-requires-clause-place
goal_at-requires-clause-place c = (subst IsLabelThere c.in-Goal.is c.self.invariant).1

pub returns-in-Goal : goal.returns-in-Goal
returns-in-Goal c = subst (λ t. IfOk c.goal_at.result (λ r. r ≡ t)) (ap label_in (sym c.in-Goal.is) ∙ c.self.view_is) c.goal_at.ensures

pub returns-in-Own : goal.returns-in-Own
returns-in-Own c = subst (λ t. IfOk c.copy.result (λ r. r ≡ t)) (ap label_in (sym c.in-Own.is) ∙ c.self.view_is) c.copy.ensures
