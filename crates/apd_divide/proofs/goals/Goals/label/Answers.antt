use Rattle.std.proofs.Common.{◌<◌, ◌∙◌, ap, sym, subst, length}
use Rattle.apd_term.specs.Canonical.{canonical}
use Rattle.apd_record.specs.Reading.{point_of}
use Rattle.apd_divide.specs.Referring.{goal_at, goals_in, AreGoalsThere}
use Rattle.apd_divide.proofs.Referring.{form_goals, goal-form}
use Rattle.apd_divide.proofs.goals.Goals.label.Goals as goal

pub of_goal-requires-clause-there : goal.of_goal-requires-clause-there
of_goal-requires-clause-there c = subst AreGoalsThere c.in-Recorded.is c.self.invariant

pub of_goal-requires-clause-place : goal.of_goal-requires-clause-place
of_goal-requires-clause-place c =
    subst (λ n. c.args.place < n) (form_goals (point_of c.in-Recorded.recorded.now c.in-Recorded.exit.0).tuple)
    (subst (λ ts. c.args.place < length ts) (sym (ap goals_in (sym c.in-Recorded.is) ∙ c.self.view_is)) c.requires)

pub label_at-requires : goal.label_at-requires
label_at-requires c = subst (λ ts. c.args.place < length ts) (sym (ap goals_in (sym c.in-Read.is) ∙ c.self.view_is)) c.requires

pub returns-in-Recorded : goal.returns-in-Recorded
returns-in-Recorded c =
    let t = (point_of c.in-Recorded.recorded.now c.in-Recorded.exit.0).tuple in
    let goals = ap goals_in (sym c.in-Recorded.is) ∙ c.self.view_is in
    let there : c.args.place < length t.body = subst (λ n. c.args.place < n) (form_goals t) (subst (λ ts. c.args.place < length ts) (sym goals) c.requires) in
    c.of_goal.ensures ∙ goal-form t c.args.place there ∙ ap (λ ts. canonical (goal_at ts c.args.place)) goals

pub returns-in_ok-label-in-Read : goal.returns-in_ok-label-in-Read
returns-in_ok-label-in-Read c = c.of_term.ensures ∙ c.in_ok-label-in-Read.ensures ∙ ap (λ ts. canonical (goal_at ts c.args.place)) (ap goals_in (sym c.in-Read.is) ∙ c.self.view_is)
