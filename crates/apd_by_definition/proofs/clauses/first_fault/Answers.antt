use Rattle.std.proofs.Common.{◌∙◌, sym, ap}
use Rattle.std.proofs.lemmas.List.{take_all}
use Rattle.apd_clauses.specs.Bodies.{goal_fault, first_fault}
use Rattle.apd_clauses.proofs.Faults.{clean_more, fault_among}
use Rattle.apd_by_definition.proofs.clauses.first_fault.Goals as goal

pub returns-in-Some : goal.returns-in-Some
returns-in-Some c =
    sym (fault_among c.args.goals.now c.goals.goal-index c.goal-item.result c.in-Some.fault c.goals-test.true c.goals.invariant
    (ap goal_fault (sym c.goal-item.is) ∙ sym c.goal_fault.ensures ∙ c.in-Some.is))

pub goals-preserved : goal.goals-preserved
goals-preserved c =
    clean_more c.args.goals.now c.goals.goal-index c.goal-item.result c.goals-test.true c.goals.invariant
    (ap goal_fault (sym c.goal-item.is) ∙ sym c.goal_fault.ensures ∙ c.in_default.is)

pub returns : goal.returns
returns c = sym c.goals.invariant ∙ ap first_fault (take_all c.goals.goal-index c.args.goals.now c.goals-test.false)
