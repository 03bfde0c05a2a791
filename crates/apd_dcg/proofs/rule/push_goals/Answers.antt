use Rattle.std.proofs.Common.{arith, take, length-take}
use Rattle.apd_dcg.proofs.Stating.{goals_step, state_stepped, state_within}
use Rattle.apd_dcg.proofs.rule.push_goals.Goals as goal

pub overflow_add-state : goal.overflow_add-state
overflow_add-state c =
    omega (
      arith,
      c.parts.invariant.state,
      state_within c.args.first (take c.parts.part-index c.args.parts.now),
      length-take c.parts.part-index c.args.parts.now,
      c.requires.room,
      c.parts-test.true,
    )

pub state_after-state-requires : goal.state_after-state-requires
state_after-state-requires c =
    omega (
      arith,
      c.parts.invariant.state,
      state_within c.args.first (take c.parts.part-index c.args.parts.now),
      length-take c.parts.part-index c.args.parts.now,
      c.requires.room,
      c.parts-test.true,
    )

pub parts-preserved : goal.parts-preserved
parts-preserved c = record {
  goals =
      goals_step c.args.first c.args.parts.now c.parts.part-index c.part-item.result c.parts.goals c.parts.state c.in_ok-goal_between.field-0 c.push.new.self c.parts-test.true c.parts.invariant.goals
      c.parts.invariant.state c.part-item.is c.in_ok-goal_between.ensures c.in_ok-push.ensures.ok;
  state =
      state_stepped c.args.first c.args.parts.now c.parts.part-index c.part-item.result c.parts.state c.state_after-state.result c.parts-test.true c.parts.invariant.state c.part-item.is
      c.state_after-state.ensures;
}
