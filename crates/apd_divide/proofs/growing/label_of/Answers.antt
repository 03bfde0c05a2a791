use Rattle.std.proofs.Common.{◌+◌, ◌∙◌}
use Rattle.apd_divide.specs.Referring.{goal_at}
use Rattle.std.proofs.lemmas.Bool.{OnTrue_at}
use Rattle.apd_divide.proofs.Referring.{exit_within, ground_label}
use Rattle.apd_divide.proofs.growing.label_of.Goals as goal

pub is_head_ground-requires : goal.is_head_ground-requires
is_head_ground-requires c = exit_within c.args.recorded.now (c.args.exit.0 + 1) c.args.exit.0 (goal_at c.args.goals.now c.args.place) c.requires.solved

pub of_exit-requires : goal.of_exit-requires
of_exit-requires c = exit_within c.args.recorded.now (c.args.exit.0 + 1) c.args.exit.0 (goal_at c.args.goals.now c.args.place) c.requires.solved

pub returns-then-is_head_ground : goal.returns-then-is_head_ground
returns-then-is_head_ground c =
    c.of_exit.ensures ∙ ground_label c.args.recorded.now (c.args.exit.0 + 1) c.args.exit.0 (goal_at c.args.goals.now c.args.place) c.requires.solved (OnTrue_at c.if-is_head_ground.true c.is_head_ground.ensures)

pub returns : goal.returns
returns c = c.label.ensures
