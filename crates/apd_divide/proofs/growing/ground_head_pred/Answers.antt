use Rattle.std.proofs.lemmas.Bool.{OnTrue_at}
use Rattle.apd_divide.proofs.Referring.{ground_told}
use Rattle.apd_divide.proofs.growing.ground_head_pred.Goals as goal

pub returns-then-is_head_ground : goal.returns-then-is_head_ground
returns-then-is_head_ground c = ground_told c.args.recorded.now c.args.exit.0 c.known_pred.result c.requires (OnTrue_at c.if-is_head_ground.true c.is_head_ground.ensures) c.known_pred.ensures
