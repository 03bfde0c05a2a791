use Rattle.std.proofs.Common.{◌≡◌, ◌++◌, subst}
use Rattle.std.specs.Prelude.{OnOk}
use Rattle.apd_term.proofs.Ground.{canonical-ground}
use Rattle.apd_text.specs.Lines.{goal_text}
use Rattle.apd_text.proofs.dialogue.add_atom.Goals as goal

pub returns-then-is_ground : goal.returns-then-is_ground
returns-then-is_ground c = subst (λ t. OnOk c.write_term.result (c.write_term.new.out ≡ c.args.out.now ++ goal_text c.args.ops.now c.args.names.now t)) (canonical-ground c.args.atom.now (c.is_ground.ensures.0 c.if-is_ground.true)) c.write_term.ensures.text
