use Rattle.std.proofs.Common.{arith}
use Rattle.std.proofs.lemmas.List.{length-reverse}
use Rattle.apd_following.proofs.tie.Tie.is_level.Goals as goal

pub returns : goal.returns
returns c = record {
  holds = c.if-not-self.false;
  notes = omega (arith, length-reverse c.args.live.now.notes.now);
  cells = omega arith;
}
