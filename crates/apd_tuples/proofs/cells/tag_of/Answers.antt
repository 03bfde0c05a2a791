use Rattle.std.proofs.Common.{arith}
use Rattle.apd_tuples.proofs.Laid.{tags_of}
use Rattle.apd_tuples.proofs.cells.tag_of.Goals as goal

pub returns : goal.returns
returns c = tags_of c.args.back c.args.goals (omega arith)
