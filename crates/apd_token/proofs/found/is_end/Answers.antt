use Rattle.std.proofs.Common.{arith}
use Rattle.apd_token.proofs.Pieces.{end_bytes}
use Rattle.apd_token.proofs.found.is_end.Goals as goal

pub returns-then-end-at-clause-no : goal.returns-then-end-at-clause-no
returns-then-end-at-clause-no c is = let two = end_bytes c.args.text.now c.args.at c.args.end c.requires.order c.requires.within is in absurd (omega arith)
