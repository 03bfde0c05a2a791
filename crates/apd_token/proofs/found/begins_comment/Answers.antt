use Rattle.std.proofs.Common.{arith}
use Rattle.apd_token.proofs.Slices.{two_bytes}
use Rattle.apd_token.proofs.found.begins_comment.Goals as goal

pub returns-then-text-at-lt2-clause-no : goal.returns-then-text-at-lt2-clause-no
returns-then-text-at-lt2-clause-no c (more, begun) = let two = two_bytes c.args.text.now c.args.at 47 42 more begun in absurd (omega arith)
