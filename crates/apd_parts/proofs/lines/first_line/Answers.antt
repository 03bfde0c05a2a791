use Rattle.std.proofs.Common.{arith}
use Rattle.std.proofs.lemmas.Grind.{common_steps}
use Rattle.apd_parts.proofs.Splitting.{cut_line, one_line}
use Rattle.apd_parts.proofs.lines.first_line.Goals as goal

pub returns-in-Some-clause-line : goal.returns-in-Some-clause-line
returns-in-Some-clause-line c = (cut_line c.args.text.now c.in-Some.parts.front.now c.in-Some.parts.rest.now (grind (arith, common_steps)) c.in-Some.ensures).0

pub returns-in-Some-clause-shorter : goal.returns-in-Some-clause-shorter
returns-in-Some-clause-shorter c = (cut_line c.args.text.now c.in-Some.parts.front.now c.in-Some.parts.rest.now (grind (arith, common_steps)) c.in-Some.ensures).1

pub returns-in-None-clause-line : goal.returns-in-None-clause-line
returns-in-None-clause-line c = one_line c.args.text.now (grind (arith, common_steps)) c.in-None.ensures
