use Rattle.std.proofs.Common.{length}
use Rattle.apd_term.specs.Growth.{Grown}
use Rattle.apd_check.proofs.Onward.{Checking}
use Rattle.apd_check.specs.Steps.{KnowsDescent}
use Rattle.apd_claims.specs.Texts.{KeepsFew}
use Rattle.apd_check.proofs.checking.check_lines.Given as goal

abbrev pub invariant-lines : goal.invariant-lines
invariant-lines l = Grown l.fn.names l.names × KeepsFew l.fn.names l.names × Checking l.source.program.now l.source.ops.now l.text l.fn.course.state l.names l.course.state l.found l.in_group l.number l.rest
    × KnowsDescent l.source.program.now l.course.state l.course.descent

abbrev pub decreases-lines : goal.decreases-lines
decreases-lines l = length l.rest
