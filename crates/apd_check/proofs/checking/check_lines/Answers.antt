use Rattle.apd_lines.proofs.Growing.{Grown-more}
use Rattle.apd_check.proofs.Onward.{Checking-fails, Checking-more}
use Rattle.apd_check.proofs.checking.check_lines.Goals as goal

pub returns-in-Some-why-clause-checked : goal.returns-in-Some-why-clause-checked
returns-in-Some-why-clause-checked c = Checking-fails c.args.source.now.program.now c.args.source.now.ops.now c.args.text.now c.args.course.now.state c.lines.names c.take_line.new.names c.take_line.ensures.names c.lines.course.state c.take_line.new.course.state c.lines.found c.lines.in_group
    c.lines.number c.lines.rest.now c.in-Some.first.line.now c.in-Some.first.rest.now c.in_ok-taken.taken.found c.in_ok-taken.taken.why c.lines.invariant.2 c.in-Some.ensures.line c.in-Some.ensures.shorter
    c.in_ok-taken.ensures.taken c.in-Some-why.why c.in-Some-why.is

pub lines-preserved : goal.lines-preserved
lines-preserved c = (
  Grown-more c.args.names.now c.lines.names c.take_line.new.names c.lines.invariant.0 c.take_line.ensures.names,
  λ l. c.take_line.ensures.few (c.lines.invariant.1 l),
  rw c.goes_on-in_group.ensures
      (Checking-more c.args.source.now.program.now c.args.source.now.ops.now c.args.text.now c.args.course.now.state c.lines.names c.take_line.new.names c.take_line.ensures.names c.lines.course.state c.take_line.new.course.state c.lines.found c.lines.in_group
      c.lines.number c.lines.rest.now c.in-Some.first.line.now c.in-Some.first.rest.now c.in_ok-taken.taken.found c.in_ok-taken.taken.why c.lines.invariant.2 c.in-Some.ensures.line c.in-Some.ensures.shorter
      c.in_ok-taken.ensures.taken c.in_default-why.is (rw c.in_default-why.is at c.in_ok-taken.ensures.stays).0 c.in_ok-taken.ensures.one),
  (rw c.in_default-why.is at c.in_ok-taken.ensures.stays).1,
)
