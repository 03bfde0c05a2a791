use Rattle.std.proofs.Common.{refl}
use Rattle.apd_check.proofs.Descents.{goes-judged, goes-known, goes-other}
use Rattle.apd_check.proofs.course.LogCourse.descend.Goals as goal

pub returns-then-known-calls : goal.returns-then-known-calls
returns-then-known-calls c = goes-known c.args.program.now c.args.self.now c.in-Some.known c.args.calls c.in-Some.is c.requires c.if-known-calls.true

pub returns-in-Some : goal.returns-in-Some
returns-in-Some c = goes-other c.args.program.now c.args.self.now c.in-Some.known c.args.calls c.in-Some.is c.requires c.if-known-calls.false

pub returns : goal.returns
returns c = goes-judged c.args.program.now c.args.self.now _ c.args.calls c.in_ok-judged.judged refl c.in_ok-judged.ensures c.known_by-self.ensures
