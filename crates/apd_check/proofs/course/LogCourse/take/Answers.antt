use Rattle.apd_check.proofs.Descents.{goes-on, goes-said}
use Rattle.apd_check.proofs.course.LogCourse.take.Goals as goal

pub returns-in-Some : goal.returns-in-Some
returns-in-Some c = goes-said c.args.program.now c.args.self.now c.descend.new.self c.args.claim _ c.descend.result c.in-Some.ensures c.descend.ensures

pub returns : goal.returns
returns c = goes-on c.args.program.now c.args.self.now _ c.args.claim c.take.result c.requires.known c.known_after-self.ensures c.take.ensures
