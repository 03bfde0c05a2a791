use Rattle.apd_console.specs.Console.{room_of}
use Rattle.apd_talk.specs.Moment.{moment}
use Rattle.apd_oracle.proofs.Waiting.{IsWaiting}
use Rattle.apd_oracle.proofs.asking.hear_reply.Given as goal

abbrev pub invariant-lines : goal.invariant-lines
invariant-lines g l = IsWaiting l.asked (moment g.S.Source l.initial.desk) (moment g.S.Source l.desk)

abbrev pub decreases-lines : goal.decreases-lines
decreases-lines g l = room_of l.desk.console.now
