use Rattle.apd_ports.specs.declared.event.Port.TheVariants.{Exit}
use Rattle.apd_record.proofs.Keeping.{sound_noted}
use Rattle.apd_by_hand.proofs.replay.leave.Goals as goal

pub returns-clause-sound : goal.returns-clause-sound
returns-clause-sound c = λ P sound. c.put.ensures.sound P (c.in_ok-point.ensures.clause P) (rw c.note.ensures.noted (sound_noted P c.args.recorded.now c.args.owner Exit sound))
