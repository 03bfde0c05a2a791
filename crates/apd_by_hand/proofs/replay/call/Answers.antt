use Rattle.apd_record.proofs.Keeping.{sound_opened}
use Rattle.apd_by_hand.proofs.replay.call.Goals as goal

pub returns-in-Ok-clause-sound : goal.returns-in-Ok-clause-sound
returns-in-Ok-clause-sound c = λ P sound. rw c.in-Ok.ensures.opened (sound_opened P c.args.recorded.now c.in_ok-atom.atom c.args.newest.0 c.in_ok-atom.ensures sound)
