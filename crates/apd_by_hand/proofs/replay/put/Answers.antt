use Rattle.apd_record.proofs.Keeping.{sound_point}
use Rattle.apd_by_hand.proofs.replay.put.Goals as goal

pub returns-in-Ok-clause-sound : goal.returns-in-Ok-clause-sound
returns-in-Ok-clause-sound c = λ P of_clause sound. rw c.in-Ok.ensures.added (sound_point P _ c.args.point c.requires.may of_clause sound)
