use Rattle.apd_symptoms.proofs.Answered.{ground-test}
use Rattle.apd_symptoms.proofs.unanswered.is_ground.Goals as goal

pub returns : goal.returns
returns c = ground-test c.args.atom.now c.is_ground.result c.is_ground.ensures
