use Rattle.apd_frames.proofs.Instancing.{laid_self}
use Rattle.apd_frames.proofs.floor.lay.Goals as goal

pub returns-in-None : goal.returns-in-None
returns-in-None c = laid_self c.args.store.now
