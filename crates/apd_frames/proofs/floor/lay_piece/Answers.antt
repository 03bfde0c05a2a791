use Rattle.apd_frames.proofs.Instancing.{laid_self}
use Rattle.apd_frames.proofs.floor.lay_piece.Goals as goal

pub returns-then-piece-eq0 : goal.returns-then-piece-eq0
returns-then-piece-eq0 c = laid_self c.args.store.now

pub returns-in_default : goal.returns-in_default
returns-in_default c = laid_self c.args.store.now
