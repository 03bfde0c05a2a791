use Rattle.apd_frames.proofs.Instancing.{laid_self}
use Rattle.apd_frames.proofs.floor.lay_next.Goals as goal

pub returns-then-taken-gt-MOST_LAID : goal.returns-then-taken-gt-MOST_LAID
returns-then-taken-gt-MOST_LAID c = laid_self c.args.store.now
