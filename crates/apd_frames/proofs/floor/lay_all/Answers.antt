use Rattle.apd_frames.proofs.Instancing.{laid_self, laid_then}
use Rattle.apd_frames.proofs.floor.lay_all.Goals as goal

pub pieces-init : goal.pieces-init
pieces-init c = laid_self c.args.store.now

pub pieces-preserved : goal.pieces-preserved
pieces-preserved c = laid_then c.args.store.now c.pieces.store c.lay_next.new.store c.pieces.invariant c.in_ok-cell.ensures
