use Rattle.apd_write.proofs.Closed.{no_arguments}
use Rattle.apd_write.proofs.closing.close.Goals as goal

pub returns-in-Argument : goal.returns-in-Argument
returns-in-Argument c = rw c.in-Argument.is c.close_argument.ensures

pub returns-in_default : goal.returns-in_default
returns-in_default c = rw (no_arguments c.args.place c.args.frames.now.items c.in_default.not-Argument) c.close_frames.ensures
