use Rattle.std.proofs.Common.{◌+◌, ◌-◌, length}
use Rattle.apd_frames.proofs.small.note_small.Given as goal

abbrev pub decreases-room : goal.decreases-room
decreases-room l = l.place + 1 - length l.small.items
