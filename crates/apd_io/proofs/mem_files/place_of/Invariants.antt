use Rattle.std.proofs.Common.{◌≡◌, take, None}
use Rattle.apd_io.specs.Memory.{content_of}
use Rattle.apd_io.proofs.mem_files.place_of.Given as goal

abbrev pub invariant-loop-i : goal.invariant-loop-i
invariant-loop-i l = content_of (take l.i l.files) l.name ≡ None
