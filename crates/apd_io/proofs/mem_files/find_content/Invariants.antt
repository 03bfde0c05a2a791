use Rattle.std.proofs.Common.{◌≡◌, drop}
use Rattle.apd_io.specs.Memory.{content_of}
use Rattle.apd_io.proofs.mem_files.find_content.Given as goal

abbrev pub invariant-loop-file : goal.invariant-loop-file
invariant-loop-file l = content_of l.files l.name ≡ content_of (drop l.file-index l.files) l.name
