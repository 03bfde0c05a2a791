use Rattle.std.proofs.Common.{length, ◌-◌}
use Rattle.apd_write.proofs.NameLaws.{Copied}
use Rattle.apd_write.proofs.sheet.copy_word.Given as goal

abbrev pub invariant-bytes : goal.invariant-bytes
invariant-bytes l = Copied l.name l.fn.room l.room l.i

abbrev pub decreases-bytes : goal.decreases-bytes
decreases-bytes l = length l.name - l.i
