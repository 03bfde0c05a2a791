use Rattle.std.proofs.Common.{◌≡◌, ◌++◌, take}
use Rattle.std.specs.Prelude.{codes}
use Rattle.std.specs.List.{flat_map}
use Rattle.apd_write.specs.NameTexts.{quoted_byte}
use Rattle.apd_write.proofs.names.write_quoted.Given as goal

abbrev pub invariant-bytes : goal.invariant-bytes
invariant-bytes l = l.out ≡ l.fn.out ++ (codes "'" ++ flat_map quoted_byte (take l.byte-index l.name))
