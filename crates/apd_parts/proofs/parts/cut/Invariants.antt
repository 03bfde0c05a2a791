use Rattle.std.proofs.Common.{◌≡◌, take, drop}
use Rattle.apd_parts.specs.Parts.{cut}
use Rattle.apd_parts.proofs.Cutting.{moved}
use Rattle.apd_parts.proofs.parts.cut.Given as goal

abbrev pub invariant-places : goal.invariant-places
invariant-places l = cut l.bytes l.text ≡ moved (take l.i l.text) (cut l.bytes (drop l.i l.text))
