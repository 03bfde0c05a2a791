use Rattle.std.proofs.Common.{◌≡◌, take, drop}
use Rattle.apd_parts.specs.Parts.{boxed_in}
use Rattle.apd_parts.specs.declared.boxes.Quote.TheVariants.{Outside}
use Rattle.apd_parts.proofs.Outside.{boxed_with}
use Rattle.apd_parts.proofs.boxes.boxed_in.Given as goal

abbrev pub invariant-places : goal.invariant-places
invariant-places l = boxed_in Outside l.text ≡ boxed_with (take l.i l.text) (boxed_in l.quote (drop l.i l.text))
