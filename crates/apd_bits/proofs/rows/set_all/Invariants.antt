use Rattle.std.proofs.Common.{take}
use Rattle.apd_bits.specs.Rows.{HasBits, IsWithin}
use Rattle.apd_bits.proofs.rows.set_all.Given as goal

abbrev pub invariant-places : goal.invariant-places
invariant-places l = record {
  kept : IsWithin l.fn.words.items l.words.items;
  set : HasBits l.words.items (take l.place-index l.places);
}
