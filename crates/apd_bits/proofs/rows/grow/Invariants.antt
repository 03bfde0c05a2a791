use Rattle.std.proofs.Common.{◌-◌, length}
use Rattle.apd_bits.specs.Rows.{IsWithin}
use Rattle.apd_bits.proofs.rows.grow.Given as goal

abbrev pub invariant-words : goal.invariant-words
invariant-words l = record {
  kept : IsWithin l.fn.words.items l.words.items;
  only : IsWithin l.words.items l.fn.words.items;
}

abbrev pub decreases-words : goal.decreases-words
decreases-words l = l.count - length l.words.items
