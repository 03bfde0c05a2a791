use Rattle.std.proofs.Common.{◌≡◌, ℕ, ◌-◌, ◌*◌, ◌/◌, ◌%◌, ◌^◌, ◌<◌, length, get_or, slice_set, bit_and, ◌∙◌, sym, subst, arith}
use Rattle.std.proofs.lemmas.Grind.{get_or_default_zero}
use Rattle.apd_bits.specs.Rows.{HasBit}
use Rattle.apd_bits.proofs.Bits.{bits-cleared}
use Rattle.apd_bits.proofs.rows.clear.Goals as goal

pub returns-then-word-len : goal.returns-then-word-len
returns-then-word-len c = λ k n h.
    let words = c.args.words.now.items in
    let there : c.args.place / 64 < length words = omega arith in
    let is : c.index_mut.result.now ≡ get_or words (c.args.place / 64) 0 = c.index_mut.ensures.value ∙ get_or_default_zero words (c.args.place / 64) c.index_mut.result.now there in
    subst (λ (w : ℕ). HasBit (slice_set words (c.args.place / 64) (bit_and w (18446744073709551615 - 1 * 2 ^ (c.args.place % 64) % 18446744073709551616))) k) (sym is) (bits-cleared words c.args.place k there n h)
