use Rattle.std.proofs.Common.{◌≡◌, ℕ, ◌<◌, length, get_or, slice_set, bit_and, ◌∙◌, sym, subst, arith}
use Rattle.std.proofs.lemmas.Grind.{get_or_default_zero}
use Rattle.std.proofs.lemmas.List.{length-set}
use Rattle.apd_bits.specs.Rows.{HasBit}
use Rattle.apd_bits.proofs.Bits.{bits-met}
use Rattle.apd_bits.proofs.rows.meet.Goals as goal

pub words-preserved : goal.words-preserved
words-preserved c =
    let words = c.words.words.items in
    let i = c.words.i in
    let there : i < length words = omega arith in
    let is : c.index_mut.result.now ≡ get_or words i 0 = c.index_mut.ensures.value ∙ get_or_default_zero words i c.index_mut.result.now there in
    record {
      count = length-set words i (bit_and c.index_mut.result.now c.word_at.result) ∙ c.words.invariant.count;
      left = λ k h o.
          subst (λ (w : ℕ). HasBit (slice_set words i (bit_and w c.word_at.result)) k) (sym is)
          (subst (λ (w : ℕ). HasBit (slice_set words i (bit_and (get_or words i 0) w)) k) (sym c.word_at.ensures) (bits-met words c.args.other.now i k there (c.words.invariant.left k h o) o));
    }
