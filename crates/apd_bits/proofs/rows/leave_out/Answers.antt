use Rattle.std.proofs.Common.{◌≡◌, ℕ, ◌<◌, length, get_or, slice_set, bit_and, ◌∙◌, sym, subst, arith}
use Rattle.std.specs.Prelude.{bit_xor}
use Rattle.std.proofs.lemmas.Grind.{get_or_default_zero}
use Rattle.std.proofs.lemmas.List.{length-set}
use Rattle.apd_bits.specs.Rows.{HasBit}
use Rattle.apd_bits.proofs.Bits.{bits-left-out}
use Rattle.apd_bits.proofs.rows.leave_out.Goals as goal

pub words-preserved : goal.words-preserved
words-preserved c =
    let words = c.words.words.items in
    let i = c.words.i in
    let there : i < length words = omega arith in
    let is : c.index-word.result.now ≡ get_or words i 0 = c.index-word.ensures ∙ get_or_default_zero words i c.index-word.result.now there in
    record {
      count = length-set words i _ ∙ c.words.invariant.count;
      left = λ k h n.
          subst (λ (w : ℕ). HasBit (slice_set words i (bit_and w (bit_xor w c.word_at.result))) k) (sym is)
          (subst (λ (o : ℕ). HasBit (slice_set words i (bit_and (get_or words i 0) (bit_xor (get_or words i 0) o))) k) (sym c.word_at.ensures) (bits-left-out words c.args.other.now i k there (c.words.invariant.left k h n) n));
    }
