use Rattle.std.proofs.Common.{◌≡◌, inl, inr, ℕ, ◌*◌, ◌/◌, ◌%◌, ◌^◌, ◌<◌, get_or, length, slice_set, bit_or, ◌∙◌, sym, subst, arith}
use Rattle.std.proofs.lemmas.Grind.{get_or_default_zero}
use Rattle.apd_bits.specs.Rows.{HasBit}
use Rattle.apd_bits.proofs.Bits.{bit-put, bits-only, bits-still}
use Rattle.apd_bits.proofs.rows.set.Goals as goal

pub returns-clause-kept : goal.returns-clause-kept
returns-clause-kept c = λ k h.
    let words = c.grow.new.words.items in
    let there : c.args.place / 64 < length words = omega (arith, c.in_ok-grow.ensures.ok) in
    let is : c.index_mut.result.now ≡ get_or words (c.args.place / 64) 0 = c.index_mut.ensures.value ∙ get_or_default_zero words (c.args.place / 64) c.index_mut.result.now there in
    subst (λ (w : ℕ). HasBit (slice_set words (c.args.place / 64) (bit_or w (1 * 2 ^ (c.args.place % 64) % 2 ^ 64))) k) (sym is) (bits-still words c.args.place there k (c.grow.ensures.kept k h))

pub returns-clause-only : goal.returns-clause-only
returns-clause-only c = λ k h.
    let words = c.grow.new.words.items in
    let there : c.args.place / 64 < length words = omega (arith, c.in_ok-grow.ensures.ok) in
    let is : c.index_mut.result.now ≡ get_or words (c.args.place / 64) 0 = c.index_mut.ensures.value ∙ get_or_default_zero words (c.args.place / 64) c.index_mut.result.now there in
    let now = subst (λ (w : ℕ). HasBit (slice_set words (c.args.place / 64) (bit_or w (1 * 2 ^ (c.args.place % 64) % 2 ^ 64))) k) is h in
    elim (bits-only words c.args.place there k now) [ inl b ↦ inl (c.grow.ensures.only k b) | inr e ↦ inr e ]

pub returns-clause-set : goal.returns-clause-set
returns-clause-set c =
    let words = c.grow.new.words.items in
    let there : c.args.place / 64 < length words = omega (arith, c.in_ok-grow.ensures.ok) in
    let is : c.index_mut.result.now ≡ get_or words (c.args.place / 64) 0 = c.index_mut.ensures.value ∙ get_or_default_zero words (c.args.place / 64) c.index_mut.result.now there in
    subst (λ (w : ℕ). HasBit (slice_set words (c.args.place / 64) (bit_or w (1 * 2 ^ (c.args.place % 64) % 2 ^ 64))) c.args.place) (sym is) (bit-put words c.args.place there)
