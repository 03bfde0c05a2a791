use Rattle.std.proofs.Common.{◌≡◌, inl, inr, ℕ, ◌/◌, ◌<◌, length, get_or, slice_set, bit_or, ◌∙◌, sym, subst, arith}
use Rattle.std.proofs.lemmas.Bool.{cases_eq}
use Rattle.std.proofs.lemmas.Grind.{get_or_default_zero}
use Rattle.std.proofs.lemmas.List.{length-set}
use Rattle.apd_bits.specs.Rows.{HasBit}
use Rattle.apd_bits.proofs.Joined.{bit-within, join-only, join-put, join-still}
use Rattle.apd_bits.proofs.rows.join.Goals as goal

pub words-init : goal.words-init
words-init c = record {
  enough = c.in_ok-grow.ensures.ok;
  kept = c.grow.ensures.kept;
  only = λ k h. inl (c.grow.ensures.only k h);
  joined = λ k l h. absurd (omega (arith, l));
}

pub words-preserved : goal.words-preserved
words-preserved c =
    let words = c.words.words.items in
    let other = c.args.other.now in
    let i = c.words.i in
    let there : i < length words = omega (arith, c.words-test.true, c.words.invariant.enough) in
    let is : c.index_mut.result.now ≡ get_or words i 0 = c.index_mut.ensures.value ∙ get_or_default_zero words i c.index_mut.result.now there in
    record {
      enough = let l = length-set words i (bit_or c.index_mut.result.now (get_or other i 0)) in let e = c.words.invariant.enough in omega (arith, l, e);
      kept = λ k h. subst (λ (w : ℕ). HasBit (slice_set words i (bit_or w (get_or other i 0))) k) (sym is) (join-still words other i there k (c.words.invariant.kept k h));
      only = λ k h.
          let was = subst (λ (w : ℕ). HasBit (slice_set words i (bit_or w (get_or other i 0))) k) is h in
          elim (join-only words other i there k was) [ inl b ↦ c.words.invariant.only k b | inr b ↦ inr b ];
      joined = λ k l h.
          subst (λ (w : ℕ). HasBit (slice_set words i (bit_or w (get_or other i 0))) k) (sym is)
          (elim (cases_eq (k / 64) i) [
            | inl e ↦ join-put words other i there k e h
            | inr n ↦ join-still words other i there k (c.words.invariant.joined k (omega (arith, l, n)) h)
          ]);
    }

pub returns-clause-joined : goal.returns-clause-joined
returns-clause-joined c = λ k h. c.words.invariant.joined k (let w = bit-within c.args.other.now k h in omega (arith, w, c.words-test.false)) h
