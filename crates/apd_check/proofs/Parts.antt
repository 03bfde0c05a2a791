-- A chain of calls descends exactly where its parts do, of which each ends with the call that the next one begins with.
use Rattle.std.proofs.Common.{◌≡◌, ◌↔◌, ℕ, zero, suc, true, false, Bool, List, [], ◌∷◌, map, take, drop, Some, Result, Ok, Err, sym, ◌∙◌, subst}
use Rattle.std.specs.Prelude.{IsTrue, IfOk, slice_get}
use Rattle.std.specs.declared.alloc.AllocError.{AllocError}
use Rattle.apd_term.specs.Term.{Term}
use Rattle.apd_record.specs.Recorded.{Recorded}
use Rattle.apd_answers.specs.Findings.{AllDescendByReplies}
use Rattle.apd_answers.specs.Store.{Store}
use Rattle.apd_loop.specs.Loop.{calls_in}
use Rattle.apd_loop.specs.Turning.{HasBoxes}

cut : (store : Store) (f : ℕ → Term) (chain : List ℕ) (n : ℕ) → AllDescendByReplies store (map f chain) ↔ (AllDescendByReplies store (map f (take (suc n) chain)) × AllDescendByReplies store (map f (drop n chain)))
cut store f [] zero = (λ h. (tt, tt), λ h. tt)
cut store f [] (suc n) = (λ h. (tt, tt), λ h. tt)
cut store f (b ∷ []) zero = (λ h. (tt, tt), λ h. tt)
cut store f (b ∷ []) (suc zero) = (λ h. (tt, tt), λ h. tt)
cut store f (b ∷ []) (suc (suc n)) = (λ h. (tt, tt), λ h. tt)
cut store f (b ∷ c ∷ chain) zero = (λ h. (tt, h), λ h. h.1)
cut store f (b ∷ c ∷ chain) (suc n) = let r = cut store f (c ∷ chain) n in (
  λ h. (let p = r.0 h.1 in ((h.0, p.0), p.1)),
  λ h. (h.0.0, r.1 (h.0.1, h.1)),
)

pub part-first : (store : Store) (R : Recorded) (whole chain : List ℕ) (m n : ℕ) → m ≡ suc n → AllDescendByReplies store (calls_in R whole) ↔ AllDescendByReplies store (calls_in R chain)
    → AllDescendByReplies store (calls_in R whole) ↔ (AllDescendByReplies store (calls_in R (take m chain)) × AllDescendByReplies store (calls_in R (drop n chain)))
part-first store R whole chain m n e so_far = subst (λ k. AllDescendByReplies store (calls_in R whole) ↔ (AllDescendByReplies store (calls_in R (take k chain)) × AllDescendByReplies store (calls_in R (drop n chain)))) (sym e) (
  λ h. r.0 (so_far.0 h),
  λ h. so_far.1 (r.1 h),
)
  where
    r : AllDescendByReplies store (calls_in R chain) ↔ (AllDescendByReplies store (calls_in R (take (suc n) chain)) × AllDescendByReplies store (calls_in R (drop n chain)))
    r = cut store _ chain n

pub part-fails : {A P Q : Type 0} (b : Bool) → A ↔ (P × Q) → b ≡ true ↔ P → b ≡ false → false ≡ true ↔ A
part-fails b all first e = (λ k. absurd (cc), λ a. absurd (let t : true ≡ false = sym (first.1 (all.0 a).0) ∙ e in cc))

pub part-goes : {A P Q : Type 0} (b : Bool) → A ↔ (P × Q) → b ≡ true ↔ P → b ≡ true → A ↔ Q
part-goes b all first e = (λ a. (all.0 a).1, λ q. all.1 (first.0 e, q))

pub part-last : {A Q : Type 0} (r : Result Bool AllocError) → A ↔ Q → IfOk r (λ b. IsTrue b ↔ Q) → IfOk r (λ b. IsTrue b ↔ A)
part-last (Ok b) all h = (λ k. all.1 (h.0 k), λ a. h.1 (all.0 a))
part-last (Err x) all h = tt

-- the boxes of a part are there

taken-there : (chain : List ℕ) (m k b : ℕ) → slice_get (take m chain) k ≡ Some b → slice_get chain k ≡ Some b
taken-there [] zero k b e = e
taken-there [] (suc m) k b e = e
taken-there (c ∷ chain) zero zero b e = absurd (cc)
taken-there (c ∷ chain) zero (suc k) b e = absurd (cc)
taken-there (c ∷ chain) (suc m) zero b e = e
taken-there (c ∷ chain) (suc m) (suc k) b e = taken-there chain m k b e

dropped-there : (chain : List ℕ) (n k b : ℕ) → slice_get (drop n chain) k ≡ Some b → (j : ℕ) × (slice_get chain j ≡ Some b)
dropped-there [] zero k b e = (k, e)
dropped-there [] (suc n) k b e = (k, e)
dropped-there (c ∷ chain) zero k b e = (k, e)
dropped-there (c ∷ chain) (suc n) k b e = let h = dropped-there chain n k b e in (suc h.0, h.1)

pub taken-boxes : (R : Recorded) (chain : List ℕ) (m : ℕ) → HasBoxes R chain → HasBoxes R (take m chain)
taken-boxes R chain m h k b e = h k b (taken-there chain m k b e)

pub dropped-boxes : (R : Recorded) (chain : List ℕ) (n : ℕ) → HasBoxes R chain → HasBoxes R (drop n chain)
dropped-boxes R chain n h k b e = let j = dropped-there chain n k b e in h j.0 b j.1
