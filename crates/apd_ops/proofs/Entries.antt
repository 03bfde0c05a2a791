-- Look-ups in the entries of a map, whose keys are distinct.
use Rattle.std.proofs.Common.{◌≡◌, ℕ, List, [], ◌∷◌, Bool, true, false, cond, Option, Some, ◌⊎◌, inl, inr, refl, sym, ◌∙◌, ap, true≢false, eq-eqb}
use Rattle.std.proofs.lemmas.Bool.{or_cases, or_left, or_right, cond-true, cond-false}
use borrow.Author.Tests.{eqb-true}
use Rattle.std.specs.Prelude.{nat_eq}
use Rattle.std.specs.List.{list_any, IsDistinct}
use Rattle.std.specs.Map.{lookup, keys_of}
use Rattle.apd_ops.specs.Table.{Meaning}

abbrev pub Entry : Type 0
Entry = ℕ × Meaning

abbrev pub Among : Entry → List Entry → Type 0
Among e [] = ⊥
Among e (x ∷ xs) = (x ≡ e) ⊎ Among e xs

pub any_found : (test : Entry → Bool) (es : List Entry) → list_any test es ≡ true → (e : Entry) × Among e es × (test e ≡ true)
any_found test [] h = absurd cc
any_found test (x ∷ xs) h = elim (or_cases (test x) (list_any test xs) h) [
  | inl here ↦ (x, inl refl, here)
  | inr more ↦ let r = any_found test xs more in (r.0, inr r.1, r.2)
]

pub any_of : (test : Entry → Bool) (es : List Entry) (e : Entry) → Among e es → test e ≡ true → list_any test es ≡ true
any_of test [] e a h = absurd a
any_of test (x ∷ xs) e a h = elim a [
  | inl same ↦ or_left (test x) (list_any test xs) (ap test same ∙ h)
  | inr more ↦ or_right (test x) (list_any test xs) (any_of test xs e more h)
]

some_here : (b : Bool) (x m : Meaning) (r : Option Meaning) → cond b (Some x) r ≡ Some m → ((b ≡ true) × (x ≡ m)) ⊎ (r ≡ Some m)
some_here true x m r h = inl (refl, cc)
some_here false x m r h = inr h

-- what a look-up finds is among the entries
pub lookup_among : (f : ℕ) (es : List Entry) (m : Meaning) → lookup (nat_eq f) es ≡ Some m → Among (f, m) es
lookup_among f [] m h = absurd cc
lookup_among f (x ∷ xs) m h = elim (some_here (nat_eq f x.0) x.1 m (lookup (nat_eq f) xs) h) [
  | inl here ↦ let name : f ≡ x.0 = eqb-true f x.0 here.0 in inl (λ i. (sym name i, here.1 i))
  | inr more ↦ inr (lookup_among f xs m more)
]

-- no key of the others is this one
other_key : (k : ℕ) (es : List Entry) (e : Entry) → IsDistinct nat_eq (k ∷ keys_of es) → Among e es → nat_eq e.0 k ≡ false
unfolding IsDistinct
other_key k [] e d a = absurd a
other_key k (x ∷ xs) e d a = elim a [
  | inl same ↦ apart k e.0 (ap (λ (y : Entry). nat_eq k y.0) (sym same) ∙ d.0.0)
  | inr more ↦ other_key k xs e (d.0.1, d.1.1) more
]
  where
    decide : (b : Bool) (j i : ℕ) → nat_eq i j ≡ b → nat_eq j i ≡ false → b ≡ false
    decide true j i h q = absurd (true≢false (sym (eq-eqb j i (sym (eqb-true i j h))) ∙ q))
    decide false j i h q = refl

    apart : (j i : ℕ) → nat_eq j i ≡ false → nat_eq i j ≡ false
    apart j i q = decide (nat_eq i j) j i refl q

-- and what is among them is what a look-up finds
pub among_lookup : (es : List Entry) (e : Entry) → IsDistinct nat_eq (keys_of es) → Among e es → lookup (nat_eq e.0) es ≡ Some e.1
unfolding IsDistinct
among_lookup [] e d a = absurd a
among_lookup (x ∷ xs) e d a = elim a [
  | inl same ↦ cond-true (nat_eq e.0 x.0) (Some x.1) (lookup (nat_eq e.0) xs) (eq-eqb e.0 x.0 (ap (λ (y : Entry). y.0) (sym same))) ∙ ap (λ (y : Entry). Some y.1) same
  | inr more ↦ cond-false (nat_eq e.0 x.0) (Some x.1) (lookup (nat_eq e.0) xs) (other_key x.0 xs e d more) ∙ among_lookup xs e d.1 more
]
