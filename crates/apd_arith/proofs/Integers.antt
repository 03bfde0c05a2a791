-- What the operations on 64 bits make of integers that fit.
use Rattle.std.proofs.Common.{rules, ◌≡◌, ◌<◌, ℕ, ℤ, pos, negsuc, ◌+ℤ◌, ◌-ℤ◌, ◌*ℤ◌, neg_ℤ, w64, FitsSigned, to_z, of_z, ◌⊎◌, inl, inr, Bool, true, false, Ok, Err, Option, Some, None, refl, sym, ◌∙◌, ap, subst, arith, zero, suc, not, ◌&&◌, ◌%◌, ◌^◌}
use Rattle.std.specs.Prelude.{int_div, int_rem, int_lt, unsigned_abs}
use Rattle.std.specs.Option.{ok_or, SomeIff}
use Rattle.std.specs.Int.{CanDivide, IsNonZero}
use Rattle.std.proofs.Math.Bool.{beq}
use Rattle.std.proofs.lemmas.Bool.{true≢false}
use Rattle.std.proofs.lemmas.Bool.Decides.{nat_tests}
use Rattle.std.proofs.lemmas.Int.{ints, quot-rem, to_z-of_z}
use Rattle.std.proofs.Math.IntN.{pred_ℤ, pred_ℤ-*ℤ}
use Rattle.apd_arith.specs.declared.fault.ArithFault.TheVariants.{Overflow, ZeroDivisor}
use Rattle.apd_arith.specs.Integers.{within, is_zero, divided, have_different_signs, truncated, remainder, modulo}

pub within-fits : (z : ℤ) → FitsSigned w64 z → within z ≡ Ok z
within-fits (pos n) h = grind (arith, nat_tests, h.sfits)
within-fits (negsuc n) h = grind (arith, nat_tests, h.sfits)

pub within-wide : (z : ℤ) → (FitsSigned w64 z → ⊥) → within z ≡ Err Overflow
within-wide (pos n) h = let far : n < 2 ^ 63 → ⊥ = λ l. h (record { sfits = l }) in grind (arith, nat_tests)
within-wide (negsuc n) h = let far : n < 2 ^ 63 → ⊥ = λ l. h (record { sfits = l }) in grind (arith, nat_tests)

-- a checked operation gives the exact value where it fits
pub checked : (o : Option ℤ) (z : ℤ) → SomeIff o (FitsSigned w64 z) z → ok_or o Overflow ≡ within z
checked None z h = sym (within-wide z h)
checked (Some x) z h = ap Ok h.1 ∙ sym (within-fits z h.0)

pub remainder-is : (x y : ℤ) → remainder x y ≡ int_rem x y
remainder-is x y = omega (arith, ints, quot-rem x y)

less_one : (q : ℤ) → q +ℤ negsuc 0 ≡ pred_ℤ q
less_one (pos zero) = refl
less_one (pos (suc n)) = omega (arith, ints)
less_one (negsuc n) = omega (arith, ints)

-- with one more divisor than the remainder has
pub one_more : (x y : ℤ) → x -ℤ (truncated x y -ℤ pos 1) *ℤ y ≡ int_rem x y +ℤ y
one_more x y =
    let e : (int_div x y +ℤ negsuc 0) *ℤ y ≡ int_div x y *ℤ y -ℤ y = ap (λ q. q *ℤ y) (less_one (int_div x y)) ∙ pred_ℤ-*ℤ (int_div x y) y in
    omega (arith, ints, quot-rem x y, e)

pub modulo-up : (x y : ℤ) → is_zero (int_rem x y) ≡ false → have_different_signs x y ≡ true → modulo x y ≡ int_rem x y +ℤ y
modulo-up x y z d = rw (z, d) (one_more x y)

pub modulo-same : (x y : ℤ) → (not (is_zero (int_rem x y)) && have_different_signs x y) ≡ false → modulo x y ≡ int_rem x y
modulo-same x y h = rw h (remainder-is x y)

-- a remainder that isn't zero has the sign of the dividend
pub sign-rem : (x y : ℤ) → is_zero (int_rem x y) ≡ false → int_lt (int_rem x y) (pos 0) ≡ int_lt x (pos 0)
sign-rem (pos m) y z = grind (arith, nat_tests)
sign-rem (negsuc m) y z = negated (suc m % unsigned_abs y) z
  where
    negated : (n : ℕ) → is_zero (neg_ℤ (pos n)) ≡ false → int_lt (neg_ℤ (pos n)) (pos 0) ≡ true
    negated zero e = absurd (true≢false e)
    negated (suc n) e = refl

pub different-signs : (x y : ℤ) → have_different_signs x y ≡ not (beq (int_lt x (pos 0)) (int_lt y (pos 0)))
different-signs (pos m) (pos n) = grind (arith, nat_tests)
different-signs (pos m) (negsuc n) = grind (arith, nat_tests)
different-signs (negsuc m) (pos n) = grind (arith, nat_tests)
different-signs (negsuc m) (negsuc n) = grind (arith, nat_tests)

-- a sum of integers with different signs fits where both do
pub fits-opposite : (x y : ℤ) → have_different_signs x y ≡ true → FitsSigned w64 x → FitsSigned w64 y → FitsSigned w64 (x +ℤ y)
fits-opposite (pos m) (pos n) d f g = absurd (true≢false (sym d))
fits-opposite (pos m) (negsuc n) d f g = search (rules, ints)
fits-opposite (negsuc m) (pos n) d f g = search (rules, ints)
fits-opposite (negsuc m) (negsuc n) d f g = absurd (true≢false (sym d))

is_zero-false : (r : ℤ) → (of_z w64 r ≡ 0 → ⊥) → is_zero r ≡ false
is_zero-false (pos n) z = grind (arith, nat_tests)
is_zero-false (negsuc n) z = refl

is_zero-true : (r : ℤ) → FitsSigned w64 r → of_z w64 r ≡ 0 → is_zero r ≡ true
is_zero-true (pos n) f z = grind (arith, nat_tests)
is_zero-true (negsuc n) f z = absurd (omega (arith, f.sfits))

-- a division by zero
pub by_zero_divisor : (f : ℤ → ℤ → ℤ) (x y : ℤ) → FitsSigned w64 y → of_z w64 y ≡ 0 → Err ZeroDivisor ≡ divided f x y
by_zero_divisor f x y g z = rw (is_zero-true y g z) refl

-- what is made of a dividend and a divisor that isn't zero
pub divided-is : (f : ℤ → ℤ → ℤ) (x y : ℤ) → (of_z w64 y ≡ 0 → ⊥) → divided f x y ≡ within (f x y)
divided-is f x y z = rw (is_zero-false y z) refl

pub divided-fits : (f : ℤ → ℤ → ℤ) (x y r : ℤ) → (of_z w64 y ≡ 0 → ⊥) → FitsSigned w64 r → r ≡ f x y → Ok (to_z w64 (of_z w64 r)) ≡ divided f x y
divided-fits f x y r z g e = ap Ok (to_z-of_z w64 r g) ∙ sym (within-fits r g) ∙ ap within e ∙ sym (divided-is f x y z)

non_zero : (y : ℤ) → (of_z w64 y ≡ 0 → ⊥) → IsNonZero w64 y
non_zero y z = omega arith

can_divide : (o : Option ℤ) (x y z : ℤ) → IsNonZero w64 y → SomeIff o (CanDivide w64 x y) z → int_div x y ≡ z → SomeIff o (FitsSigned w64 z) z
can_divide None x y z n h e = λ f. h (n, subst (λ q. FitsSigned w64 q) (sym e) f)
can_divide (Some q) x y z n h e = (subst (λ q. FitsSigned w64 q) e h.0.1, h.1)

pub quotient-is : (o : Option ℤ) (x y : ℤ) → (of_z w64 y ≡ 0 → ⊥) → SomeIff o (CanDivide w64 x y) (int_div x y) → ok_or o Overflow ≡ divided truncated x y
quotient-is o x y z h = checked o (int_div x y) (can_divide o x y (int_div x y) (non_zero y z) h refl) ∙ sym (divided-is truncated x y z)

-- the remainder and the divisor have different signs: the divisor is added
pub modulo-added : (x y r : ℤ) → (of_z w64 y ≡ 0 → ⊥) → FitsSigned w64 y → FitsSigned w64 r → r ≡ int_rem x y → (of_z w64 r ≡ 0 → ⊥) → not (beq (int_lt r (pos 0)) (int_lt y (pos 0))) ≡ true
    → Ok (to_z w64 (of_z w64 (r +ℤ y))) ≡ divided modulo x y
modulo-added x y r n g f e z d =
    let z' : is_zero (int_rem x y) ≡ false = subst (λ q. is_zero q ≡ false) e (is_zero-false r z) in
    let s : int_lt r (pos 0) ≡ int_lt x (pos 0) = ap (λ q. int_lt q (pos 0)) e ∙ sign-rem x y z' in
    let d' : have_different_signs x y ≡ true = different-signs x y ∙ ap (λ b. not (beq b (int_lt y (pos 0)))) (sym s) ∙ d in
    divided-fits modulo x y (r +ℤ y) n (fits-opposite r y (different-signs r y ∙ d) f g) (ap (λ q. q +ℤ y) e ∙ sym (modulo-up x y z' d'))

and_not : (z d : Bool) → (z ≡ false → d ≡ false) → (not z && d) ≡ false
and_not true d h = refl
and_not false d h = h refl

kept : (x y : ℤ) → (is_zero (int_rem x y) ≡ true) ⊎ (not (beq (int_lt (int_rem x y) (pos 0)) (int_lt y (pos 0))) ≡ false) → (not (is_zero (int_rem x y)) && have_different_signs x y) ≡ false
kept x y (inl z) = rw z refl
kept x y (inr d) =
    and_not (is_zero (int_rem x y)) (have_different_signs x y) (λ z. different-signs x y ∙ ap (λ b. not (beq b (int_lt y (pos 0)))) (sym (sign-rem x y z)) ∙ d)

-- the remainder is zero, or it has the sign of the divisor
pub modulo-kept : (x y r : ℤ) → (of_z w64 y ≡ 0 → ⊥) → FitsSigned w64 r → r ≡ int_rem x y → (of_z w64 r ≡ 0) ⊎ (not (beq (int_lt r (pos 0)) (int_lt y (pos 0))) ≡ false)
    → Ok (to_z w64 (of_z w64 r)) ≡ divided modulo x y
modulo-kept x y r n f e h =
    let k : (is_zero (int_rem x y) ≡ true) ⊎ (not (beq (int_lt (int_rem x y) (pos 0)) (int_lt y (pos 0))) ≡ false) = elim h [
      | inl z ↦ inl (ap is_zero (sym e) ∙ is_zero-true r f z)
      | inr d ↦ inr (ap (λ q. not (beq (int_lt q (pos 0)) (int_lt y (pos 0)))) (sym e) ∙ d)
    ] in
    divided-fits modulo x y r n f (e ∙ sym (modulo-same x y (kept x y k)))
