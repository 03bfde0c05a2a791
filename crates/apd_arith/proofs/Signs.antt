-- The signs of the two remainders.
use Rattle.std.proofs.Common.{◌≡◌, ◌≢◌, ◌<◌, inl, inr, ◌-◌, ℕ, ℤ, pos, negsuc, ◌+ℤ◌, Bool, true, false, refl, sym, ◌∙◌, ap, arith, zero, suc, not}
use Rattle.std.specs.Prelude.{int_rem, int_lt, unsigned_abs}
use Rattle.std.proofs.Math.Bool.{beq}
use Rattle.std.proofs.lemmas.Bool.{true≢false}
use Rattle.std.proofs.lemmas.Bool.Decides.{nat_tests}
use Rattle.std.proofs.lemmas.Int.{ints, rem_below}
use Rattle.apd_arith.specs.Integers.{is_zero, have_different_signs, truncated, floored, remainder, modulo, IsDivision, HasSignOf}
use Rattle.apd_arith.proofs.Integers.{remainder-is, modulo-up, modulo-same, sign-rem, different-signs}

positive : (y : ℤ) → y ≢ pos 0 → 0 < unsigned_abs y
positive (pos zero) n = absurd (n refl)
positive (pos (suc k)) n = omega arith
positive (negsuc k) n = omega arith

zero_is : (r : ℤ) → is_zero r ≡ true → r ≡ pos 0
zero_is (pos zero) z = refl
zero_is (pos (suc n)) z = absurd (true≢false (sym z ∙ later n))
  where
    later : (n : ℕ) → is_zero (pos (suc n)) ≡ false
    later n = grind (arith, nat_tests)
zero_is (negsuc n) z = absurd (true≢false (sym z))

same_signs : (a b : Bool) → a ≡ b → not (beq a b) ≡ false
same_signs true b e = ap (λ q. not (beq true q)) (sym e)
same_signs false b e = ap (λ q. not (beq false q)) (sym e)

-- a remainder that isn't zero has the sign of the dividend
rem_like_dividend : (x y : ℤ) → is_zero (int_rem x y) ≡ false → have_different_signs (int_rem x y) x ≡ false
rem_like_dividend x y z = different-signs (int_rem x y) x ∙ same_signs _ _ (sign-rem x y z)

pub truncated-division : (x y : ℤ) → y ≢ pos 0 → IsDivision x y (truncated x y) (remainder x y)
truncated-division x y n = record {
  whole = omega (arith, ints);
  smaller = rw (remainder-is x y) (rem_below x y (positive y n));
}

by_test : {P : Type 0} (b : Bool) → (b ≡ true → P) → (b ≡ false → P) → P
by_test true t f = t refl
by_test false t f = f refl

pub remainder-sign : (x y : ℤ) → HasSignOf x (remainder x y)
remainder-sign x y =
    rw (remainder-is x y) (by_test (is_zero (int_rem x y)) (λ z. inl (zero_is (int_rem x y) z)) (λ z. inr (rem_like_dividend x y z)))

-- a divisor that is added to a remainder with the other sign
pub record IsAdded (r y : ℤ) : Type 0 where
  pub smaller : unsigned_abs (r +ℤ y) < unsigned_abs y
  pub sign : have_different_signs (r +ℤ y) y ≡ false

added : (r y : ℤ) → is_zero r ≡ false → have_different_signs r y ≡ true → unsigned_abs r < unsigned_abs y → IsAdded r y
added (pos zero) y z d l = absurd (true≢false z)
added (pos (suc m)) (pos n) z d l = absurd (true≢false (sym d))
added (pos (suc m)) (negsuc n) z d l =
    let e : pos (suc m) +ℤ negsuc n ≡ negsuc (n - suc m) = omega (arith, ints) in
    record { smaller = rw e (omega arith); sign = rw e refl }
added (negsuc m) (pos n) z d l =
    let e : negsuc m +ℤ pos n ≡ pos (n - suc m) = omega (arith, ints) in
    record { smaller = rw e (omega arith); sign = rw e refl }
added (negsuc m) (negsuc n) z d l = absurd (true≢false (sym d))

-- what `mod` gives is nearer to zero than the divisor, and has its sign
pub record IsRounded (x y : ℤ) : Type 0 where
  pub smaller : unsigned_abs (modulo x y) < unsigned_abs y
  pub sign : HasSignOf y (modulo x y)

exact : (x y : ℤ) → y ≢ pos 0 → is_zero (int_rem x y) ≡ true → IsRounded x y
exact x y n z =
    let e : modulo x y ≡ int_rem x y = modulo-same x y (rw z refl) in
    record { smaller = rw e (rem_below x y (positive y n)); sign = inl (e ∙ zero_is (int_rem x y) z) }

-- the remainder has the dividend's sign, so that it differs from the divisor where the dividend does
as_dividend : (x y : ℤ) → is_zero (int_rem x y) ≡ false → have_different_signs (int_rem x y) y ≡ have_different_signs x y
as_dividend x y z = different-signs (int_rem x y) y ∙ ap (λ b. not (beq b (int_lt y (pos 0)))) (sign-rem x y z) ∙ sym (different-signs x y)

opposite : (x y : ℤ) → y ≢ pos 0 → is_zero (int_rem x y) ≡ false → have_different_signs x y ≡ true → IsRounded x y
opposite x y n z d =
    let e : modulo x y ≡ int_rem x y +ℤ y = modulo-up x y z d in
    let a = added (int_rem x y) y z (as_dividend x y z ∙ d) (rem_below x y (positive y n)) in
    record { smaller = rw e a.smaller; sign = inr (rw e a.sign) }

alike : (x y : ℤ) → y ≢ pos 0 → is_zero (int_rem x y) ≡ false → have_different_signs x y ≡ false → IsRounded x y
alike x y n z d =
    let e : modulo x y ≡ int_rem x y = modulo-same x y (rw (z, d) refl) in
    record { smaller = rw e (rem_below x y (positive y n)); sign = inr (rw e (as_dividend x y z ∙ d)) }

rounded : (x y : ℤ) → y ≢ pos 0 → IsRounded x y
rounded x y n =
    by_test (is_zero (int_rem x y)) (exact x y n) (λ z. by_test (have_different_signs x y) (opposite x y n z) (alike x y n z))

pub floored-division : (x y : ℤ) → y ≢ pos 0 → IsDivision x y (floored x y) (modulo x y)
floored-division x y n = record {
  whole = omega (arith, ints);
  smaller = (rounded x y n).smaller;
}

pub modulo-sign : (x y : ℤ) → y ≢ pos 0 → HasSignOf y (modulo x y)
modulo-sign x y n = (rounded x y n).sign
