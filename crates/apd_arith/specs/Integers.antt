-- Integer arithmetic of Prolog (ISO/IEC 13211-1, section 9.1) on integers without bounds, and where a value leaves 64 bits.
use Rattle.std.specs.Prelude.{◌≡◌, ◌⊎◌, ◌<◌, ◌^◌, ◌==◌, nat_lt, ℤ, pos, negsuc, ◌+ℤ◌, ◌-ℤ◌, ◌*ℤ◌, int_div, int_rem, unsigned_abs, Bool, true, false, not, ◌&&◌, if◌then◌else◌, Result, Ok, Err}
use Rattle.apd_arith.specs.declared.fault.ArithFault.{ArithFault}
use Rattle.apd_arith.specs.declared.fault.ArithFault.TheVariants.{Overflow, ZeroDivisor}

-- whether an integer is one of 64 bits with a sign: from -2 ^ 63 to 2 ^ 63 - 1
abbrev pub fits : ℤ → Bool
fits (pos n) = nat_lt n (2 ^ 63)
fits (negsuc n) = nat_lt n (2 ^ 63)

-- the integer, or the fault of one that leaves 64 bits
abbrev pub within : ℤ → Result ℤ ArithFault
within z = if fits z then Ok z else Err Overflow

abbrev pub is_zero : ℤ → Bool
is_zero (pos n) = n == 0
is_zero (negsuc n) = false

-- what is made of a dividend and a divisor, or the fault of a divisor that is zero
abbrev pub divided : (ℤ → ℤ → ℤ) → ℤ → ℤ → Result ℤ ArithFault
divided f x y = if is_zero y then Err ZeroDivisor else within (f x y)

-- whether two integers have different signs, zero as a positive one
abbrev pub have_different_signs : ℤ → ℤ → Bool
have_different_signs (pos m) (pos n) = false
have_different_signs (pos m) (negsuc n) = true
have_different_signs (negsuc m) (pos n) = true
have_different_signs (negsuc m) (negsuc n) = false

-- the quotient rounded towards zero, x // y
abbrev pub truncated : ℤ → ℤ → ℤ
truncated x y = int_div x y

-- the quotient rounded down: one less than that rounded towards zero where this is above x / y
abbrev pub floored : ℤ → ℤ → ℤ
floored x y = if not (is_zero (int_rem x y)) && have_different_signs x y then truncated x y -ℤ pos 1 else truncated x y

-- x rem y = x - truncate(x / y) * y
abbrev pub remainder : ℤ → ℤ → ℤ
remainder x y = x -ℤ truncated x y *ℤ y

-- x mod y = x - floor(x / y) * y
abbrev pub modulo : ℤ → ℤ → ℤ
modulo x y = x -ℤ floored x y *ℤ y

-- q times y and r are x, and r is nearer to zero than y is
pub record IsDivision (x y q r : ℤ) : Type 0 where
  pub whole : x ≡ q *ℤ y +ℤ r
  pub smaller : unsigned_abs r < unsigned_abs y

-- r is zero, or it has the sign of s
abbrev pub HasSignOf : ℤ → ℤ → Type 0
HasSignOf s r = (r ≡ pos 0) ⊎ (have_different_signs r s ≡ false)
