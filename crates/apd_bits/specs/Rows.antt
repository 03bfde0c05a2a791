-- Rows of bits, a bit for each place.
use Rattle.std.specs.Prelude.{ℕ, ◌≡◌, ◌/◌, ◌%◌, ◌==◌, Bool, true, false, List, get_or, ◌⊎◌}
use Rattle.std.specs.Int.{bit_at}
use Rattle.apd_term.specs.Term.{IsAmong}

-- the place's bit, in words of 64; words that are absent have none
abbrev pub has_bit : List ℕ → ℕ → Bool
has_bit row place = bit_at (get_or row (place / 64) 0) (place % 64) == 1

abbrev pub HasBit : List ℕ → ℕ → Type 0
HasBit row place = has_bit row place ≡ true

-- the row has the bits of these places
abbrev pub HasBits : List ℕ → List ℕ → Type 0
HasBits row places = (k : ℕ) → IsAmong places k → HasBit row k

-- the row has no bits
abbrev pub HasNoBits : List ℕ → Type 0
HasNoBits row = (k : ℕ) → ¬ HasBit row k

-- no place that shares a word with this one has its bit
abbrev pub IsClearNear : List ℕ → ℕ → Type 0
IsClearNear row place = (k : ℕ) → k / 64 ≡ place / 64 → has_bit row k ≡ false

-- each bit of the one the other has
abbrev pub IsWithin : List ℕ → List ℕ → Type 0
IsWithin row other = (k : ℕ) → HasBit row k → HasBit other k

-- each bit of the one the other has, or it is that of the place
abbrev pub IsWithinBut : List ℕ → List ℕ → ℕ → Type 0
IsWithinBut row other place = (k : ℕ) → HasBit row k → HasBit other k ⊎ (k ≡ place)

-- each bit of the one the other has, or the third
abbrev pub IsWithinEither : List ℕ → List ℕ → List ℕ → Type 0
IsWithinEither row one other = (k : ℕ) → HasBit row k → HasBit one k ⊎ HasBit other k
