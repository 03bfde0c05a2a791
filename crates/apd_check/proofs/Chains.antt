-- The boxes of a record's chain are boxes of the record.
use Rattle.std.proofs.Common.{◌≡◌, ℕ, zero, suc, ◌+◌, ◌<◌, ◌≤◌, Bool, true, false, List, [], ◌∷◌, length, Some, arith}
use Rattle.std.specs.Prelude.{if◌then◌else◌, slice_get}
use Rattle.apd_record.specs.Recorded.{Recorded, chain, is_in_chain, numbers}
use Rattle.apd_loop.specs.Turning.{HasBoxes}

numbers-in : {X : Type 0} (test : X → Bool) (n : ℕ) (xs : List X) (k b : ℕ) → slice_get (numbers test n xs) k ≡ Some b → (n ≤ b) × (b < n + length xs)
numbers-in test n [] zero b e = absurd (cc)
numbers-in test n [] (suc k) b e = absurd (cc)
numbers-in {X} test n (x ∷ xs) k b e = by (test x) k e (numbers-in test (n + 1) xs)
  where
    more : (n + 1 ≤ b) × (b < n + 1 + length xs) → (n ≤ b) × (b < n + length (x ∷ xs))
    more h = let l = h.0 in let m = h.1 in (omega (arith, l), omega (arith, m))

    by : (y : Bool) (k : ℕ) → slice_get (if y then n ∷ numbers test (n + 1) xs else numbers test (n + 1) xs) k ≡ Some b
        → ((j c : ℕ) → slice_get (numbers test (n + 1) xs) j ≡ Some c → (n + 1 ≤ c) × (c < n + 1 + length xs)) → (n ≤ b) × (b < n + length (x ∷ xs))
    by true zero e rest = let same : n ≡ b = cc in (omega (arith, same), omega (arith, same))
    by true (suc k) e rest = more (rest k b e)
    by false k e rest = more (rest k b e)

pub chain-boxes : (R : Recorded) → HasBoxes R (chain R)
chain-boxes R = λ k b e. let h = numbers-in is_in_chain 1 R.boxes k b e in let l = h.0 in let m = h.1 in (omega (arith, l), omega (arith, m))
