-- What numbers are reached by halving.
use Rattle.std.proofs.Common.{◌≡◌, ℕ, zero, suc, ◌/◌, ◌<◌, ◌≤◌, Bool, true, false, ◌||◌, not, refl, ap, arith, eq-eqb, eqb-true}
use Rattle.std.specs.Prelude.{◌==◌}
use Rattle.std.specs.Bool.{OnTrue}
use Rattle.std.proofs.lemmas.Bool.Decides.{nat_tests}
use Rattle.apd_gen.specs.Nodes.{halved, IsReached, is_reached_in}

-- halving makes no number greater
halved-le : (k j : ℕ) → halved k j ≤ j
halved-le zero j = omega arith
halved-le (suc k) j = let h : halved k (j / 2) ≤ j / 2 = halved-le k (j / 2) in omega arith

pub reached-half : (i j : ℕ) → IsReached i (j / 2) → IsReached i j
reached-half i j (k, h) = (suc k, h)

pub half-reached : (i j : ℕ) → i < j → IsReached i j → IsReached i (j / 2)
half-reached i j less (zero, h) = absurd (omega arith)
half-reached i j less (suc k, h) = (k, h)

-- a greater number isn't reached
pub reached-le : (i j : ℕ) → j < i → ¬ IsReached i j
reached-le i j less (k, h) = let le : halved k j ≤ j = halved-le k j in omega arith

-- what the last halving shows of a node that isn't the last number
pub right-by : (i j w : ℕ) (b : Bool) → (b ≡ true → j < i) → (IsReached i w → IsReached i j) → OnTrue b (¬ IsReached i w)
right-by i j w true less back = λ h. reached-le i j (less refl) (back h)
right-by i j w false less back = tt

-- what the test finds is reached
found_or : (m i j : ℕ) (b : Bool) → (j == i) ≡ b → (b || is_reached_in m i (j / 2)) ≡ true → (is_reached_in m i (j / 2) ≡ true → IsReached i (j / 2)) → IsReached i j
found_or m i j true is found later = (zero, eqb-true j i is)
found_or m i j false is found later = reached-half i j (later found)

reached-in : (m i j : ℕ) → is_reached_in m i j ≡ true → IsReached i j
reached-in zero i j found = absurd (cc)
reached-in (suc m) i j found = found_or m i j (j == i) refl found (reached-in m i (j / 2))

second : (b v : Bool) → (b || v) ≡ false → v ≡ false
second true v both = absurd (cc)
second false v both = both

first : (b v : Bool) → (b || v) ≡ false → b ≡ false
first true v both = both
first false v both = refl

-- what the test doesn't find isn't reached, where it looks far enough
unreached-in : (m i j : ℕ) → 1 ≤ i → j ≤ m → is_reached_in m i j ≡ false → ¬ IsReached i j
unreached-in zero i j some few missing (k, h) = let le : halved k j ≤ j = halved-le k j in omega arith
unreached-in (suc m) i j some few missing (zero, h) =
    let no : (j == i) ≡ false = first (j == i) (is_reached_in m i (j / 2)) missing in let yes : (j == i) ≡ true = eq-eqb j i h in absurd (cc)
unreached-in (suc m) i j some few missing (suc k, h) = unreached-in m i (j / 2) some (omega arith) (second (j == i) (is_reached_in m i (j / 2)) missing) (k, h)

less : (i j : ℕ) → j ≤ i → (j == i) ≡ false → j < i
less i j within is = grind (arith, nat_tests)

-- the last of the halvings that are made decides the test
decided : (i j w : ℕ) → 1 ≤ i → j ≤ i → (IsReached i j → IsReached i w) → (IsReached i w → IsReached i j) → (b : Bool) → (j == i) ≡ b → (v : Bool) → is_reached_in w i w ≡ v → b ≡ v
decided i j w some within below back true is true found = refl
decided i j w some within below back true is false missing = absurd (unreached-in w i w some (omega arith) missing (below (zero, eqb-true j i is)))
decided i j w some within below back false is true found = absurd (reached-le i j (less i j within is) (back (reached-in w i w found)))
decided i j w some within below back false is false missing = refl

pub test-by : (i j w : ℕ) → 1 ≤ i → j ≤ i → (IsReached i j → IsReached i w) → (IsReached i w → IsReached i j) → not (j == i) ≡ not (is_reached_in w i w)
test-by i j w some within below back = ap not (decided i j w some within below back (j == i) refl (is_reached_in w i w) refl)
