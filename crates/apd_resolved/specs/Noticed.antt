-- Variables that are seen one after another, each once.
use Rattle.std.specs.Prelude.{◌≡◌, ℕ, zero, suc, ◌+◌, ◌<◌, ◌≤◌, ◌==◌, List, ◌++◌, length, if◌then◌else◌}
use Rattle.std.specs.List.{list_any}
use Rattle.apd_term.specs.Term.{IsAmong}

-- 1 where the number wasn't seen
abbrev pub is_unseen : List ℕ → ℕ → ℕ
is_unseen seen k = if list_any (λ w. w == k) seen then 0 else 1

-- how many of the numbers below n weren't seen
abbrev pub unseen : ℕ → List ℕ → ℕ
unseen zero seen = 0
unseen (suc k) seen = unseen k seen + is_unseen seen k

-- those of the numbers that hadn't been seen were put behind the others, each once
pub record Sees (old new : List ℕ) (vs : List ℕ) : Type 0 where
  pub more : List ℕ
  pub is : new ≡ old ++ more
  pub only : (u : ℕ) → IsAmong more u → IsAmong vs u
  pub all : (u : ℕ) → IsAmong vs u → IsAmong new u
  pub once : (n : ℕ) → ((u : ℕ) → IsAmong vs u → u < n) → unseen n new + length new ≤ unseen n old + length old
