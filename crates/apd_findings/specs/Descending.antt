-- What a store says of calls one after the other.
use Rattle.std.specs.Prelude.{ℕ, ◌≡◌, ◌+◌, ◌<◌, Bool, true, List, length, get_or}
use Rattle.apd_term.specs.Term.{Term, IsAmong, variable}
use Rattle.apd_answers.specs.Store.{Store}
use Rattle.apd_findings.specs.Deciding.{says_below}

abbrev pub call_at : List Term → ℕ → Term
call_at calls i = get_or calls i (variable 0)

-- the store says that the call behind the place is below the one there
abbrev pub says_at : Store → List Term → ℕ → Bool
says_at store calls i = says_below store (call_at calls (i + 1)) (call_at calls i)

pub record IsSaidAt (store : Store) (calls : List Term) (i : ℕ) : Type 0 where
  pub within : i + 1 < length calls
  pub said : says_at store calls i ≡ true

abbrev pub AreSaidAt : Store → List Term → List ℕ → Type 0
AreSaidAt store calls places = (i : ℕ) → IsAmong places i → IsSaidAt store calls i

-- the call at the one place, and the call behind it, are those at the other
abbrev pub IsSamePair : List Term → ℕ → ℕ → Type 0
IsSamePair calls a b = (call_at calls a ≡ call_at calls b) × (call_at calls (a + 1) ≡ call_at calls (b + 1))
