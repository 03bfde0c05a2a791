-- Records that grow point by point.
use Rattle.std.specs.Prelude.{◌≡◌, ℕ, ◌+◌, List, ◌∷◌, length, Option, Some, OnSome}
use Rattle.apd_term.specs.Term.{Term, apply, compound, terms_of}
use Rattle.apd_term.specs.Tuple.{IsTupleInstance, apply_tuple}
use Rattle.apd_term.specs.declared.tuple.Tuple.{Tuple}
use Rattle.apd_ports.specs.declared.point.Point.{Point}
use Rattle.apd_record.specs.Recorded.{Recorded, goal_left}
use Rattle.apd_record.specs.Sound.{IsSound, clause_of}

-- the point with this number was made last
abbrev pub IsNewest : Recorded → ℕ → Type 0
IsNewest R p = length R.points ≡ p + 1

-- where there is an answer, what was sound for a program still is
abbrev pub StaysSound : {T : Type 0} → Option T → Recorded → Recorded → Type 0
StaysSound result R S = (P : List Tuple) → IsSound P R → OnSome result (IsSound P S)

-- a substitution makes the next goal of the point into this atom, and its tuple into this one
abbrev pub IsSolvedBy : Point → Term → Tuple → Type 0
IsSolvedBy p atom t = (s : ℕ → Term) × (goal : Term) × (goal_left p ≡ Some goal) × (apply s goal ≡ atom) × (apply_tuple s p.tuple ≡ t)

-- the tuple is an instance of the clause with this number
abbrev pub IsInstanceOf : List Tuple → Tuple → ℕ → Type 0
IsInstanceOf P t n = (rule : Tuple) × (clause_of P n ≡ Some rule) × IsTupleInstance t rule

-- the tuple as one term, so that what shares its variables stands in one place
abbrev pub as_term : Tuple → Term
as_term t = compound (record { 0 = 0 }) (terms_of (t.head ∷ t.body))
