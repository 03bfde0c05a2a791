-- The faults of goals: never want of memory, at most one, and none where the goal is true.
use Rattle.std.proofs.Common.{◌≡◌, ◌≢◌, ℤ, true, List, [], ◌∷◌, Option, Some, None, Ok, Err}
use Rattle.apd_term.specs.Term.{Term, integer, arguments}
use Rattle.apd_arith.specs.declared.fault.ArithFault.{ArithFault}
use Rattle.apd_arith.specs.declared.fault.ArithFault.TheVariants.{Memory}
use Rattle.apd_arith.specs.declared.goal.Builtin.{Builtin}
use Rattle.apd_arith.specs.declared.goal.Builtin.TheVariants.{True, Fail, Unify, Is, Equal, Different, Less, LessEqual, Greater, GreaterEqual}
use Rattle.apd_arith.specs.declared.comparison.Comparison.{Comparison}
use Rattle.apd_arith.specs.declared.comparison.Comparison.TheVariants as comparisons
use Rattle.apd_arith.specs.Builtins.{builtin_of_atom}
use Rattle.apd_arith.specs.Truth.{compared, IsTrueGoal, FaultsInGoal, IsTrueBy, FaultsBy, IsTrueAtom, FaultsWith}
use Rattle.apd_arith.specs.Value.{Value, value}
use Rattle.apd_arith.proofs.Memoryless.{no_memory}

-- what holds of the faults of a goal
pub record IsSettled (Holds : Type 0) (Faulty : ArithFault → Type 0) : Type 0 where
  pub memoryless : ¬ Faulty Memory
  pub one : (fault other : ArithFault) → Faulty fault → Faulty other → fault ≡ other
  pub none : (fault : ArithFault) → Holds → ¬ Faulty fault

-- a goal without faults
faultless : (Holds : Type 0) → IsSettled Holds (λ fault. ⊥)
faultless Holds = record { memoryless = λ h. h; one = λ fault other h k. absurd h; none = λ fault t h. h }

-- a comparison of two values
comparison_settled : (c : Comparison) (x y : Value) → x ≢ Err Memory → y ≢ Err Memory → IsSettled (compared c x y ≡ Ok true) (λ fault. compared c x y ≡ Err fault)
comparison_settled c (Err first) y p q = record { memoryless = λ e. p (cc); one = λ fault other h k. (cc); none = λ fault t h. (cc) }
comparison_settled c (Ok x) (Err second) p q = record { memoryless = λ e. q (cc); one = λ fault other h k. (cc); none = λ fault t h. (cc) }
comparison_settled c (Ok x) (Ok y) p q = record { memoryless = λ e. (cc); one = λ fault other h k. (cc); none = λ fault t h. (cc) }

compared_settled : (c : Comparison) (a b : Term) → IsSettled (compared c (value a) (value b) ≡ Ok true) (λ fault. compared c (value a) (value b) ≡ Err fault)
compared_settled c a b = comparison_settled c (value a) (value b) (no_memory a) (no_memory b)

is_settled : (a e : Term) → IsSettled ((i : ℤ) × (a ≡ integer i) × (value e ≡ Ok i)) (λ fault. value e ≡ Err fault)
is_settled a e = record { memoryless = no_memory e; one = λ fault other h k. (cc); none = λ fault t h. (cc) }

none_settled : (goal : Builtin) → IsSettled (IsTrueGoal goal []) (FaultsInGoal goal [])
none_settled goal = elim goal as (λ k. IsSettled (IsTrueGoal k []) (FaultsInGoal k [])) [ True ↦ faultless (Unit {0}) | Fail ↦ faultless ⊥ | Unify ↦ faultless ⊥ | Is ↦ faultless ⊥ | Equal ↦ faultless ⊥ | Different ↦ faultless ⊥ | Less ↦ faultless ⊥ | LessEqual ↦ faultless ⊥ | Greater ↦ faultless ⊥ | GreaterEqual ↦ faultless ⊥ ]

one_settled : (goal : Builtin) (a : Term) → IsSettled (IsTrueGoal goal (a ∷ [])) (FaultsInGoal goal (a ∷ []))
one_settled goal a = elim goal as (λ k. IsSettled (IsTrueGoal k (a ∷ [])) (FaultsInGoal k (a ∷ []))) [ True ↦ faultless ⊥ | Fail ↦ faultless ⊥ | Unify ↦ faultless ⊥ | Is ↦ faultless ⊥ | Equal ↦ faultless ⊥ | Different ↦ faultless ⊥ | Less ↦ faultless ⊥ | LessEqual ↦ faultless ⊥ | Greater ↦ faultless ⊥ | GreaterEqual ↦ faultless ⊥ ]

two_settled : (goal : Builtin) (a b : Term) → IsSettled (IsTrueGoal goal (a ∷ b ∷ [])) (FaultsInGoal goal (a ∷ b ∷ []))
two_settled True a b = faultless ⊥
two_settled Fail a b = faultless ⊥
two_settled Unify a b = faultless (a ≡ b)
two_settled Is a b = is_settled a b
two_settled Equal a b = compared_settled comparisons.Equal a b
two_settled Different a b = compared_settled comparisons.Different a b
two_settled Less a b = compared_settled comparisons.Less a b
two_settled LessEqual a b = compared_settled comparisons.LessEqual a b
two_settled Greater a b = compared_settled comparisons.Greater a b
two_settled GreaterEqual a b = compared_settled comparisons.GreaterEqual a b

three_settled : (goal : Builtin) (a b c : Term) (ts : List Term) → IsSettled (IsTrueGoal goal (a ∷ b ∷ c ∷ ts)) (FaultsInGoal goal (a ∷ b ∷ c ∷ ts))
three_settled goal a b c ts = elim goal as (λ k. IsSettled (IsTrueGoal k (a ∷ b ∷ c ∷ ts)) (FaultsInGoal k (a ∷ b ∷ c ∷ ts))) [ True ↦ faultless ⊥ | Fail ↦ faultless ⊥ | Unify ↦ faultless ⊥ | Is ↦ faultless ⊥ | Equal ↦ faultless ⊥ | Different ↦ faultless ⊥ | Less ↦ faultless ⊥ | LessEqual ↦ faultless ⊥ | Greater ↦ faultless ⊥ | GreaterEqual ↦ faultless ⊥ ]

goal_settled : (goal : Builtin) (ts : List Term) → IsSettled (IsTrueGoal goal ts) (FaultsInGoal goal ts)
goal_settled goal [] = none_settled goal
goal_settled goal (a ∷ []) = one_settled goal a
goal_settled goal (a ∷ b ∷ []) = two_settled goal a b
goal_settled goal (a ∷ b ∷ c ∷ ts) = three_settled goal a b c ts

by_settled : (o : Option Builtin) (ts : List Term) → IsSettled (IsTrueBy o ts) (FaultsBy o ts)
by_settled None ts = faultless ⊥
by_settled (Some goal) ts = goal_settled goal ts

-- what holds of the faults of an atom
pub atom_settled : (t : Term) → IsSettled (IsTrueAtom t) (FaultsWith t)
atom_settled t = by_settled (builtin_of_atom t) (arguments t)
