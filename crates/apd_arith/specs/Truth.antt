-- When an atom of a built-in goal is true, where it has no variables, and which fault its evaluation has.
use Rattle.std.specs.Prelude.{◌≡◌, ◌↔◌, ℤ, int_lt, int_le, Bool, true, not, IsTrue, List, [], ◌∷◌, Option, Some, None, Result, Ok, Err, alloc_error}
use Rattle.std.specs.declared.alloc.AllocError.{AllocError}
use Rattle.std.specs.Ordering.{int_eq}
use Rattle.apd_term.specs.Term.{Term, integer, arguments}
use Rattle.apd_arith.specs.declared.fault.ArithFault.{ArithFault}
use Rattle.apd_arith.specs.declared.fault.ArithFault.TheVariants.{Unbound, NotEvaluable, Overflow, ZeroDivisor, Memory}
use Rattle.apd_arith.specs.declared.goal.Builtin.{Builtin}
use Rattle.apd_arith.specs.declared.goal.Builtin.TheVariants as goals
use Rattle.apd_arith.specs.declared.comparison.Comparison.{Comparison}
use Rattle.apd_arith.specs.declared.comparison.Comparison.TheVariants.{Equal, Different, Less, LessEqual, Greater, GreaterEqual}
use Rattle.apd_arith.specs.Value.{Value, value}
use Rattle.apd_arith.specs.Builtins.{builtin_of_atom}

-- whether two integers compare so
abbrev pub compares : Comparison → ℤ → ℤ → Bool
compares Equal x y = int_eq x y
compares Different x y = not (int_eq x y)
compares Less x y = int_lt x y
compares LessEqual x y = int_le x y
compares Greater x y = int_lt y x
compares GreaterEqual x y = int_le y x

-- whether two values compare so, or the first fault: that of the left one, then that of the right one
abbrev pub compared : Comparison → Value → Value → Result Bool ArithFault
compared comparison (Err fault) y = Err fault
compared comparison (Ok x) (Err fault) = Err fault
compared comparison (Ok x) (Ok y) = Ok (compares comparison x y)

-- both expressions have values, and these compare so
abbrev pub IsTrueComparison : Comparison → Term → Term → Type 0
IsTrueComparison comparison a b = compared comparison (value a) (value b) ≡ Ok true

-- the first fault of the two expressions is this one
abbrev pub FaultsInComparison : Comparison → Term → Term → ArithFault → Type 0
FaultsInComparison comparison a b fault = compared comparison (value a) (value b) ≡ Err fault

-- a goal with these arguments, which have no variables, is true
abbrev pub IsTrueGoal : Builtin → List Term → Type 0
IsTrueGoal goals.True [] = Unit {0}
IsTrueGoal goals.Unify (a ∷ b ∷ []) = a ≡ b
IsTrueGoal goals.Is (a ∷ e ∷ []) = (i : ℤ) × (a ≡ integer i) × (value e ≡ Ok i)
IsTrueGoal goals.Equal (a ∷ b ∷ []) = IsTrueComparison Equal a b
IsTrueGoal goals.Different (a ∷ b ∷ []) = IsTrueComparison Different a b
IsTrueGoal goals.Less (a ∷ b ∷ []) = IsTrueComparison Less a b
IsTrueGoal goals.LessEqual (a ∷ b ∷ []) = IsTrueComparison LessEqual a b
IsTrueGoal goals.Greater (a ∷ b ∷ []) = IsTrueComparison Greater a b
IsTrueGoal goals.GreaterEqual (a ∷ b ∷ []) = IsTrueComparison GreaterEqual a b
IsTrueGoal _ _ = ⊥

-- the first fault in the evaluation of a goal with these arguments is this one
abbrev pub FaultsInGoal : Builtin → List Term → ArithFault → Type 0
FaultsInGoal goals.Is (a ∷ e ∷ []) fault = value e ≡ Err fault
FaultsInGoal goals.Equal (a ∷ b ∷ []) fault = FaultsInComparison Equal a b fault
FaultsInGoal goals.Different (a ∷ b ∷ []) fault = FaultsInComparison Different a b fault
FaultsInGoal goals.Less (a ∷ b ∷ []) fault = FaultsInComparison Less a b fault
FaultsInGoal goals.LessEqual (a ∷ b ∷ []) fault = FaultsInComparison LessEqual a b fault
FaultsInGoal goals.Greater (a ∷ b ∷ []) fault = FaultsInComparison Greater a b fault
FaultsInGoal goals.GreaterEqual (a ∷ b ∷ []) fault = FaultsInComparison GreaterEqual a b fault
FaultsInGoal _ _ fault = ⊥

abbrev pub IsTrueBy : Option Builtin → List Term → Type 0
IsTrueBy None ts = ⊥
IsTrueBy (Some goal) ts = IsTrueGoal goal ts

abbrev pub FaultsBy : Option Builtin → List Term → ArithFault → Type 0
FaultsBy None ts fault = ⊥
FaultsBy (Some goal) ts fault = FaultsInGoal goal ts fault

-- an atom of a built-in goal, without variables, is true
abbrev pub IsTrueAtom : Term → Type 0
IsTrueAtom t = IsTrueBy (builtin_of_atom t) (arguments t)

-- the first fault in the evaluation of an atom of a built-in goal is this one
abbrev pub FaultsWith : Term → ArithFault → Type 0
FaultsWith t fault = FaultsBy (builtin_of_atom t) (arguments t) fault

-- the evaluation of an atom of a built-in goal has a fault
abbrev pub Faults : Term → Type 0
Faults t = (fault : ArithFault) × FaultsWith t fault

-- what is found of a goal with these arguments: whether it is true, or the first fault of its evaluation
abbrev pub IsFound : Builtin → List Term → Result Bool ArithFault → Type 0
IsFound goal ts (Err fault) = FaultsInGoal goal ts fault
IsFound goal ts (Ok b) = (IsTrue b ↔ IsTrueGoal goal ts) × ((fault : ArithFault) → ¬ FaultsInGoal goal ts fault)

-- none in place of a fault, unless it is want of memory
abbrev pub unless_fault : Result Bool ArithFault → Result (Option Bool) AllocError
unless_fault (Ok b) = Ok (Some b)
unless_fault (Err Memory) = Err alloc_error
unless_fault (Err Unbound) = Ok None
unless_fault (Err NotEvaluable) = Ok None
unless_fault (Err Overflow) = Ok None
unless_fault (Err ZeroDivisor) = Ok None
