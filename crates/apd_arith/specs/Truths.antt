-- Whether an atom of a built-in goal, without variables, is true, as a test.
use Rattle.std.specs.Prelude.{◌==◌, Bool, true, false, List, [], ◌∷◌, length, Option, Some, None, Result, Ok, Err}
use Rattle.apd_term.specs.Matching.{same_term}
use Rattle.apd_term.specs.Term.{Term, integer, arguments, variables}
use Rattle.apd_arith.specs.Builtins.{builtin_of_atom}
use Rattle.apd_arith.specs.Truth.{compared}
use Rattle.apd_arith.specs.Value.{Value, value}
use Rattle.apd_arith.specs.declared.comparison.Comparison.TheVariants.{Equal, Different, Less, LessEqual, Greater, GreaterEqual}
use Rattle.apd_arith.specs.declared.fault.ArithFault.{ArithFault}
use Rattle.apd_arith.specs.declared.goal.Builtin.{Builtin}
use Rattle.apd_arith.specs.declared.goal.Builtin.TheVariants as goals

-- a term is this value
abbrev pub is_value : Term → Value → Bool
is_value t (Ok i) = same_term t (integer i)
is_value t (Err fault) = false

-- two values compare so
abbrev pub compare_so : Result Bool ArithFault → Bool
compare_so (Ok b) = b
compare_so (Err fault) = false

-- a goal with these arguments, which have no variables, is true
abbrev pub is_true_goal : Builtin → List Term → Bool
is_true_goal goals.True [] = true
is_true_goal goals.Unify (a ∷ b ∷ []) = same_term a b
is_true_goal goals.Is (a ∷ e ∷ []) = is_value a (value e)
is_true_goal goals.Equal (a ∷ b ∷ []) = compare_so (compared Equal (value a) (value b))
is_true_goal goals.Different (a ∷ b ∷ []) = compare_so (compared Different (value a) (value b))
is_true_goal goals.Less (a ∷ b ∷ []) = compare_so (compared Less (value a) (value b))
is_true_goal goals.LessEqual (a ∷ b ∷ []) = compare_so (compared LessEqual (value a) (value b))
is_true_goal goals.Greater (a ∷ b ∷ []) = compare_so (compared Greater (value a) (value b))
is_true_goal goals.GreaterEqual (a ∷ b ∷ []) = compare_so (compared GreaterEqual (value a) (value b))
is_true_goal _ _ = false

abbrev pub is_true_by : Option Builtin → List Term → Bool
is_true_by None ts = false
is_true_by (Some goal) ts = is_true_goal goal ts

-- an atom of a built-in goal, without variables, is true; other atoms aren't
abbrev pub is_true_atom : Term → Bool
is_true_atom a = is_true_by (builtin_of_atom a) (arguments a)

-- no variable stands in the term
abbrev pub is_ground : Term → Bool
is_ground t = length (variables t) == 0
