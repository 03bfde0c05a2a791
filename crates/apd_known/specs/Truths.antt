-- Whether an atom passes in a body with values: where it is one of a built-in goal, it is true.
use Rattle.std.specs.Prelude.{◌&&◌, Bool, true, Option, Some, None}
use Rattle.apd_term.specs.Term.{Term, arguments}
use Rattle.apd_arith.specs.Builtins.{builtin_of_atom}
use Rattle.apd_arith.specs.Truths.{is_ground, is_true_goal}
use Rattle.apd_arith.specs.declared.goal.Builtin.{Builtin}

-- an atom of a built-in goal is ground and true; other atoms pass
abbrev pub passes : Option Builtin → Term → Bool
passes None a = true
passes (Some goal) a = is_ground a && is_true_goal goal (arguments a)

abbrev pub is_true_if_builtin : Term → Bool
is_true_if_builtin a = passes (builtin_of_atom a) a
