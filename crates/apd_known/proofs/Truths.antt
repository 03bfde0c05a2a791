-- The test of atoms in a body with values tells truth.
use Rattle.std.proofs.Common.{◌≡◌, ◌&&◌, Bool, true, false, List, [], ◌∷◌, Option, Some, None, refl, ◌∙◌}
use Rattle.std.specs.Prelude.{IsSome, IsNone, IfSome, IsTrue, ◌↔◌}
use Rattle.std.specs.Option.{unwrap_or}
use Rattle.std.specs.List.{list_all, AllByRecursion}
use Rattle.apd_term.specs.Term.{Term, arguments, IsGround}
use Rattle.apd_arith.specs.Builtins.{builtin_of_atom, IsBuiltin}
use Rattle.apd_arith.specs.Truth.{Faults, IsTrueBy, IsTrueAtom}
use Rattle.apd_arith.specs.Truths.{is_ground, is_true_by, is_true_goal}
use Rattle.apd_arith.specs.declared.goal.Builtin.{Builtin}
use Rattle.apd_arith.proofs.Tests as tests
use Rattle.apd_answers.specs.Questions.{IsTrueIfBuiltin}
use Rattle.apd_known.specs.Truths.{is_true_if_builtin, passes}

pub both_left : (a b : Bool) → (a && b) ≡ true → a ≡ true
both_left true b is = refl
both_left false b is = absurd (cc)

pub both_right : (a b : Bool) → (a && b) ≡ true → b ≡ true
both_right true b is = is
both_right false b is = absurd (cc)

-- an atom of a built-in goal that passes the test is true
true_by : (o : Option Builtin) (a : Term) → passes o a ≡ true → IsSome o → IsTrueBy o (arguments a)
true_by None a is some = absurd (cc)
true_by (Some goal) a is some = tests.goal_true goal (arguments a) (both_right (is_ground a) (is_true_goal goal (arguments a)) is)

pub passes_true : (a : Term) → is_true_if_builtin a ≡ true → IsTrueIfBuiltin a
passes_true a is some = true_by (builtin_of_atom a) a is some

pub all_pass : (ts : List Term) → list_all is_true_if_builtin ts ≡ true → AllByRecursion IsTrueIfBuiltin ts
all_pass [] is = tt
all_pass (t ∷ ts) is = (passes_true t (both_left (is_true_if_builtin t) (list_all is_true_if_builtin ts) is), all_pass ts (both_right (is_true_if_builtin t) (list_all is_true_if_builtin ts) is))

-- a ground one passes exactly where it is true
passes_ground : (o : Option Builtin) (a : Term) → is_ground a ≡ true → IsSome o → is_true_by o (arguments a) ≡ passes o a
passes_ground None a ground some = absurd (cc)
passes_ground (Some goal) a ground some = rw ground refl

-- so the truth that was found of it decides whether it passes
pub truth_tested : (a : Term) (found : Option Bool) → IsGround a → IsBuiltin a → IsNone found ↔ Faults a → IfSome found (λ holds. IsTrue holds ↔ IsTrueAtom a) → unwrap_or found false ≡ is_true_if_builtin a
truth_tested a found ground some faults holds = tests.truth_tested a found faults holds ∙ passes_ground (builtin_of_atom a) a (tests.ground_test a ground) some
