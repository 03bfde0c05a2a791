-- The tests of truth and of ground terms tell truth.
use Rattle.std.proofs.Common.{◌≡◌, Bool, true, false, List, [], ◌∷◌, length, Option, Some, None, Result, Ok, Err, refl, ap, sym, arith}
use Rattle.std.specs.Prelude.{ℕ, ℤ, IsNone, IfSome, IsTrue, ◌↔◌}
use Rattle.std.specs.Option.{unwrap_or}
use Rattle.std.proofs.lemmas.Bool.{eqb-true, and_parts}
use Rattle.std.specs.List.{list_all, AllByRecursion}
use Rattle.apd_term.specs.Term.{Term, integer, arguments, variables, IsGround}
use Rattle.apd_term.proofs.Opposite.{same_term-same, same_term-equal}
use Rattle.apd_arith.proofs.Faulting.{atom_settled}
use Rattle.apd_arith.specs.Builtins.{builtin_of_atom}
use Rattle.apd_arith.specs.Truth.{Faults, IsTrueGoal, IsTrueBy, IsTrueAtom}
use Rattle.apd_arith.specs.Truths.{compare_so, is_ground, is_true_atom, is_true_by, is_true_goal, is_value}
use Rattle.apd_arith.specs.Value.{Value, value}
use Rattle.apd_arith.specs.declared.fault.ArithFault.{ArithFault}
use Rattle.apd_arith.specs.declared.goal.Builtin.{Builtin}
use Rattle.apd_arith.specs.declared.goal.Builtin.TheVariants as goals

so_compared : (r : Result Bool ArithFault) → compare_so r ≡ true → r ≡ Ok true
so_compared (Ok b) is = ap Ok is
so_compared (Err fault) is = absurd (cc)

compared_so : (r : Result Bool ArithFault) → r ≡ Ok true → compare_so r ≡ true
compared_so r is = rw is refl

value_so : (a : Term) (v : Value) → is_value a v ≡ true → (i : ℤ) × (a ≡ integer i) × (v ≡ Ok i)
value_so a (Ok i) is = (i, same_term-equal a (integer i) is, refl)
value_so a (Err fault) is = absurd (cc)

so_value : (a : Term) (v : Value) (i : ℤ) → a ≡ integer i → v ≡ Ok i → is_value a v ≡ true
so_value a v i is has = rw (has, is) (same_term-same (integer i))

pub goal_true : (goal : Builtin) (ts : List Term) → is_true_goal goal ts ≡ true → IsTrueGoal goal ts
goal_true goals.True [] is = tt
goal_true goals.True (a ∷ ts) is = absurd (cc)
goal_true goals.Fail ts is = absurd (cc)
goal_true goals.Unify (a ∷ (b ∷ [])) is = same_term-equal a b is
goal_true goals.Is (a ∷ (b ∷ [])) is = value_so a (value b) is
goal_true goals.Equal (a ∷ (b ∷ [])) is = so_compared _ is
goal_true goals.Different (a ∷ (b ∷ [])) is = so_compared _ is
goal_true goals.Less (a ∷ (b ∷ [])) is = so_compared _ is
goal_true goals.LessEqual (a ∷ (b ∷ [])) is = so_compared _ is
goal_true goals.Greater (a ∷ (b ∷ [])) is = so_compared _ is
goal_true goals.GreaterEqual (a ∷ (b ∷ [])) is = so_compared _ is
goal_true goals.Unify [] is = absurd (cc)
goal_true goals.Is [] is = absurd (cc)
goal_true goals.Equal [] is = absurd (cc)
goal_true goals.Different [] is = absurd (cc)
goal_true goals.Less [] is = absurd (cc)
goal_true goals.LessEqual [] is = absurd (cc)
goal_true goals.Greater [] is = absurd (cc)
goal_true goals.GreaterEqual [] is = absurd (cc)
goal_true goals.Unify (a ∷ []) is = absurd (cc)
goal_true goals.Is (a ∷ []) is = absurd (cc)
goal_true goals.Equal (a ∷ []) is = absurd (cc)
goal_true goals.Different (a ∷ []) is = absurd (cc)
goal_true goals.Less (a ∷ []) is = absurd (cc)
goal_true goals.LessEqual (a ∷ []) is = absurd (cc)
goal_true goals.Greater (a ∷ []) is = absurd (cc)
goal_true goals.GreaterEqual (a ∷ []) is = absurd (cc)
goal_true goals.Unify (a ∷ (b ∷ (c ∷ ts))) is = absurd (cc)
goal_true goals.Is (a ∷ (b ∷ (c ∷ ts))) is = absurd (cc)
goal_true goals.Equal (a ∷ (b ∷ (c ∷ ts))) is = absurd (cc)
goal_true goals.Different (a ∷ (b ∷ (c ∷ ts))) is = absurd (cc)
goal_true goals.Less (a ∷ (b ∷ (c ∷ ts))) is = absurd (cc)
goal_true goals.LessEqual (a ∷ (b ∷ (c ∷ ts))) is = absurd (cc)
goal_true goals.Greater (a ∷ (b ∷ (c ∷ ts))) is = absurd (cc)
goal_true goals.GreaterEqual (a ∷ (b ∷ (c ∷ ts))) is = absurd (cc)

pub true_goal : (goal : Builtin) (ts : List Term) → IsTrueGoal goal ts → is_true_goal goal ts ≡ true
true_goal goals.True [] is = refl
true_goal goals.True (a ∷ ts) is = absurd is
true_goal goals.Fail ts is = absurd is
true_goal goals.Unify (a ∷ (b ∷ [])) is = rw is (same_term-same b)
true_goal goals.Is (a ∷ (b ∷ [])) is = so_value a (value b) is.0 is.1 is.2
true_goal goals.Equal (a ∷ (b ∷ [])) is = compared_so _ is
true_goal goals.Different (a ∷ (b ∷ [])) is = compared_so _ is
true_goal goals.Less (a ∷ (b ∷ [])) is = compared_so _ is
true_goal goals.LessEqual (a ∷ (b ∷ [])) is = compared_so _ is
true_goal goals.Greater (a ∷ (b ∷ [])) is = compared_so _ is
true_goal goals.GreaterEqual (a ∷ (b ∷ [])) is = compared_so _ is
true_goal goals.Unify [] is = absurd is
true_goal goals.Is [] is = absurd is
true_goal goals.Equal [] is = absurd is
true_goal goals.Different [] is = absurd is
true_goal goals.Less [] is = absurd is
true_goal goals.LessEqual [] is = absurd is
true_goal goals.Greater [] is = absurd is
true_goal goals.GreaterEqual [] is = absurd is
true_goal goals.Unify (a ∷ []) is = absurd is
true_goal goals.Is (a ∷ []) is = absurd is
true_goal goals.Equal (a ∷ []) is = absurd is
true_goal goals.Different (a ∷ []) is = absurd is
true_goal goals.Less (a ∷ []) is = absurd is
true_goal goals.LessEqual (a ∷ []) is = absurd is
true_goal goals.Greater (a ∷ []) is = absurd is
true_goal goals.GreaterEqual (a ∷ []) is = absurd is
true_goal goals.Unify (a ∷ (b ∷ (c ∷ ts))) is = absurd is
true_goal goals.Is (a ∷ (b ∷ (c ∷ ts))) is = absurd is
true_goal goals.Equal (a ∷ (b ∷ (c ∷ ts))) is = absurd is
true_goal goals.Different (a ∷ (b ∷ (c ∷ ts))) is = absurd is
true_goal goals.Less (a ∷ (b ∷ (c ∷ ts))) is = absurd is
true_goal goals.LessEqual (a ∷ (b ∷ (c ∷ ts))) is = absurd is
true_goal goals.Greater (a ∷ (b ∷ (c ∷ ts))) is = absurd is
true_goal goals.GreaterEqual (a ∷ (b ∷ (c ∷ ts))) is = absurd is

true_by : (o : Option Builtin) (ts : List Term) → is_true_by o ts ≡ true ↔ IsTrueBy o ts
true_by None ts = (λ is. absurd (cc), λ is. absurd is)
true_by (Some goal) ts = (goal_true goal ts, true_goal goal ts)

-- an atom passes the test exactly where it is true
pub is_true-is : (a : Term) → is_true_atom a ≡ true ↔ IsTrueAtom a
is_true-is a = true_by (builtin_of_atom a) (arguments a)

pub is_true-not : (a : Term) → ¬ IsTrueAtom a → is_true_atom a ≡ false
is_true-not a never = by (is_true_atom a) refl
  where
    by : (b : Bool) → is_true_atom a ≡ b → b ≡ false
    by true is = absurd (never ((is_true-is a).0 is))
    by false is = refl

-- what was found of an atom is what the test says; a fault is no truth
pub truth_tested : (a : Term) (found : Option Bool) → IsNone found ↔ Faults a → IfSome found (λ holds. IsTrue holds ↔ IsTrueAtom a) → unwrap_or found false ≡ is_true_atom a
truth_tested a None faults holds = let f = faults.0 refl in sym (is_true-not a (λ so. (atom_settled a).none f.0 so f.1))
truth_tested a (Some true) faults holds = sym ((is_true-is a).1 (holds.0 refl))
truth_tested a (Some false) faults holds = sym (is_true-not a (λ so. absurd (let e : false ≡ true = holds.1 so in cc)))

-- the test of ground terms
pub test_ground : (t : Term) → is_ground t ≡ true → IsGround t
test_ground t is = empty_of (variables t) (eqb-true (length (variables t)) 0 is)
  where
    empty_of : (vs : List ℕ) → length vs ≡ 0 → vs ≡ []
    empty_of [] is = refl
    empty_of (v ∷ vs) is = absurd (omega (arith, is))

pub ground_test : (t : Term) → IsGround t → is_ground t ≡ true
ground_test t is = rw is refl

pub all_ground : (ts : List Term) → list_all is_ground ts ≡ true → AllByRecursion IsGround ts
all_ground [] is = tt
all_ground (t ∷ ts) is = let h = and_parts (is_ground t) (list_all is_ground ts) is in (test_ground t h.0, all_ground ts h.1)
