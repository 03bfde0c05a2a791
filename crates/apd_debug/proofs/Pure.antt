-- Instances of goals of pure Prolog are such goals, and instances of atoms of a program's own predicates are such atoms.
use Rattle.std.proofs.Common.{◌≡◌, inl, inr, ℕ, zero, suc, ◌<◌, ◌≤◌, true, List, [], ◌∷◌, length, map, Option, Some, None, sym, ◌∙◌, ap, subst, arith}
use Rattle.std.specs.Prelude.{All, IsSome, slice_get}
use Rattle.std.specs.List.{AllByRecursion}
use Rattle.std.proofs.lemmas.List.{length-map}
use Rattle.std.proofs.lemmas.List.Elements.{All-from_recursion, recursion_from_All}
use Rattle.apd_arith.specs.declared.goal.Builtin.{Builtin}
use Rattle.apd_arith.specs.Builtins.{builtin_of_atom}
use Rattle.apd_clauses.specs.Clauses.{IsClause}
use Rattle.apd_clauses.specs.Kinds.{IsPureGoal, IsUserAtom}
use Rattle.apd_known.specs.Pairs.{MayCover}
use Rattle.apd_record.proofs.Atoms.{IsPureGoal-apply, IsUserAtom-apply}
use Rattle.apd_record.specs.Recorded.{is_none, is_user_atom}
use Rattle.apd_record.specs.Sound.{clause_of}
use Rattle.apd_recorded.proofs.Tried.{All-at}
use Rattle.apd_term.proofs.Ground.{apply-ground}
use Rattle.apd_term.proofs.Tuples.{IsInstance-head, canonical_is_instance}
use Rattle.apd_term.specs.Substitution.{IsInstance}
use Rattle.apd_term.specs.Term.{IsGround, Term, apply}
use Rattle.apd_term.specs.Tuple.{IsTupleInstance, canonical_tuple}
use Rattle.apd_term.specs.declared.tuple.Tuple.{Tuple}

pub user-instance : (a b : Term) → IsInstance a b → IsUserAtom b → IsUserAtom a
user-instance a b i user = subst IsUserAtom i.1 (IsUserAtom-apply i.0 b user)

pub pure-instance : (a b : Term) → IsInstance a b → IsPureGoal b → IsPureGoal a
pure-instance a b i pure = subst IsPureGoal i.1 (IsPureGoal-apply i.0 b pure)

-- a goal of pure Prolog that isn't built in
not_own : (o : Option Builtin) → is_none o ≡ true → IsSome o → ⊥
not_own None is some = cc
not_own (Some goal) is some = cc

pub own_of_pure : (a : Term) → IsPureGoal a → is_user_atom a ≡ true → IsUserAtom a
own_of_pure a (inl user) is = user
own_of_pure a (inr builtin) is = absurd (not_own (builtin_of_atom a) is builtin)

-- goals of pure Prolog
abbrev pub ArePure : List Term → Type 0
ArePure goals = AllByRecursion IsPureGoal goals

pub pure-map : (s : ℕ → Term) (goals : List Term) → ArePure goals → ArePure (map (apply s) goals)
pure-map s [] pure = tt
pure-map s (a ∷ goals) pure = (IsPureGoal-apply s a pure.0, pure-map s goals pure.1)

pub pure_body : (t u : Tuple) → IsTupleInstance t u → ArePure u.body → ArePure t.body
pure_body t u i pure = subst (λ (x : Tuple). ArePure x.body) i.1 (pure-map i.0 u.body pure)

pub pure_goals : (goals : List Term) → All IsPureGoal goals → ArePure goals
pure_goals goals all = recursion_from_All IsPureGoal goals all

pub pure_at : (goals : List Term) (i : ℕ) (a : Term) → ArePure goals → slice_get goals i ≡ Some a → IsPureGoal a
pure_at [] i a pure there = cc
pure_at (b ∷ goals) zero a pure there = let same : b ≡ a = cc in subst IsPureGoal same pure.0
pure_at (b ∷ goals) (suc i) a pure there = pure_at goals i a pure.1 there

-- a clause of a program
pub is_clause : (P : List Tuple) (c : ℕ) (rule : Tuple) → All IsClause P → clause_of P c ≡ Some rule → IsClause rule
is_clause P zero rule all there = cc
is_clause P (suc i) rule all there = All-at IsClause P i rule all there

-- A body that may be asked about, and its canonical form.
pub record IsOwnBody (t : Tuple) : Type 0 where
  pub head : IsUserAtom t.head
  pub ground : IsGround t.head
  pub goals : ArePure t.body
  pub few : length t.body ≤ 64

same_length : (t u : Tuple) → IsTupleInstance t u → length t.body ≡ length u.body
same_length t u i = ap (λ (x : Tuple). length x.body) (sym i.1) ∙ length-map u.body (apply i.0)

pub may_cover : (t : Tuple) → IsOwnBody t → 0 < length t.body → MayCover (canonical_tuple t)
may_cover t own some =
    let form = canonical_tuple t in
    let i = canonical_is_instance t in
    let same = same_length form t i in
    let head : t.head ≡ form.head = sym (apply-ground i.0 t.head own.ground) ∙ ap (λ (x : Tuple). x.head) i.1 in
    let few = own.few in
    record {
      head = user-instance form.head t.head (IsInstance-head form t i) own.head;
      ground = subst IsGround head own.ground;
      some = omega (arith, same, some);
      few = omega (arith, same, few);
      goals = All-from_recursion IsPureGoal form.body (pure_body form t i own.goals);
    }
