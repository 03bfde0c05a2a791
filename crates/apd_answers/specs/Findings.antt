-- What a diagnosis finds: by the replies, what is trusted and what the record shows of it.
use Rattle.std.specs.Prelude.{◌≡◌, ◌≤◌, ℕ, ◌⊎◌, List, [], ◌∷◌, length, map, Option, Some, None, ⊤}
use Rattle.std.specs.List.{AllByRecursion}
use Rattle.apd_term.specs.Term.{Term, apply, IsGround}
use Rattle.apd_term.specs.Canonical.{canonical}
use Rattle.apd_term.specs.Substitution.{IsInstance}
use Rattle.apd_term.specs.declared.tuple.Tuple.{Tuple}
use Rattle.apd_arith.specs.declared.goal.Builtin.{Builtin}
use Rattle.apd_arith.specs.Builtins.{IsBuiltin, builtin_of_atom}
use Rattle.apd_arith.specs.Truth.{IsTrueAtom}
use Rattle.apd_term.specs.Matching.{matching}
use Rattle.apd_record.specs.Recorded.{Recorded}
use Rattle.apd_record.specs.Sound.{IsAlwaysTrue}
use Rattle.apd_term.specs.declared.instance.Instance.{Instance}
use Rattle.apd_answers.specs.declared.finding.Finding.{Finding}
use Rattle.apd_answers.specs.declared.finding.Finding.TheVariants.{WrongInstance, Uncovered, Violation, Candidates}
use Rattle.apd_answers.specs.Store.{Store, SaysYes, SaysNo, SaysUncovered, SaysBelow, SaysNotBelow, SomeTerm}
use Rattle.apd_answers.specs.Trust.{IsGranted}
use Rattle.apd_answers.specs.Interpretation.{Interpretation}
use Rattle.apd_answers.specs.Bugs.{IsInstanceOfClause, IsCall, earlier_atoms}

-- an atom of a built-in goal is always true; of one of the program's own this is known
abbrev pub IsTrueBy : (Term → Type 0) → Option Builtin → Term → Type 0
IsTrueBy IsKnown None a = IsKnown a
IsTrueBy IsKnown (Some goal) a = IsAlwaysTrue a

abbrev pub IsTrueWhere : (Term → Type 0) → Term → Type 0
IsTrueWhere IsKnown a = IsTrueBy IsKnown (builtin_of_atom a) a

-- the store says yes to the atom, or it is one of a built-in goal and always true
abbrev pub Affirms : Store → Term → Type 0
Affirms store a = IsTrueWhere (SaysYes store) a

pub record IsWrongByReplies (P : List Tuple) (R : Recorded) (store : Store) (clause : ℕ) (t : Tuple) : Type 0 where
  pub of_clause : IsInstanceOfClause P clause t
  pub body : AllByRecursion (IsTrueWhere (IsGranted R store)) t.body
  pub head : SaysNo store t.head

-- the atom is a variant of the head of one of the instances
abbrev pub IsHeadAmong : List Instance → Term → Type 0
IsHeadAmong [] a = ⊥
IsHeadAmong (c ∷ cs) a = (canonical c.tuple.head ≡ canonical a) ⊎ IsHeadAmong cs a

-- an instance of its clause, of which each atom of the body is granted, or a variant of the head of a later one
pub record IsCandidate (P : List Tuple) (R : Recorded) (store : Store) (later : List Instance) (c : Instance) : Type 0 where
  pub of_clause : IsInstanceOfClause P c.clause c.tuple
  pub body : AllByRecursion (IsTrueWhere (λ a. IsGranted R store a ⊎ IsHeadAmong later a)) c.tuple.body

abbrev pub AreCandidates : List Tuple → Recorded → Store → List Instance → Type 0
AreCandidates P R store [] = ⊤
AreCandidates P R store (c ∷ cs) = IsCandidate P R store cs c × AreCandidates P R store cs

abbrev pub SaysNoToFirst : Store → List Instance → Type 0
SaysNoToFirst store [] = ⊥
SaysNoToFirst store (c ∷ cs) = SaysNo store c.tuple.head

pub record AreCandidatesByReplies (P : List Tuple) (R : Recorded) (store : Store) (cs : List Instance) : Type 0 where
  pub several : 2 ≤ length cs
  pub each : AreCandidates P R store cs
  pub first : SaysNoToFirst store cs

-- the clause's instance with this ground goal as its head
abbrev pub instance_for : Tuple → Term → Tuple
instance_for c goal = record { head = goal; body = map (apply (matching c.head goal)) c.body }

-- a ground atom of a built-in goal that isn't true
pub record IsFalseBuiltin (a : Term) : Type 0 where
  pub builtin : IsBuiltin a
  pub has_no_variable : IsGround a
  pub untrue : ¬ IsTrueAtom a

-- why a body has no solution: a built-in atom, No to the whole of it, or No to an atom of a ground one
pub record IsDenied (store : Store) (body : List Term) : Type 0 where
  pub has_no_variable : AllByRecursion IsGround body
  pub denied : SomeTerm (λ a. (builtin_of_atom a ≡ None) × SaysNo store a) body

abbrev pub IsClosed : Store → Tuple → Type 0
IsClosed store t = SomeTerm IsFalseBuiltin t.body ⊎ (SaysUncovered store t ⊎ IsDenied store t.body)

pub record IsUncoveredByReplies (P : List Tuple) (store : Store) (goal : Term) : Type 0 where
  pub of_program : builtin_of_atom goal ≡ None
  pub has_no_variable : IsGround goal
  pub says : SaysYes store goal
  pub closed : AllByRecursion (λ (c : Tuple). IsInstance goal c.head → IsClosed store (instance_for c goal)) P

-- what follows from the store of a call that isn't below another
pub data Apart (store : Store) : Term → Term → Type 0 where
  same : (q : Term) → Apart store q q
  said : (q p : Term) → SaysNotBelow store q p → Apart store q p
  through : (q p r : Term) → SaysBelow store p r → Apart store q r → Apart store q p

pub record IsViolationByReplies (R : Recorded) (store : Store) (clause goal caller_no callee : ℕ) (caller_atom callee_atom : Term) : Type 0 where
  pub call : IsCall R clause goal caller_no callee caller_atom callee_atom
  pub earlier : AllByRecursion (Affirms store) (earlier_atoms R callee)
  pub apart : Apart store callee_atom caller_atom

-- the finding follows from the replies
abbrev pub IsByReplies : List Tuple → Recorded → Store → Finding → Type 0
IsByReplies P R store (WrongInstance clause t) = IsWrongByReplies P R store clause t
IsByReplies P R store (Uncovered goal) = IsUncoveredByReplies P store goal
IsByReplies P R store (Violation clause goal caller_no callee caller_atom callee_atom) = IsViolationByReplies R store clause goal caller_no callee caller_atom callee_atom
IsByReplies P R store (Candidates cs) = AreCandidatesByReplies P R store cs

-- the store says that each call is below the one before; of no calls or one there is nothing to say
abbrev pub AllDescendByReplies : Store → List Term → Type 0
AllDescendByReplies store [] = ⊤
AllDescendByReplies store (p ∷ []) = ⊤
AllDescendByReplies store (p ∷ q ∷ calls) = SaysBelow store q p × AllDescendByReplies store (q ∷ calls)

-- each call is below the one before
abbrev pub Descends : Interpretation → List Term → Type 0
Descends m [] = ⊤
Descends m (p ∷ []) = ⊤
Descends m (p ∷ q ∷ calls) = m.below q p × Descends m (q ∷ calls)
