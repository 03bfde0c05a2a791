-- The tests tell what they test.
use Rattle.std.proofs.Common.{◌≡◌, ◌↔◌, ◌⊎◌, inl, inr, ◌&&◌, Bool, true, false, List, [], ◌∷◌, Option, None, Some, refl, sym, ap, ◌∙◌, subst}
use Rattle.std.specs.Prelude.{not, ◌||◌, IsSome}
use Rattle.std.specs.List.{list_any, list_all, AllByRecursion}
use Rattle.apd_term.specs.Term.{Term, IsGround}
use Rattle.apd_term.specs.Canonical.{canonical}
use Rattle.apd_term.specs.Matching.{is_instance}
use Rattle.apd_term.specs.Substitution.{IsInstance}
use Rattle.apd_term.specs.Tuple.{canonical_tuple, apply_tuple, IsTupleInstance}
use Rattle.apd_term.specs.declared.tuple.Tuple.{Tuple}
use Rattle.apd_term.proofs.Opposite.{is_instance-is}
use Rattle.apd_arith.specs.Builtins.{builtin_of_atom, IsBuiltin}
use Rattle.apd_arith.specs.Truth.{IsTrueAtom}
use Rattle.apd_arith.specs.Truths.{is_ground, is_true_atom}
use Rattle.apd_arith.specs.declared.goal.Builtin.{Builtin}
use Rattle.apd_arith.proofs.Tests.{is_true-is, test_ground, ground_test}
use Rattle.apd_record.specs.Recorded.{is_none, is_user_atom}
use Rattle.apd_record.specs.Sound.{IsAlwaysTrue}
use Rattle.apd_answers.specs.Questions.{canonical_question, with_values}
use Rattle.apd_answers.specs.Store.{Store, SomePair, SomePairIn, SomeTerm, TellsYes, TellsNo, TellsUncovered, TellsBelow, SaysYes, SaysNo, SaysUncovered, SaysBelow, SaysNotBelow, same_question, same_reply}
use Rattle.apd_answers.specs.Findings.{Affirms, IsTrueBy, instance_for, IsFalseBuiltin, IsDenied, IsClosed, IsUncoveredByReplies}
use Rattle.apd_answers.specs.declared.question.Question.{Question}
use Rattle.apd_answers.specs.declared.question.Question.TheVariants as asks
use Rattle.apd_answers.specs.declared.question.Reply.{Reply}
use Rattle.apd_answers.specs.declared.question.Reply.TheVariants.{Yes, No, Values, Unknown}
use Rattle.apd_answers.specs.declared.store.Pair.{Pair}
use Rattle.apd_answers.proofs.Tests.{same_question-equal, same_question-same}
use Rattle.apd_term.proofs.Tuples.{as_term-apply, as_term-injective}
use Rattle.apd_findings.specs.Deciding.{some_pair, tells_yes, tells_no, tells_same, says_yes, says_no, says_uncovered, says_same, says_below, says_not_below, affirms_by, affirms, as_term, is_tuple_instance, is_instance_of, is_false_builtin, is_denied_atom, is_denied, is_closed, covers_not, is_uncovered}
use Rattle.apd_findings.proofs.Instances.{true_always, always_true}

-- The words of the tests.

pub and-is : (a b : Bool) (A B : Type 0) → a ≡ true ↔ A → b ≡ true ↔ B → (a && b) ≡ true ↔ (A × B)
and-is true b A B p q = (λ e. (p.0 refl, q.0 e), λ h. q.1 h.1)
and-is false b A B p q = (λ e. absurd (cc), λ h. p.1 h.0)

pub or-is : (a b : Bool) (A B : Type 0) → a ≡ true ↔ A → b ≡ true ↔ B → (a || b) ≡ true ↔ (A ⊎ B)
or-is true b A B p q = (λ e. inl (p.0 refl), λ h. refl)
or-is false b A B p q = (λ e. inr (q.0 e), λ h. elim h [ inl a ↦ absurd (let e : false ≡ true = p.1 a in cc) | inr b ↦ q.1 b ])

pub not-is : (a : Bool) (A : Type 0) → a ≡ true ↔ A → not a ≡ true ↔ (¬ A)
not-is true A p = (λ e. absurd (cc), λ h. absurd (h (p.0 refl)))
not-is false A p = (λ e. λ x. (let f : false ≡ true = p.1 x in cc), λ h. refl)

pub all-is : {X : Type 0} (test : X → Bool) (P : X → Type 0) → ((x : X) → test x ≡ true ↔ P x) → (xs : List X) → list_all test xs ≡ true ↔ AllByRecursion P xs
all-is test P h [] = (λ e. tt, λ k. refl)
all-is test P h (x ∷ xs) = and-is (test x) (list_all test xs) (P x) (AllByRecursion P xs) (h x) (all-is test P h xs)

pub some_term-is : (test : Term → Bool) (P : Term → Type 0) → ((x : Term) → test x ≡ true ↔ P x) → (xs : List Term) → list_any test xs ≡ true ↔ SomeTerm P xs
some_term-is test P h [] = (λ e. absurd (cc), λ k. absurd k)
some_term-is test P h (x ∷ xs) = or-is (test x) (list_any test xs) (P x) (SomeTerm P xs) (h x) (some_term-is test P h xs)

pub some_pair-is : (test : Question → Reply → Bool) (P : Question → Reply → Type 0) → ((q : Question) (r : Reply) → test q r ≡ true ↔ P q r) → (pairs : List Pair)
    → some_pair test pairs ≡ true ↔ SomePairIn P pairs
some_pair-is test P h [] = (λ e. absurd (cc), λ k. absurd k)
some_pair-is test P h (p ∷ pairs) = or-is (test p.question p.reply) (some_pair test pairs) (P p.question p.reply) (SomePairIn P pairs) (h p.question p.reply) (some_pair-is test P h pairs)

never : (A : Type 0) → ¬ A → false ≡ true ↔ A
never A untrue = (λ e. absurd (cc), λ a. absurd (untrue a))

-- What store tell.

pub tells_yes-is : (a : Term) (q : Question) (r : Reply) → tells_yes a q r ≡ true ↔ TellsYes a q r
tells_yes-is a (asks.True b) Yes = is_instance-is a b
tells_yes-is a (asks.True b) No = never _ (λ h. h)
tells_yes-is a (asks.True b) (Values vs) = never _ (λ h. h)
tells_yes-is a (asks.True b) Unknown = never _ (λ h. h)
tells_yes-is a (asks.Covers t) Yes = never _ (λ h. h)
tells_yes-is a (asks.Covers t) No = never _ (λ h. h)
tells_yes-is a (asks.Covers t) (Values vs) = some_term-is (is_instance a) (IsInstance a) (is_instance-is a) (with_values t vs)
tells_yes-is a (asks.Covers t) Unknown = never _ (λ h. h)
tells_yes-is a (asks.Below x y) Yes = never _ (λ h. h)
tells_yes-is a (asks.Below x y) No = never _ (λ h. h)
tells_yes-is a (asks.Below x y) (Values vs) = never _ (λ h. h)
tells_yes-is a (asks.Below x y) Unknown = never _ (λ h. h)

pub tells_no-is : (a : Term) (q : Question) (r : Reply) → tells_no a q r ≡ true ↔ TellsNo a q r
tells_no-is a (asks.True b) Yes = never _ (λ h. h)
tells_no-is a (asks.True b) No = is_instance-is b a
tells_no-is a (asks.True b) (Values vs) = never _ (λ h. h)
tells_no-is a (asks.True b) Unknown = never _ (λ h. h)
tells_no-is a (asks.Covers t) r = never _ (λ h. h)
tells_no-is a (asks.Below x y) r = never _ (λ h. h)

yes_or_no : Reply → Bool
yes_or_no Yes = true
yes_or_no No = true
yes_or_no (Values vs) = false
yes_or_no Unknown = false

same_reply-is : (r said : Reply) → yes_or_no said ≡ true → same_reply r said ≡ true ↔ (r ≡ said)
unfolding yes_or_no
same_reply-is Yes Yes k = (λ e. refl, λ e. refl)
same_reply-is No Yes k = (λ e. absurd (cc), λ e. absurd (cc))
same_reply-is (Values vs) Yes k = (λ e. absurd (cc), λ e. absurd (cc))
same_reply-is Unknown Yes k = (λ e. absurd (cc), λ e. absurd (cc))
same_reply-is Yes No k = (λ e. absurd (cc), λ e. absurd (cc))
same_reply-is No No k = (λ e. refl, λ e. refl)
same_reply-is (Values vs) No k = (λ e. absurd (cc), λ e. absurd (cc))
same_reply-is Unknown No k = (λ e. absurd (cc), λ e. absurd (cc))
same_reply-is r (Values vs) k = absurd (cc)
same_reply-is r Unknown k = absurd (cc)

-- the reply to the same question
abbrev pub Same : Question → Reply → Question → Reply → Type 0
Same question said q r = (canonical_question q ≡ canonical_question question) × (r ≡ said)

same_question-is : (q x : Question) → same_question q x ≡ true ↔ (q ≡ x)
same_question-is q x = (same_question-equal q x, λ e. subst (λ (y : Question). same_question q y ≡ true) e (same_question-same q))

tells_same-is : (question : Question) (said : Reply) → yes_or_no said ≡ true → (q : Question) (r : Reply) → tells_same (canonical_question question) said q r ≡ true ↔ Same question said q r
tells_same-is question said k q r =
    and-is (same_question (canonical_question q) (canonical_question question)) (same_reply r said) (canonical_question q ≡ canonical_question question) (r ≡ said)
    (same_question-is (canonical_question q) (canonical_question question)) (same_reply-is r said k)

says_same-is : (store : Store) (question : Question) (said : Reply) → yes_or_no said ≡ true → (P : Question → Reply → Type 0) → ((q : Question) (r : Reply) → Same question said q r ↔ P q r)
    → says_same store question said ≡ true ↔ SomePair P store
says_same-is store question said k P h =
    some_pair-is (tells_same (canonical_question question) said) P (λ q r. (λ e. (h q r).0 ((tells_same-is question said k q r).0 e), λ p. (tells_same-is question said k q r).1 ((h q r).1 p))) store.pairs

uncovered-same : (t : Tuple) (q : Question) (r : Reply) → Same (asks.Covers t) No q r ↔ TellsUncovered t q r
uncovered-same t (asks.True b) r = (λ s. (let e : asks.True (canonical b) ≡ asks.Covers (canonical_tuple t) = s.0 in cc), λ h. absurd h)
uncovered-same t (asks.Covers u) Yes = (λ s. (let e : Yes ≡ No = s.1 in cc), λ h. absurd h)
uncovered-same t (asks.Covers u) No = (λ s. (let e : asks.Covers (canonical_tuple u) ≡ asks.Covers (canonical_tuple t) = s.0 in cc), λ h. (ap asks.Covers h, refl))
uncovered-same t (asks.Covers u) (Values vs) = (λ s. (let e : Values vs ≡ No = s.1 in cc), λ h. absurd h)
uncovered-same t (asks.Covers u) Unknown = (λ s. (let e : Unknown ≡ No = s.1 in cc), λ h. absurd h)
uncovered-same t (asks.Below x y) r = (λ s. (let e : asks.Below (canonical x) (canonical y) ≡ asks.Covers (canonical_tuple t) = s.0 in cc), λ h. absurd h)

below-same : (said : Reply) (q p : Term) (x : Question) (r : Reply) → Same (asks.Below q p) said x r ↔ TellsBelow said q p x r
below-same said q p (asks.True b) r = (λ s. (let e : asks.True (canonical b) ≡ asks.Below (canonical q) (canonical p) = s.0 in cc), λ h. absurd h)
below-same said q p (asks.Covers u) r = (λ s. (let e : asks.Covers (canonical_tuple u) ≡ asks.Below (canonical q) (canonical p) = s.0 in cc), λ h. absurd h)
below-same said q p (asks.Below x y) r = (
  λ s. (let e : asks.Below (canonical x) (canonical y) ≡ asks.Below (canonical q) (canonical p) = s.0 in (s.1, cc, cc)),
  λ h. (let f = h.1 in let g = h.2 in (cc, h.0)),
)

pub says_below-is : (store : Store) (q p : Term) → says_below store q p ≡ true ↔ SaysBelow store q p
unfolding yes_or_no
says_below-is store q p = says_same-is store (asks.Below q p) Yes refl (TellsBelow Yes q p) (below-same Yes q p)

pub says_not_below-is : (store : Store) (q p : Term) → says_not_below store q p ≡ true ↔ SaysNotBelow store q p
unfolding yes_or_no
says_not_below-is store q p = says_same-is store (asks.Below q p) No refl (TellsBelow No q p) (below-same No q p)

pub says_yes-is : (store : Store) (a : Term) → says_yes store a ≡ true ↔ SaysYes store a
says_yes-is store a = some_pair-is (tells_yes a) (TellsYes a) (tells_yes-is a) store.pairs

pub says_no-is : (store : Store) (a : Term) → says_no store a ≡ true ↔ SaysNo store a
says_no-is store a = some_pair-is (tells_no a) (TellsNo a) (tells_no-is a) store.pairs

pub says_uncovered-is : (store : Store) (t : Tuple) → says_uncovered store t ≡ true ↔ SaysUncovered store t
unfolding yes_or_no
says_uncovered-is store t = says_same-is store (asks.Covers t) No refl (TellsUncovered t) (uncovered-same t)

-- An instance of a clause.

pub stands-is : (a : Term) → is_true_atom a ≡ true ↔ IsAlwaysTrue a
stands-is a = (λ e. true_always a ((is_true-is a).0 e), λ h. (is_true-is a).1 (always_true a h))

affirms_by-is : (o : Option Builtin) (store : Store) (a : Term) → affirms_by o store a ≡ true ↔ IsTrueBy (SaysYes store) o a
affirms_by-is None store a = says_yes-is store a
affirms_by-is (Some goal) store a = stands-is a

pub affirms-is : (store : Store) (a : Term) → affirms store a ≡ true ↔ Affirms store a
affirms-is store a = affirms_by-is (builtin_of_atom a) store a

pub tuple_instance-is : (t c : Tuple) → is_tuple_instance t c ≡ true ↔ IsTupleInstance t c
tuple_instance-is t c = (
  λ e. (let i = (is_instance-is (as_term t) (as_term c)).0 e in (i.0, as_term-injective (apply_tuple i.0 c) t (sym (as_term-apply i.0 c) ∙ i.1))),
  λ h. (is_instance-is (as_term t) (as_term c)).1 (h.0, as_term-apply h.0 c ∙ ap as_term h.1),
)

pub instance_of-is : (t : Tuple) (o : Option Tuple) → is_instance_of t o ≡ true ↔ ((c : Tuple) × (o ≡ Some c) × IsTupleInstance t c)
instance_of-is t None = never _ (λ h. (let e : None ≡ Some h.0 = h.1 in cc))
instance_of-is t (Some c) = (
  λ e. (c, refl, (tuple_instance-is t c).0 e),
  λ h. (let same : c ≡ h.0 = cc in (tuple_instance-is t c).1 (subst (IsTupleInstance t) (sym same) h.2)),
)

-- An uncovered goal.

user-is : (o : Option Builtin) → is_none o ≡ true ↔ (o ≡ None)
user-is None = (λ e. refl, λ e. refl)
user-is (Some g) = (λ e. absurd (cc), λ e. absurd (cc))

ground-is : (a : Term) → is_ground a ≡ true ↔ IsGround a
ground-is a = (test_ground a, ground_test a)

built-is : (o : Option Builtin) → not (is_none o) ≡ true ↔ IsSome o
built-is None = (λ e. absurd (cc), λ h. absurd (cc))
built-is (Some g) = (λ e. refl, λ h. refl)

is_false_builtin-is : (a : Term) → is_false_builtin a ≡ true ↔ IsFalseBuiltin a
is_false_builtin-is a =
    let all = and-is (not (is_user_atom a)) (is_ground a && not (is_true_atom a)) (IsBuiltin a) (IsGround a × (¬ IsTrueAtom a)) (built-is (builtin_of_atom a))
    (and-is (is_ground a) (not (is_true_atom a)) (IsGround a) (¬ IsTrueAtom a) (ground-is a) (not-is (is_true_atom a) (IsTrueAtom a) (is_true-is a))) in (
      λ e. (let h = all.0 e in record { builtin = h.0; has_no_variable = h.1.0; untrue = h.1.1 }),
      λ w. all.1 (w.builtin, (w.has_no_variable, w.untrue)),
    )

abbrev Denies : Store → Term → Type 0
Denies store a = (builtin_of_atom a ≡ None) × SaysNo store a

is_denied_atom-is : (store : Store) (a : Term) → is_denied_atom store a ≡ true ↔ Denies store a
is_denied_atom-is store a = and-is (is_user_atom a) (says_no store a) (builtin_of_atom a ≡ None) (SaysNo store a) (user-is (builtin_of_atom a)) (says_no-is store a)

is_denied-is : (store : Store) (body : List Term) → is_denied store body ≡ true ↔ IsDenied store body
is_denied-is store body =
    let all = and-is (list_all is_ground body) (list_any (is_denied_atom store) body) (AllByRecursion IsGround body) (SomeTerm (Denies store) body)
    (all-is is_ground IsGround ground-is body) (some_term-is (is_denied_atom store) (Denies store) (is_denied_atom-is store) body) in (
      λ e. (let h = all.0 e in record { has_no_variable = h.0; denied = h.1 }),
      λ w. all.1 (w.has_no_variable, w.denied),
    )

is_closed-is : (store : Store) (t : Tuple) → is_closed store t ≡ true ↔ IsClosed store t
is_closed-is store t =
    or-is (list_any is_false_builtin t.body) (says_uncovered store t || is_denied store t.body) (SomeTerm IsFalseBuiltin t.body) (SaysUncovered store t ⊎ IsDenied store t.body)
    (some_term-is is_false_builtin IsFalseBuiltin is_false_builtin-is t.body)
    (or-is (says_uncovered store t) (is_denied store t.body) (SaysUncovered store t) (IsDenied store t.body) (says_uncovered-is store t) (is_denied-is store t.body))

-- where the one test holds, so does the other
pub implies-is : (a b : Bool) (A B : Type 0) → a ≡ true ↔ A → b ≡ true ↔ B → (not a || b) ≡ true ↔ (A → B)
implies-is true b A B p q = (λ e. λ a. q.0 e, λ h. q.1 (h (p.0 refl)))
implies-is false b A B p q = (λ e. λ a. absurd (let f : false ≡ true = p.1 a in cc), λ h. refl)

abbrev CoversNot : Store → Term → Tuple → Type 0
CoversNot store goal c = IsInstance goal c.head → IsClosed store (instance_for c goal)

covers_not-is : (store : Store) (goal : Term) (c : Tuple) → covers_not store goal c ≡ true ↔ CoversNot store goal c
covers_not-is store goal c =
    implies-is (is_instance goal c.head) (is_closed store (instance_for c goal)) (IsInstance goal c.head) (IsClosed store (instance_for c goal)) (is_instance-is goal c.head) (is_closed-is store (instance_for c goal))

pub is_uncovered-is : (P : List Tuple) (store : Store) (goal : Term) → is_uncovered P store goal ≡ true ↔ IsUncoveredByReplies P store goal
is_uncovered-is P store goal =
    let all = and-is (is_user_atom goal && is_ground goal) (says_yes store goal && list_all (covers_not store goal) P)
    ((builtin_of_atom goal ≡ None) × IsGround goal) (SaysYes store goal × AllByRecursion (CoversNot store goal) P)
    (and-is (is_user_atom goal) (is_ground goal) (builtin_of_atom goal ≡ None) (IsGround goal) (user-is (builtin_of_atom goal)) (ground-is goal))
    (and-is (says_yes store goal) (list_all (covers_not store goal) P) (SaysYes store goal) (AllByRecursion (CoversNot store goal) P) (says_yes-is store goal)
    (all-is (covers_not store goal) (CoversNot store goal) (covers_not-is store goal) P)) in (
      λ e. (let h = all.0 e in record { of_program = h.0.0; has_no_variable = h.0.1; says = h.1.0; closed = h.1.1 }),
      λ w. all.1 ((w.of_program, w.has_no_variable), (w.says, w.closed)),
    )
