-- A body that is closed by the tests is closed by the replies; so where no clause is left, the goal is uncovered by them.
use Rattle.std.proofs.Common.{◌≡◌, inl, inr, ℕ, ◌+◌, ◌&&◌, ◌||◌, not, true, false, List, [], ◌∷◌, Option, Some, None, refl, sym, ◌∙◌, subst}
use Rattle.std.proofs.lemmas.Bool.{and_parts, not-true, or_cases}
use Rattle.std.specs.Prelude.{IsSome}
use Rattle.std.specs.List.{list_any, list_all, AllByRecursion}
use Rattle.apd_term.specs.Term.{Term, IsGround}
use Rattle.apd_term.specs.Tuple.{canonical_tuple}
use Rattle.apd_term.specs.Substitution.{IsInstance}
use Rattle.apd_term.specs.declared.tuple.Tuple.{Tuple}
use Rattle.apd_term.specs.Matching.{is_instance}
use Rattle.apd_term.proofs.Opposite.{is_instance-is}
use Rattle.apd_arith.specs.declared.goal.Builtin.{Builtin}
use Rattle.apd_arith.specs.Builtins.{builtin_of_atom}
use Rattle.apd_arith.specs.Truths.{is_ground, is_true_atom}
use Rattle.apd_arith.proofs.Tests.{is_true-is, test_ground, all_ground}
use Rattle.apd_record.specs.Recorded.{Recorded, is_none, is_user_atom}
use Rattle.apd_answers.specs.declared.question.Question.{Question}
use Rattle.apd_answers.specs.declared.question.Question.TheVariants as asking
use Rattle.apd_answers.specs.declared.question.Reply.{Reply}
use Rattle.apd_answers.specs.declared.question.Reply.TheVariants.{Yes, No, Values, Unknown}
use Rattle.apd_answers.specs.declared.finding.Finding.{Finding}
use Rattle.apd_answers.specs.declared.finding.Finding.TheVariants.{Uncovered}
use Rattle.apd_answers.specs.Questions.{canonical_question}
use Rattle.apd_answers.specs.declared.store.Pair.{Pair}
use Rattle.apd_answers.specs.Store.{Store, decided_in, SomePairIn, decided, told, same_question, SaysYes, SaysNo, SaysUncovered, TellsUncovered}
use Rattle.apd_answers.specs.Findings.{IsByReplies, IsClosed, IsDenied, IsFalseBuiltin, instance_for}
use Rattle.apd_answers.specs.Dialogue.{ends}
use Rattle.apd_answers.proofs.Tests.{then_some-is, same_question-equal, some_passes}
use Rattle.apd_answers.proofs.Decided.{decided-no, first_there}
use Rattle.apd_missing.specs.Missing.{Unanswered, Looked, is_false_builtin, is_no, is_denied_atom, is_denied, is_closed, first_open, first_undecided, turn_of_ground, turn_of, missing}
use Rattle.apd_missing.proofs.Tests.{by_test}

builtin_is : (o : Option Builtin) → is_none o ≡ false → IsSome o
builtin_is None e = absurd (cc)
builtin_is (Some g) e = refl

false_builtin : (a : Term) → is_false_builtin a ≡ true → IsFalseBuiltin a
false_builtin a e =
    let p = and_parts (not (is_user_atom a)) (is_ground a && not (is_true_atom a)) e in
    let q = and_parts (is_ground a) (not (is_true_atom a)) p.1 in
    record {
      builtin = builtin_is (builtin_of_atom a) (not-true (is_user_atom a) p.0);
      has_no_variable = test_ground a q.0;
      untrue = λ h. let f = sym (not-true (is_true_atom a) q.1) ∙ (is_true-is a).1 h in absurd (cc);
    }

pub no_is : (o : Option Reply) → is_no o ≡ true → o ≡ Some No
no_is None e = absurd (cc)
no_is (Some Yes) e = absurd (cc)
no_is (Some No) e = refl
no_is (Some (Values vs)) e = absurd (cc)
no_is (Some Unknown) e = absurd (cc)

tells_uncovered : (t : Tuple) (q : Question) (r : Reply) → r ≡ No → same_question (canonical_question q) (asking.Covers (canonical_tuple t)) ≡ true → TellsUncovered t q r
tells_uncovered t (asking.True a) r n e = absurd (cc)
tells_uncovered t (asking.Below x y) r n e = absurd (cc)
tells_uncovered t (asking.Covers u) Yes n e = absurd (cc)
tells_uncovered t (asking.Covers u) (Values vs) n e = absurd (cc)
tells_uncovered t (asking.Covers u) Unknown n e = absurd (cc)
tells_uncovered t (asking.Covers u) No n e = let f = same_question-equal (asking.Covers (canonical_tuple u)) (asking.Covers (canonical_tuple t)) e in cc

decided-uncovered_in : (pairs : List Pair) (t : Tuple) → decided_in pairs (asking.Covers t) ≡ Some No → SomePairIn (TellsUncovered t) pairs
decided-uncovered_in [] t e = absurd (cc)
decided-uncovered_in (pair ∷ pairs) t e = elim (first_there (told pair (asking.Covers t)) (decided_in pairs (asking.Covers t)) No e) [
  | inl h ↦
      let p = then_some-is (same_question (canonical_question pair.question) (asking.Covers (canonical_tuple t))) pair.reply No h in
      inl (tells_uncovered t pair.question pair.reply p.1 p.0)
  | inr h ↦ inr (decided-uncovered_in pairs t h.1)
]

decided-uncovered : (store : Store) (t : Tuple) → decided store (asking.Covers t) ≡ Some No → SaysUncovered store t
decided-uncovered store t e = decided-uncovered_in store.pairs t e

pub user_is : (o : Option Builtin) → is_none o ≡ true → o ≡ None
user_is None e = refl
user_is (Some g) e = absurd (cc)

denied_is : (store : Store) (body : List Term) → is_denied store body ≡ true → IsDenied store body
denied_is store body e =
    let p = and_parts (list_all is_ground body) (list_any (is_denied_atom store) body) e in
    record {
      has_no_variable = all_ground body p.0;
      denied = some_passes (is_denied_atom store) (λ a. (builtin_of_atom a ≡ None) × SaysNo store a)
          (λ a f. let q = and_parts (is_user_atom a) (is_no (decided store (asking.True a))) f in (user_is (builtin_of_atom a) q.0, decided-no store a (no_is (decided store (asking.True a)) q.1)))
          body p.1;
    }

pub closed_is : (store : Store) (t : Tuple) → is_closed store t ≡ true → IsClosed store t
closed_is store t e = elim (or_cases (list_any is_false_builtin t.body) (is_no (decided store (asking.Covers t)) || is_denied store t.body) e) [
  | inl f ↦ inl (some_passes is_false_builtin IsFalseBuiltin false_builtin t.body f)
  | inr f ↦ (elim (or_cases (is_no (decided store (asking.Covers t))) (is_denied store t.body) f) [
    | inl g ↦ inr (inl (decided-uncovered store t (no_is (decided store (asking.Covers t)) g)))
    | inr g ↦ inr (inr (denied_is store t.body g))
  ])
]

-- where no clause is open, each is closed
all_closed : (store : Store) (goal : Term) (n : ℕ) (P : List Tuple) → first_open store goal n P ≡ None → AllByRecursion (λ (c : Tuple). IsInstance goal c.head → IsClosed store (instance_for c goal)) P
all_closed store goal n [] e = tt
all_closed store goal n (c ∷ cs) e =
    by_test (is_closed store (instance_for c goal))
    (λ k. (
      λ i. closed_is store (instance_for c goal) k,
      by_test (is_instance goal c.head)
          (λ h. all_closed store goal (n + 1) cs (rw (h, k) at e))
          (λ h. all_closed store goal (n + 1) cs (rw h at e)),
    ))
    (λ k. by_test (is_instance goal c.head)
    (λ h. let f : Some (record { clause = n; instance = instance_for c goal }) ≡ None = rw (h, k) at e in absurd (cc))
    (λ h. (λ i. let f = sym h ∙ (is_instance-is goal c.head).1 i in absurd (cc), all_closed store goal (n + 1) cs (rw h at e))))

-- the turn at which the diagnosis ends
no_end_of_ground : (R : Recorded) (s : Unanswered) (l : Looked) (o : Option Term) (f : Finding) → turn_of_ground R s l o ≡ ends f → ⊥
no_end_of_ground R s l None f e = cc
no_end_of_ground R s l (Some a) f e = cc

pub ended-uncovered : (P : List Tuple) (R : Recorded) (store : Store) (s : Unanswered) (f : Finding) → builtin_of_atom s.goal ≡ None → IsGround s.goal → SaysYes store s.goal
    → (missing P R).turn store s ≡ ends f → IsByReplies P R store f
ended-uncovered P R store s f u g y e = by (first_open store s.goal 1 P) refl e
  where
    by : (o : Option Looked) → first_open store s.goal 1 P ≡ o → turn_of R store s o ≡ ends f → IsByReplies P R store f
    by None n t =
        let same : Uncovered s.goal ≡ f = cc in
        subst (IsByReplies P R store) same (record { of_program = u; has_no_variable = g; says = y; closed = all_closed store s.goal 1 P n })
    by (Some l) n t = by_test (list_all is_ground l.instance.body)
        (λ h. let k : turn_of_ground R s l (first_undecided store l.instance.body) ≡ ends f = rw h at t in absurd (no_end_of_ground R s l (first_undecided store l.instance.body) f k))
        (λ h. let k = rw h at t in absurd (cc))
