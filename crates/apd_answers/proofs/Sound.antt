-- A finding by replies that are true of an interpretation is a bug in it.
use Rattle.std.specs.Prelude.{IsSome}
use Rattle.std.proofs.Common.{◌≡◌, ◌⊎◌, inl, inr, ℕ, List, [], ◌∷◌, map, Option, Some, None, refl, sym, ◌∙◌, ap, subst}
use Rattle.std.specs.List.{AllByRecursion}
use Rattle.apd_term.specs.Term.{Term, variable, integer, compound, apply, variables, IsGround, IsAmong, Occurs}
use Rattle.apd_term.proofs.Among.{IsAmong-piece}
use Rattle.apd_term.specs.Canonical.{canonical}
use Rattle.apd_term.specs.Tuple.{canonical_tuple}
use Rattle.apd_term.specs.Substitution.{IsInstance, followed_by}
use Rattle.apd_term.specs.declared.tuple.Tuple.{Tuple}
use Rattle.apd_term.proofs.Applying.{apply-same, variables-apply}
use Rattle.apd_term.proofs.Ground.{apply-ground}
use Rattle.apd_term.proofs.Tuples.{apply_list-followed_by, IsTupleInstance-canonical}
use Rattle.apd_term.proofs.Variants.{canonical-canonical}
use Rattle.apd_arith.specs.declared.goal.Builtin.{Builtin}
use Rattle.apd_arith.specs.Builtins.{builtin_of, builtin_of_atom}
use Rattle.apd_term.specs.Matching.{matching}
use Rattle.apd_term.proofs.Opposite.{matching-forced, matching-stays, opposite-same}
use Rattle.apd_record.specs.Recorded.{Recorded}
use Rattle.apd_term.specs.declared.instance.Instance.{Instance}
use Rattle.apd_record.specs.Sound.{IsAlwaysTrue, IsSound}
use Rattle.apd_term.proofs.Spelling.{length-apply_all}
use Rattle.apd_answers.specs.declared.finding.Finding.{Finding}
use Rattle.apd_answers.specs.declared.finding.Finding.TheVariants.{WrongInstance, Uncovered, Violation, Candidates}
use Rattle.apd_answers.specs.Interpretation.{Interpretation, Holds, HoldsBy, IsValid}
use Rattle.apd_answers.specs.Store.{Store, SaysYes, SaysNo, SomeTerm, AreTruePairs}
use Rattle.apd_answers.specs.Trust.{IsGranted, AreTrue}
use Rattle.apd_answers.specs.Bugs.{IsBug, IsWrongInstance, IsWrongAmong, IsUncovered, IsViolation, CoversNot, earlier_atoms}
use Rattle.apd_answers.specs.Findings.{IsByReplies, IsWrongByReplies, IsUncoveredByReplies, IsViolationByReplies, AreCandidates, SaysNoToFirst, IsHeadAmong, IsTrueBy, IsTrueWhere, IsClosed, IsFalseBuiltin, instance_for, Apart, same, said, through, AllDescendByReplies, Descends}
use Rattle.apd_term.proofs.Variants.{IsInstance_from_variants}
use Rattle.apd_answers.proofs.Truth.{valid-ground, holds-valid, valid-instance}
use Rattle.apd_answers.proofs.Trusted.{granted_so}
use Rattle.apd_answers.proofs.Decided.{says_yes-true, says_no-true, says_uncovered-true, says_below-true, says_not_below-true}

-- an instance of an atom is one of the same built-in goal, or of none
builtin-apply : (s : ℕ → Term) (a : Term) (g : Builtin) → builtin_of_atom a ≡ Some g → builtin_of_atom (apply s a) ≡ Some g
builtin-apply s (variable v) g e = absurd (cc)
builtin-apply s (integer i) g e = absurd (cc)
builtin-apply s (compound f ts) g e = ap (λ n. builtin_of (record { name = f; arity = n })) (length-apply_all s ts) ∙ e

-- an atom of a built-in goal that is always true is valid
builtin-valid : (m : Interpretation) (a : Term) (g : Builtin) → builtin_of_atom a ≡ Some g → IsAlwaysTrue a → IsValid m a
builtin-valid m a g e h = λ s c. subst (λ o. HoldsBy m.holds o (apply s a)) (sym (builtin-apply s a g e)) (h s c)

-- an atom that is true where what is known of the program's own ones makes them valid
true-valid : (m : Interpretation) (IsKnown : Term → Type 0) → ((a : Term) → IsKnown a → IsValid m a) → (a : Term) → IsTrueWhere IsKnown a → IsValid m a
true-valid m IsKnown h a g = by (builtin_of_atom a) refl g
  where
    by : (o : Option Builtin) → builtin_of_atom a ≡ o → IsTrueBy IsKnown o a → IsValid m a
    by None e k = h a k
    by (Some b) e k = builtin-valid m a b e k

true-all : (m : Interpretation) (IsKnown : Term → Type 0) → ((a : Term) → IsKnown a → IsValid m a) → (ts : List Term) → AllByRecursion (IsTrueWhere IsKnown) ts → AllByRecursion (IsValid m) ts
true-all m IsKnown h [] g = tt
true-all m IsKnown h (a ∷ ts) g = (true-valid m IsKnown h a g.0, true-all m IsKnown h ts g.1)

-- an atom that the store grants is valid
granted-valid : (P : List Tuple) (R : Recorded) (m : Interpretation) (store : Store) → AreTrue P m store → IsSound P R → (a : Term) → IsGranted R store a → IsValid m a
granted-valid P R m store t sound a (inl y) = says_yes-true m store a t.pairs y
granted-valid P R m store t sound a (inr g) = granted_so P R m store t sound a g.0 g.1

wrong-sound : (P : List Tuple) (R : Recorded) (m : Interpretation) (store : Store) (clause : ℕ) (t : Tuple) → AreTrue P m store → IsSound P R → IsWrongByReplies P R store clause t → IsWrongInstance P m clause t
wrong-sound P R m store clause t h sound w = record {
  of_clause = w.of_clause;
  body = true-all m (IsGranted R store) (granted-valid P R m store h sound) t.body w.body;
  head = says_no-true m store t.head h.pairs w.head;
}

-- Candidates. Where none of them is wrong, none of their heads is invalid, from the last one to the first.
module _ (P : List Tuple) (R : Recorded) (m : Interpretation) (store : Store) (true_of : AreTrue P m store) (sound : IsSound P R) where
  abbrev NoneInvalid : List Instance → Type 0
  NoneInvalid cs = AllByRecursion (λ (c : Instance). ¬ (¬ IsValid m c.tuple.head)) cs

  abbrev IsKnown : List Instance → Term → Type 0
  IsKnown later a = IsGranted R store a ⊎ IsHeadAmong later a

  head-valid : (cs : List Instance) (a : Term) → NoneInvalid cs → IsHeadAmong cs a → ¬ (¬ IsValid m a)
  head-valid [] a n h = absurd h
  head-valid (c ∷ cs) a n (inl e) = λ k. n.0 (λ v. k (valid-instance m a c.tuple.head (IsInstance_from_variants a c.tuple.head (sym e)) v))
  head-valid (c ∷ cs) a n (inr h) = head-valid cs a n.1 h

  known-valid : (cs : List Instance) → NoneInvalid cs → (a : Term) → IsKnown cs a → ¬ (¬ IsValid m a)
  known-valid cs n a (inl g) = λ k. k (granted-valid P R m store true_of sound a g)
  known-valid cs n a (inr h) = head-valid cs a n h

  atom-valid : (cs : List Instance) → NoneInvalid cs → (a : Term) → IsTrueWhere (IsKnown cs) a → ¬ (¬ IsValid m a)
  atom-valid cs n a g = by (builtin_of_atom a) refl g
    where
      by : (o : Option Builtin) → builtin_of_atom a ≡ o → IsTrueBy (IsKnown cs) o a → ¬ (¬ IsValid m a)
      by None e k = known-valid cs n a k
      by (Some b) e k = λ i. i (builtin-valid m a b e k)

  body-valid : (cs : List Instance) → NoneInvalid cs → (ts : List Term) → AllByRecursion (IsTrueWhere (IsKnown cs)) ts → ¬ (¬ AllByRecursion (IsValid m) ts)
  body-valid cs n [] g = λ k. k tt
  body-valid cs n (a ∷ ts) g = λ k. atom-valid cs n a g.0 (λ v. body-valid cs n ts g.1 (λ vs. k (v, vs)))

  none-invalid : (cs : List Instance) → AreCandidates P R store cs → AllByRecursion (λ (c : Instance). ¬ IsWrongInstance P m c.clause c.tuple) cs → NoneInvalid cs
  none-invalid [] h right = tt
  none-invalid (c ∷ cs) h right =
      let n = none-invalid cs h.1 right.1 in
      (λ invalid. body-valid cs n c.tuple.body h.0.body (λ valid. right.0 (record { of_clause = h.0.of_clause; body = valid; head = invalid })), n)

  wrong_among : (cs : List Instance) → AreCandidates P R store cs → SaysNoToFirst store cs → IsWrongAmong P m cs
  wrong_among [] h first = absurd first
  wrong_among (c ∷ cs) h first = λ right. (none-invalid (c ∷ cs) h right).0 (says_no-true m store c.tuple.head true_of.pairs first)

-- one atom that doesn't hold spoils a body
spoils : (m : Interpretation) (s : ℕ → Term) (P : Term → Type 0) → ((a : Term) → P a → ¬ Holds m (apply s a)) → (ts : List Term) → SomeTerm P ts → ¬ AllByRecursion (Holds m) (map (apply s) ts)
spoils m s P h [] o v = absurd o
spoils m s P h (a ∷ ts) (inl o) v = h a o v.0
spoils m s P h (a ∷ ts) (inr o) v = spoils m s P h ts o v.1

false-spoils : (m : Interpretation) (s : ℕ → Term) (a : Term) → IsFalseBuiltin a → ¬ Holds m (apply s a)
false-spoils m s a f = by (builtin_of_atom a) refl f.builtin
  where
    by : (o : Option Builtin) → builtin_of_atom a ≡ o → IsSome o → ¬ Holds m (apply s a)
    by None e b = absurd (cc)
    by (Some g) e b = λ h. f.untrue (subst (λ o. HoldsBy m.holds o a) e (subst (Holds m) (apply-ground s a f.has_no_variable) h))

-- an atom of a ground body
ground_some : (P : Term → Type 0) (ts : List Term) → AllByRecursion IsGround ts → SomeTerm P ts → SomeTerm (λ a. IsGround a × P a) ts
ground_some P [] g o = absurd o
ground_some P (a ∷ ts) g (inl o) = inl (g.0, o)
ground_some P (a ∷ ts) g (inr o) = inr (ground_some P ts g.1 o)

denied-spoils : (m : Interpretation) (store : Store) (s : ℕ → Term) (a : Term) → AreTruePairs m store.pairs → (IsGround a × ((builtin_of_atom a ≡ None) × SaysNo store a)) → ¬ Holds m (apply s a)
denied-spoils m store s a t d = λ h. says_no-true m store a t d.1.1 (valid-ground m a d.0 (subst (Holds m) (apply-ground s a d.0) h))

-- a body that is closed by the replies has no solution
closed-spoils : (m : Interpretation) (store : Store) (t : Tuple) (s : ℕ → Term) → AreTruePairs m store.pairs → IsClosed store t
    → AllByRecursion IsGround (map (apply s) t.body) → ¬ AllByRecursion (Holds m) (map (apply s) t.body)
closed-spoils m store t s h (inl o) g = spoils m s IsFalseBuiltin (false-spoils m s) t.body o
closed-spoils m store t s h (inr (inl o)) g =
    let i = IsTupleInstance-canonical t in
    let e : map (apply s) t.body ≡ map (apply (followed_by i.0 s)) (canonical_tuple t).body =
    ap (λ (u : Tuple). map (apply s) u.body) (sym i.1) ∙ apply_list-followed_by i.0 s (canonical_tuple t).body in
    λ v. says_uncovered-true m store t h o (followed_by i.0 s) (subst (AllByRecursion IsGround) e g) (subst (AllByRecursion (Holds m)) e v)
closed-spoils m store t s h (inr (inr o)) g =
    spoils m s (λ a. IsGround a × ((builtin_of_atom a ≡ None) × SaysNo store a)) (λ a d. denied-spoils m store s a h d) t.body
    (ground_some (λ a. (builtin_of_atom a ≡ None) × SaysNo store a) t.body o.has_no_variable o.denied)

no_element : (xs : List ℕ) → ((w : ℕ) → IsAmong xs w → ⊥) → xs ≡ []
no_element [] h = refl
no_element (x ∷ xs) h = absurd (h x (inl refl))

-- what stands for a variable of a term without variables has none
ground_part : (s : ℕ → Term) (v : ℕ) (t : Term) → IsGround (apply s t) → Occurs v t → IsGround (s v)
ground_part s v t g o =
    no_element (variables (s v)) (λ w a. subst (λ x. IsAmong x w) (sym (variables-apply s t) ∙ g) (IsAmong-piece (λ u. variables (s u)) (variables t) v w o a))

-- a substitution that makes a clause's head into a ground goal does to its body what matching first does
matched_first : (s : ℕ → Term) (head goal : Term) → IsGround goal → apply s head ≡ goal → (v : ℕ) → followed_by (matching head goal) s v ≡ s v
matched_first s head goal g e v = elim (opposite-same s v head) [
  | inl h ↦ ap (apply s) (matching-forced s head goal e v h.1) ∙ apply-ground s (s v) (ground_part s v head (subst IsGround (sym e) g) h.1)
  | inr n ↦ ap (apply s) (matching-stays goal head v n.1)
]

apply_list-same : (s r : ℕ → Term) → ((v : ℕ) → s v ≡ r v) → (ts : List Term) → map (apply s) ts ≡ map (apply r) ts
apply_list-same s r h [] = refl
apply_list-same s r h (t ∷ ts) = rw (apply-same s r h t, apply_list-same s r h ts) refl

clause-uncovered : (m : Interpretation) (store : Store) (goal : Term) (c : Tuple) → AreTruePairs m store.pairs → IsGround goal
    → (IsInstance goal c.head → IsClosed store (instance_for c goal)) → CoversNot m goal c
clause-uncovered m store goal c t g closed s e d =
    let f : map (apply s) (map (apply (matching c.head goal)) c.body) ≡ map (apply s) c.body =
    apply_list-followed_by (matching c.head goal) s c.body ∙ apply_list-same (followed_by (matching c.head goal) s) s (matched_first s c.head goal g e) c.body in
    λ v. closed-spoils m store (instance_for c goal) s t (closed (s, e)) (subst (AllByRecursion IsGround) (sym f) d) (subst (AllByRecursion (Holds m)) (sym f) v)

clauses-uncovered : (m : Interpretation) (store : Store) (goal : Term) → AreTruePairs m store.pairs → IsGround goal → (P : List Tuple)
    → AllByRecursion (λ (c : Tuple). IsInstance goal c.head → IsClosed store (instance_for c goal)) P → AllByRecursion (CoversNot m goal) P
clauses-uncovered m store goal t g [] h = tt
clauses-uncovered m store goal t g (c ∷ P) h = (clause-uncovered m store goal c t g h.0, clauses-uncovered m store goal t g P h.1)

uncovered-sound : (P : List Tuple) (m : Interpretation) (store : Store) (goal : Term) → AreTruePairs m store.pairs → IsUncoveredByReplies P store goal → IsUncovered P m goal
uncovered-sound P m store goal t u = record {
  of_program = u.of_program;
  has_no_variable = u.has_no_variable;
  holds = holds-valid m goal u.has_no_variable (says_yes-true m store goal t u.says);
  uncovered = clauses-uncovered m store goal t u.has_no_variable P u.closed;
}

-- what follows of calls that aren't below each other
apart-sound : (m : Interpretation) (store : Store) (q p : Term) → AreTruePairs m store.pairs → Apart store q p → ¬ m.below (canonical q) (canonical p)
apart-sound m store _ _ t (same q) = m.irreflexive (canonical q)
apart-sound m store _ _ t (said q p o) = says_not_below-true m store q p t o
apart-sound m store _ _ t (through q p r o a) = λ b. apart-sound m store q r t a (m.transitive (canonical q) (canonical p) (canonical r) b (says_below-true m store p r t o))

violation-sound : (r : Recorded) (m : Interpretation) (store : Store) (clause goal caller_no callee : ℕ) (caller_atom callee_atom : Term) → AreTruePairs m store.pairs
    → IsViolationByReplies r store clause goal caller_no callee caller_atom callee_atom → IsViolation r m clause goal caller_no callee caller_atom callee_atom
violation-sound r m store clause goal caller_no callee caller_atom callee_atom t v =
    let e : canonical callee_atom ≡ callee_atom = ap canonical (sym v.call.callees) ∙ canonical-canonical _ ∙ v.call.callees in
    let f : canonical caller_atom ≡ caller_atom = ap canonical (sym v.call.callers) ∙ canonical-canonical _ ∙ v.call.callers in
    record {
      call = v.call;
      earlier = true-all m (SaysYes store) (λ a y. says_yes-true m store a t y) (earlier_atoms r callee) v.earlier;
      rises = λ b. apart-sound m store callee_atom caller_atom t v.apart (subst (λ x. m.below x (canonical caller_atom)) (sym e) (subst (λ x. m.below callee_atom x) (sym f) b));
    }

-- a finding by replies that are true of an interpretation, as is the trust, is a bug in it
pub finding-sound : (P : List Tuple) (r : Recorded) (m : Interpretation) (store : Store) (finding : Finding) → AreTrue P m store → IsSound P r → IsByReplies P r store finding → IsBug P r m finding
finding-sound P r m store (WrongInstance clause t) h sound b = wrong-sound P r m store clause t h sound b
finding-sound P r m store (Uncovered goal) h sound b = uncovered-sound P m store goal h.pairs b
finding-sound P r m store (Violation clause goal caller_no callee caller_atom callee_atom) h sound b = violation-sound r m store clause goal caller_no callee caller_atom callee_atom h.pairs b
finding-sound P r m store (Candidates cs) h sound b = wrong_among P r m store h sound cs b.each b.first

-- and calls that all descend by the replies descend
pub descent-sound : (m : Interpretation) (store : Store) → AreTruePairs m store.pairs → (calls : List Term) → AllDescendByReplies store calls → Descends m (map canonical calls)
descent-sound m store t [] d = tt
descent-sound m store t (p ∷ []) d = tt
descent-sound m store t (p ∷ q ∷ calls) d = (says_below-true m store q p t d.0, descent-sound m store t (q ∷ calls) d.1)
