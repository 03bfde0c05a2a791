-- The boxes that are looked at rise, and what comes next is a question that isn't decided or what was found by the replies.
use Rattle.std.proofs.Common.{◌≡◌, ℕ, zero, suc, ◌-◌, ◌<◌, ◌&&◌, ◌||◌, inl, inr, true, false, List, [], ◌∷◌, length, Option, Some, None, refl, sym, ◌∙◌, ap, subst, arith}
use Rattle.std.proofs.lemmas.Bool.{and_parts, or_parts}
use Rattle.std.specs.Bool.{then_some}
use Rattle.std.specs.Option.{option_or}
use Rattle.std.specs.List.{list_all, list_any}
use Rattle.apd_term.specs.Term.{Term}
use Rattle.apd_term.specs.Substitution.{IsInstance}
use Rattle.apd_term.specs.Tuple.{canonical_tuple}
use Rattle.apd_term.specs.declared.tuple.Tuple.{Tuple}
use Rattle.apd_term.proofs.Tuples.{IsTupleInstance-canonical, canonical_is_instance, AreTupleVariants_from_instances}
use Rattle.apd_arith.specs.Truths.{is_ground}
use Rattle.apd_record.specs.Recorded.{Recorded, is_user_atom}
use Rattle.apd_record.specs.Sound.{IsSound}
use Rattle.apd_record.specs.Full.{IsFull}
use Rattle.apd_answers.specs.declared.question.Question.{Question}
use Rattle.apd_answers.specs.declared.question.Question.TheVariants as asking
use Rattle.apd_answers.specs.declared.question.Reply.{Reply}
use Rattle.apd_answers.specs.declared.question.Reply.TheVariants.{Yes, No, Values, Unknown}
use Rattle.apd_answers.specs.declared.question.Asked.{Asked}
use Rattle.apd_answers.specs.declared.finding.Finding.{Finding}
use Rattle.apd_answers.specs.declared.finding.Finding.TheVariants.{Uncovered}
use Rattle.apd_answers.specs.Dialogue.{Turn, asks, goes, ends, next_turn}
use Rattle.apd_answers.specs.Falling.{FallsWhere}
use Rattle.apd_answers.specs.Fitting.{AllFit}
use Rattle.apd_answers.specs.Questions.{Fits, FitsAsked, FitsBody, body_with, with_values, canonical_question}
use Rattle.apd_answers.specs.declared.store.Pair.{Pair}
use Rattle.apd_answers.specs.Store.{Store, decided_in, SomePairIn, same_question, decided, with_pair, SaysYes, SomePair, SomeTerm, TellsYes}
use Rattle.apd_answers.proofs.Decided.{some_pair-added, some_pair-kept}
use Rattle.apd_answers.proofs.Fitted.{fit_added, decided-covers}
use Rattle.apd_answers.proofs.Pursued.{known-decided, known-asks, known-goes, known-ends}
use Rattle.apd_record.proofs.Keeping.{box_below}
use Rattle.apd_missing.specs.Missing.{Unanswered, Looked, is_false_builtin, is_no, is_denied, is_closed, first_open, is_undecided, first_undecided, followed, state_after, after_values, alone, covers, turn_of_ground, turn_of, missing}
use Rattle.apd_missing.specs.Known.{IsMissing, IsKnown, HasNext}
use Rattle.apd_missing.specs.Next.{ComesNext}
use Rattle.apd_missing.proofs.Closed.{ended-uncovered}
use Rattle.apd_missing.proofs.Given.{looked, looked_clause, given_ground, given_values}
use Rattle.apd_missing.proofs.Tests.{by_test}
use Rattle.apd_missing.proofs.Walk.{next_followed}

-- the cases of a turn
pub by_turn : (R : Recorded) (store : Store) (s : Unanswered) (C : Turn Unanswered Finding → Type 0) (o : Option Looked)
    → (o ≡ None → C (ends (Uncovered s.goal)))
    → ((l : Looked) → o ≡ Some l → list_all is_ground l.instance.body ≡ true → (a : Term) → first_undecided store l.instance.body ≡ Some a → C (asks (alone (asking.True a)) (λ reply. s)))
    → ((l : Looked) → o ≡ Some l → list_all is_ground l.instance.body ≡ true → first_undecided store l.instance.body ≡ None → C (goes (state_after s (followed R s l.clause l.instance.body))))
    → ((l : Looked) → o ≡ Some l → list_all is_ground l.instance.body ≡ false → C (asks (covers l.instance) (after_values R s l)))
    → C (turn_of R store s o)
by_turn R store s C None ended atom follow body = ended refl
by_turn R store s C (Some l) ended atom follow body =
    by_test (list_all is_ground l.instance.body)
    (λ t. rw t (by t (first_undecided store l.instance.body) refl))
    (λ t. rw t (body l refl t))
  where
    by : list_all is_ground l.instance.body ≡ true → (u : Option Term) → first_undecided store l.instance.body ≡ u → C (turn_of_ground R s l u)
    by t None e = follow l refl t e
    by t (Some a) e = atom l refl t a e

-- an atom that isn't decided
undecided-is : (store : Store) (body : List Term) (a : Term) → first_undecided store body ≡ Some a → is_undecided (decided store (asking.True a)) ≡ true
undecided-is store [] a e = absurd (cc)
undecided-is store (b ∷ body) a e =
    by_test (is_user_atom b && is_undecided (decided store (asking.True b)))
    (λ t. let k : Some b ≡ Some a = rw t at e in let same : b ≡ a = cc in subst (λ x. is_undecided (decided store (asking.True x)) ≡ true) same (and_parts (is_user_atom b) (is_undecided (decided store (asking.True b))) t).1)
    (λ t. undecided-is store body a (rw t at e))

pub lower_bound : (R : Recorded) (s t : Unanswered) (m : IsMissing R t.box_no t.goal) → s.box_no < t.box_no → length R.boxes - t.box_no < length R.boxes - s.box_no
lower_bound R s t m l = let h = box_below R t.box_no m.row m.there in omega (arith, l, h)

-- the state after
pub after_next : (R : Recorded) (store : Store) (s : Unanswered) (next : Option Unanswered) → HasNext R store s next → IsKnown R store (state_after s next) × (length R.boxes - (state_after s next).box_no < length R.boxes - s.box_no)
after_next R store s next h =
    subst (λ (o : Option Unanswered). IsKnown R store (state_after s o) × (length R.boxes - (state_after s o).box_no < length R.boxes - s.box_no)) (sym h.is)
    (h.known, lower_bound R s h.goal h.known.missing h.later)

-- values that were said
covers_form : (a : Term) (t : Tuple) (values : List Term) (x : Question) → canonical_question x ≡ canonical_question (asking.Covers t) → SomeTerm (IsInstance a) (with_values t values) → TellsYes a x (Values values)
covers_form a t values (asking.True b) e h = absurd (cc)
covers_form a t values (asking.Below y z) e h = absurd (cc)
covers_form a t values (asking.Covers u) e h = let same : canonical_tuple t ≡ canonical_tuple u = cc in subst (λ c. SomeTerm (IsInstance a) (body_with c values)) same h

pub says_added : (store : Store) (t : Tuple) (values : List Term) (a : Term) → SomeTerm (IsInstance a) (with_values t values) → SaysYes (with_pair store (asking.Covers t) (Values values)) a
says_added store t values a h = some_pair-added (TellsYes a) store (asking.Covers t) (Values values) (λ x e. covers_form a t values x e h)

some_map_in : (P Q : Question → Reply → Type 0) → ((q : Question) (r : Reply) → P q r → Q q r) → (pairs : List Pair) → SomePairIn P pairs → SomePairIn Q pairs
some_map_in P Q f [] o = absurd o
some_map_in P Q f (p ∷ pairs) (inl o) = inl (f p.question p.reply o)
some_map_in P Q f (p ∷ pairs) (inr o) = inr (some_map_in P Q f pairs o)

some_map : (P Q : Question → Reply → Type 0) → ((q : Question) (r : Reply) → P q r → Q q r) → (store : Store) → SomePair P store → SomePair Q store
some_map P Q f store o = some_map_in P Q f store.pairs o

says_decided : (store : Store) (u : Tuple) (values : List Term) (a : Term) → SomePair (λ q y. (q ≡ asking.Covers u) × (y ≡ Values values)) store → SomeTerm (IsInstance a) (with_values u values) → SaysYes store a
says_decided store u values a o h =
    some_map (λ q y. (q ≡ asking.Covers u) × (y ≡ Values values)) (TellsYes a)
    (λ q y w. subst (λ z. TellsYes a z y) (sym w.0) (subst (TellsYes a (asking.Covers u)) (sym w.1) h)) store o

-- a canonical form is its own, and the store decides as much of it
pub canonical_again : (t : Tuple) → canonical_tuple (canonical_tuple t) ≡ canonical_tuple t
canonical_again t = AreTupleVariants_from_instances (canonical_tuple t) t (IsTupleInstance-canonical t) (canonical_is_instance t)

decided_canonical_in : (pairs : List Pair) (t : Tuple) → decided_in pairs (covers t).question ≡ decided_in pairs (asking.Covers t)
decided_canonical_in [] t = refl
decided_canonical_in (p ∷ pairs) t =
    ap (λ c. option_or (then_some (same_question (canonical_question p.question) (asking.Covers c)) p.reply) (decided_in pairs (covers t).question)) (canonical_again t)
    ∙ ap (λ o. option_or (then_some (same_question (canonical_question p.question) (asking.Covers (canonical_tuple t))) p.reply) o) (decided_canonical_in pairs t)

pub decided_canonical : (store : Store) (t : Tuple) → decided store (covers t).question ≡ decided store (asking.Covers t)
decided_canonical store t = decided_canonical_in store.pairs t

-- with one more pair as much is known
pub known_kept : (R : Recorded) (store : Store) (s : Unanswered) (q : Question) (r : Reply) → IsKnown R store s → Fits q r → IsKnown R (with_pair store q r) s
known_kept R store s q r k f = record {
  missing = k.missing;
  says = some_pair-kept (TellsYes s.goal) store q r k.says;
  fit = fit_added store q r k.fit f;
}

module _ (P : List Tuple) (R : Recorded) (sound : IsSound P R) (full : IsFull P R) where
  -- the goal after a body that the replies make true
  pub next_ground : (store : Store) (s : Unanswered) (l : Looked) → IsKnown R store s → first_open store s.goal 1 P ≡ Some l → list_all is_ground l.instance.body ≡ true → first_undecided store l.instance.body ≡ None
      → HasNext R store s (followed R s l.clause l.instance.body)
  next_ground store s l known o t u =
      let k = looked store s.goal 1 P l o in
      let g = given_ground store k.rule s.goal known.missing.has_no_variable k.matches k.is_open
      (subst (λ (x : Tuple). list_all is_ground x.body ≡ true) k.is t) (subst (λ (x : Tuple). first_undecided store x.body ≡ None) k.is u) in
      subst (λ (x : Tuple). HasNext R store s (followed R s l.clause x.body)) (sym k.is)
      (next_followed P R sound full s store l.clause k.rule (record { head = s.goal; body = _ }) known.missing known.fit (looked_clause store s.goal P l k) refl g.instance g.has_no_variable g.granted)

  pub next_values : (store after : Store) (s : Unanswered) (l : Looked) (u : Tuple) (values : List Term) → IsMissing R s.box_no s.goal → first_open store s.goal 1 P ≡ Some l → AllFit after
      → canonical_tuple u ≡ canonical_tuple l.instance → FitsBody u values → ((a : Term) → SomeTerm (IsInstance a) (with_values u values) → SaysYes after a)
      → HasNext R after s (followed R s l.clause (with_values l.instance values))
  next_values store after s l u values m o fit e f says =
      let k = looked store s.goal 1 P l o in
      let g = given_values after k.rule s.goal u values m.has_no_variable k.matches (e ∙ ap canonical_tuple k.is) f says in
      subst (λ (x : Tuple). HasNext R after s (followed R s l.clause (with_values x values))) (sym k.is)
      (next_followed P R sound full s after l.clause k.rule (record { head = s.goal; body = _ }) m fit (looked_clause store s.goal P l k) refl g.instance g.has_no_variable g.granted)

  pub next_said : (store : Store) (s : Unanswered) (l : Looked) (values : List Term) → IsKnown R store s → first_open store s.goal 1 P ≡ Some l → FitsBody (canonical_tuple l.instance) values
      → HasNext R (with_pair store (covers l.instance).question (Values values)) s (followed R s l.clause (with_values l.instance values))
  next_said store s l values known o f =
      next_values store (with_pair store (covers l.instance).question (Values values)) s l (canonical_tuple l.instance) values known.missing o (fit_added store (covers l.instance).question (Values values) known.fit f)
      (canonical_again l.instance) f (says_added store (canonical_tuple l.instance) values)

  pub next_decided : (store : Store) (s : Unanswered) (l : Looked) (values : List Term) → IsKnown R store s → first_open store s.goal 1 P ≡ Some l → decided store (covers l.instance).question ≡ Some (Values values)
      → HasNext R store s (followed R s l.clause (with_values l.instance values))
  next_decided store s l values known o d =
      let c = decided-covers store (canonical_tuple l.instance) (Values values) known.fit d in
      next_values store store s l c.0 values known.missing o known.fit (c.1 ∙ canonical_again l.instance) c.2 (λ a. says_decided store c.0 values a c.3)

  -- a reply that the store has to whether the body of an open clause has a solution
  pub covers_decided : (store : Store) (s : Unanswered) (l : Looked) (r : Reply) → IsKnown R store s → first_open store s.goal 1 P ≡ Some l → decided store (covers l.instance).question ≡ Some r
      → IsKnown R store (after_values R s l r) × (length R.boxes - (after_values R s l r).box_no < length R.boxes - s.box_no)
  covers_decided store s l No known o d =
      let k = looked store s.goal 1 P l o in
      let p = or_parts (list_any is_false_builtin l.instance.body) (is_no (decided store (asking.Covers l.instance)) || is_denied store l.instance.body) (ap (is_closed store) k.is ∙ k.is_open) in
      let q = or_parts (is_no (decided store (asking.Covers l.instance))) (is_denied store l.instance.body) p.1 in
      let bad : true ≡ false = ap is_no (sym d ∙ decided_canonical store l.instance) ∙ q.0 in
      absurd (cc)
  covers_decided store s l Yes known o d = let c = decided-covers store (canonical_tuple l.instance) Yes known.fit d in absurd c.2
  covers_decided store s l Unknown known o d = let c = decided-covers store (canonical_tuple l.instance) Unknown known.fit d in absurd c.2
  covers_decided store s l (Values values) known o d =
      after_next R store s (followed R s l.clause (with_values l.instance values)) (next_decided store s l values known o d)

  pub covers_replied : (store : Store) (s : Unanswered) (l : Looked) (r : Reply) → IsKnown R store s → first_open store s.goal 1 P ≡ Some l → Fits (covers l.instance).question r
      → IsKnown R (with_pair store (covers l.instance).question r) (after_values R s l r)
  covers_replied store s l No known o f = known_kept R store s (covers l.instance).question No known f
  covers_replied store s l Yes known o f = absurd f
  covers_replied store s l Unknown known o f = absurd f
  covers_replied store s l (Values values) known o f =
      (after_next R (with_pair store (covers l.instance).question (Values values)) s (followed R s l.clause (with_values l.instance values)) (next_said store s l values known o f)).0

  pub missing_falls : FallsWhere (missing P R) (IsKnown R)
  missing_falls = record {
    by_reply = λ store s asked next r known e d.
        by_turn R store s (λ turn. turn ≡ asks asked next → IsKnown R store (next r) × (length R.boxes - (next r).box_no < length R.boxes - s.box_no)) (first_open store s.goal 1 P)
        (λ o f. absurd (cc))
        (λ l o t a u f.
        let same : alone (asking.True a) ≡ asked = cc in
        let bad : true ≡ false = sym (undecided-is store l.instance.body a u) ∙ ap is_undecided (ap (λ (x : Asked). decided store x.question) same ∙ d) in
        absurd (cc))
        (λ l o t u f. absurd (cc))
        (λ l o t f.
        let same : covers l.instance ≡ asked = cc in
        let on : after_values R s l ≡ next = cc in
        subst (λ (x : Reply → Unanswered). IsKnown R store (x r) × (length R.boxes - (x r).box_no < length R.boxes - s.box_no)) on
        (covers_decided store s l r known o (ap (λ (x : Asked). decided store x.question) same ∙ d)))
        e;
    by_going = λ store s t known e.
        by_turn R store s (λ turn. turn ≡ goes t → IsKnown R store t × (length R.boxes - t.box_no < length R.boxes - s.box_no)) (first_open store s.goal 1 P)
        (λ o f. absurd (cc))
        (λ l o g a u f. absurd (cc))
        (λ l o g u f.
        let same : state_after s (followed R s l.clause l.instance.body) ≡ t = cc in
        subst (λ (x : Unanswered). IsKnown R store x × (length R.boxes - x.box_no < length R.boxes - s.box_no)) same
        (after_next R store s (followed R s l.clause l.instance.body) (next_ground store s l known o g u)))
        (λ l o g f. absurd (cc))
        e;
    by_asking = λ store s asked next r known e d fits.
        by_turn R store s (λ turn. turn ≡ asks asked next → IsKnown R (with_pair store asked.question r) (next r)) (first_open store s.goal 1 P)
        (λ o f. absurd (cc))
        (λ l o t a u f.
        let on : (let g : Reply → Unanswered = λ reply. s in g) ≡ next = cc in
        subst (λ (x : Reply → Unanswered). IsKnown R (with_pair store asked.question r) (x r)) on (known_kept R store s asked.question r known fits.0))
        (λ l o t u f. absurd (cc))
        (λ l o t f.
        let same : covers l.instance ≡ asked = cc in
        let on : after_values R s l ≡ next = cc in
        subst (λ (x : Reply → Unanswered). IsKnown R (with_pair store asked.question r) (x r)) on
        (subst (λ (x : Asked). IsKnown R (with_pair store x.question r) (after_values R s l r)) same
        (covers_replied store s l r known o (subst (λ (x : Asked). FitsAsked x r) (sym same) fits).0)))
        e;
  }

  -- questions count no suspects
  asked_alone : (store : Store) (s : Unanswered) (asked : Asked) (next : Reply → Unanswered) → (missing P R).turn store s ≡ asks asked next → asked.suspects ≡ None
  asked_alone store s asked next e =
      by_turn R store s (λ turn. turn ≡ asks asked next → asked.suspects ≡ None) (first_open store s.goal 1 P)
      (λ o f. absurd (cc))
      (λ l o t a u f. let same : alone (asking.True a) ≡ asked = cc in sym (ap (λ (x : Asked). x.suspects) same))
      (λ l o t u f. absurd (cc))
      (λ l o t f. let same : covers l.instance ≡ asked = cc in sym (ap (λ (x : Asked). x.suspects) same))
      e

  comes_within : (store : Store) (k : ℕ) (s : Unanswered) → length R.boxes - s.box_no < k → IsKnown R store s → ComesNext P R store (next_turn (missing P R) store s)
  comes_within store zero s l known = absurd (omega (arith, l))
  comes_within store (suc k) s l known = by ((missing P R).turn store s) refl (λ t m. comes_within store k t (omega (arith, l, m)))
    where
      by_decided : (asked : Asked) (next : Reply → Unanswered) → (missing P R).turn store s ≡ asks asked next → (o : Option Reply) → decided store asked.question ≡ o
          → ((t : Unanswered) → length R.boxes - t.box_no < length R.boxes - s.box_no → IsKnown R store t → ComesNext P R store (next_turn (missing P R) store t)) → ComesNext P R store (next_turn (missing P R) store s)
      by_decided asked next e None d onward =
          subst (ComesNext P R store) (sym (known-asks (missing P R) (IsKnown R) missing_falls store s asked next known e d))
          (record { alone = asked_alone store s asked next e; undecided = d; known = λ r fits. missing_falls.by_asking store s asked next r known e d fits })
      by_decided asked next e (Some r) d onward =
          let h = missing_falls.by_reply store s asked next r known e d in
          subst (ComesNext P R store) (sym (known-decided (missing P R) (IsKnown R) missing_falls store s asked next r known e d)) (onward (next r) h.1 h.0)

      by : (turn : Turn Unanswered Finding) → (missing P R).turn store s ≡ turn
          → ((t : Unanswered) → length R.boxes - t.box_no < length R.boxes - s.box_no → IsKnown R store t → ComesNext P R store (next_turn (missing P R) store t)) → ComesNext P R store (next_turn (missing P R) store s)
      by (asks asked next) e onward = by_decided asked next e (decided store asked.question) refl onward
      by (goes t) e onward =
          let h = missing_falls.by_going store s t known e in
          subst (ComesNext P R store) (sym (known-goes (missing P R) (IsKnown R) missing_falls store s t known e)) (onward t h.1 h.0)
      by (ends f) e onward =
          subst (ComesNext P R store) (sym (known-ends (missing P R) (IsKnown R) missing_falls store s f known e))
          (ended-uncovered P R store s f known.missing.of_program known.missing.has_no_variable known.says e)

  pub comes_next : (store : Store) (s : Unanswered) → IsKnown R store s → ComesNext P R store (next_turn (missing P R) store s)
  comes_next store s known = comes_within store (suc (length R.boxes - s.box_no)) s (omega arith) known
