-- A clause is tried for a goal, and the goal after it is come to.
use Rattle.std.proofs.Common.{◌≡◌, ℕ, zero, suc, ◌+◌, ◌≤◌, if◌then◌else◌, Bool, true, false, List, [], ◌∷◌, take, length, Some, None, Ok, refl, sym, ◌∙◌, ap, subst, arith}
use Rattle.std.specs.Prelude.{slice_get}
use Rattle.std.specs.List.{list_all}
use Rattle.apd_term.specs.Term.{Term}
use Rattle.apd_term.specs.declared.tuple.Tuple.{Tuple}
use Rattle.apd_arith.specs.Truths.{is_ground}
use Rattle.apd_clauses.specs.declared.clause.Clause.{Clause}
use Rattle.apd_clauses.specs.Clauses.{tuples_of, clause_at}
use Rattle.apd_record.specs.Recorded.{Recorded}
use Rattle.apd_record.specs.Sound.{IsSound}
use Rattle.apd_record.specs.Full.{IsFull}
use Rattle.apd_answers.specs.declared.question.Reply.{Reply}
use Rattle.apd_answers.specs.declared.question.Reply.TheVariants.{Yes, No, Values, Unknown}
use Rattle.apd_answers.specs.declared.finding.Finding.TheVariants.{Uncovered}
use Rattle.apd_answers.specs.declared.oracle.AskEnd.{AskEnd}
use Rattle.apd_answers.specs.declared.oracle.AskEnd.TheVariants.{Memory}
use Rattle.apd_answers.specs.Findings.{instance_for, IsByReplies}
use Rattle.apd_answers.specs.Questions.{FitsAsked, with_values}
use Rattle.apd_answers.specs.Store.{Store, decided, with_pair}
use Rattle.apd_answers.specs.Dialogue.{asks, next_turn}
use Rattle.apd_answers.specs.Oracle.{Call, asking, telling}
use Rattle.apd_answers.specs.Going.{Moment, at, Goes, Reaches, Breaks}
use Rattle.apd_answers.specs.Going as ways
use Rattle.apd_answers.proofs.Fitted.{added_decided, decided-covers}
use Rattle.apd_answers.proofs.Going.{Goes-more, Goes-silent, Goes-asked, Reaches-here, Breaks-here, Breaks-more}
use Rattle.apd_answers.proofs.Pursued.{known-asks, known-decided, known-goes, known-ends}
use Rattle.apd_missing.specs.Missing.{Unanswered, Looked, is_open, first_open, followed, state_after, after_values, covers, missing}
use Rattle.apd_missing.specs.Known.{IsKnown}
use Rattle.apd_missing.specs.Solving.{IsReplied, IsUnreplied, ArePassed, IsLooking, IsTrying, IsOpened, IsCovering, Goes_on, Judges, Follows, Passes, IsLeft, Comes, Leaves}
use Rattle.apd_missing.proofs.Closed.{ended-uncovered}
use Rattle.apd_missing.proofs.Kept.{keeps_added, closed_by_covers, closed_passed, all_passed_kept, passed_more, first_open-at, first_open-none}
use Rattle.apd_missing.proofs.Rising.{missing_falls, known_kept, next_ground, next_said, next_decided, decided_canonical}
use Rattle.apd_missing.proofs.Judging.{by_replied, turn_none, turn_follow, turn_covers, stays_here, goes_onward, breaks_unreplied}

-- the clause that is tried, as one that is looked at
abbrev pub tried : ℕ → Tuple → Term → Looked
tried i c goal = record { clause = i + 1; instance = instance_for c goal }

tried_first : (P : List Tuple) (R : Recorded) (store : Store) (s : Unanswered) (i : ℕ) (c : Tuple) → IsTrying P R store s i c → is_open store s.goal c ≡ true → first_open store s.goal 1 P ≡ Some (tried i c s.goal)
tried_first P R store s i c t o =
    let m : 1 + i ≡ i + 1 = omega arith in
    first_open-at store s.goal 1 P i c t.passed t.there o ∙ ap (λ k. Some (record { clause = k; instance = instance_for c s.goal })) m

pub tried_opened : (P : List Tuple) (R : Recorded) (store : Store) (s : Unanswered) (i : ℕ) (c instance : Tuple) → IsTrying P R store s i c → is_open store s.goal c ≡ true → instance ≡ instance_for c s.goal
    → list_all is_ground instance.body ≡ true → IsOpened P R store s (tried i c s.goal) instance.body
tried_opened P R store s i c instance t o e g = record {
  looking = t.looking;
  is_first = tried_first P R store s i c t o;
  body_is = ap (λ (x : Tuple). x.body) (sym e);
  has_no_variable = g;
}

module _ (O : Type 0) (P : List Tuple) (R : Recorded) (step : O → Call → O → Type 0) where
  pub breaks_memory : (s : Unanswered) (store : Store) (oracle : O) (end : AskEnd) → end ≡ Memory → Breaks (missing P R) step (at store s oracle) store oracle end
  breaks_memory s store oracle end m = Breaks-here (missing P R) step (at store s oracle) store oracle end [] (ways.unasked m) refl

  -- a clause that isn't open is passed
  pub tries_passed : (s : Unanswered) (i : ℕ) (c : Tuple) (store : Store) (from : O) → IsTrying P R store s i c → is_open store s.goal c ≡ false → Passes P R step s c store from store from
  tries_passed s i c store from t o = record { goes_on = stays_here O P R step s store from t.looking.known; passed = o }

  -- a body without variables
  pub tries_false : (s : Unanswered) (i : ℕ) (c : Tuple) (store : Store) (from : O) (after : Store) (to : O) → Judges P R step s (tried i c s.goal) store from after to false → Passes P R step s c store from after to
  tries_false s i c store from after to j = record { goes_on = j.goes_on; passed = closed_passed after s.goal c j.judged }

  pub tries_true : (s : Unanswered) (i : ℕ) (c instance : Tuple) (store : Store) (from : O) (after : Store) (to : O) → IsTrying P R store s i c → instance ≡ instance_for c s.goal → list_all is_ground instance.body ≡ true
      → Judges P R step s (tried i c s.goal) store from after to true → Follows P R step s (i + 1) store from after to instance.body
  tries_true s i c instance store from after to t e g j =
      let l = tried i c s.goal in
      let ground : list_all is_ground l.instance.body ≡ true = ap (λ (x : Tuple). list_all is_ground x.body) (sym e) ∙ g in
      subst (λ (x : Tuple). Follows P R step s (i + 1) store from after to x.body) (sym e)
      (record {
        goes = Goes-more (missing P R) step (at store s from) (at after s to) (at after (state_after s (followed R s l.clause l.instance.body)) to) j.goes_on.goes
            (Goes-silent (missing P R) step after s (state_after s (followed R s l.clause l.instance.body)) to
            (known-goes (missing P R) (IsKnown R) (missing_falls P R t.looking.sound t.looking.full) after s (state_after s (followed R s l.clause l.instance.body)) j.goes_on.known (turn_follow P R after s l j.judged.0 ground j.judged.1)));
        next = next_ground P R t.looking.sound t.looking.full after s l j.goes_on.known j.judged.0 ground j.judged.1;
      })

  -- a body with variables, by the reply
  abbrev pub ByValues : Unanswered → ℕ → Tuple → Store → O → Store → O → Reply → Type 0
  ByValues s i c store from after to Yes = ⊥
  ByValues s i c store from after to Unknown = ⊥
  ByValues s i c store from after to No = Passes P R step s c store from after to
  ByValues s i c store from after to (Values vs) = Follows P R step s (i + 1) store from after to (with_values (instance_for c s.goal) vs)

  asks_covers : (s : Unanswered) (i : ℕ) (c instance : Tuple) (store : Store) → (k : IsCovering P R store s i c instance) → decided store (covers (instance_for c s.goal)).question ≡ None
      → next_turn (missing P R) store s ≡ asks (covers (instance_for c s.goal)) (after_values R s (tried i c s.goal))
  asks_covers s i c instance store k n =
      let l = tried i c s.goal in
      let variables_in : list_all is_ground l.instance.body ≡ false = ap (λ (x : Tuple). list_all is_ground x.body) (sym k.instance_is) ∙ k.has_variables in
      known-asks (missing P R) (IsKnown R) (missing_falls P R k.trying.looking.sound k.trying.looking.full) store s (covers l.instance) (after_values R s l) k.trying.looking.known
      (turn_covers P R store s l (tried_first P R store s i c k.trying k.opens) variables_in) n

  covers_stored : (s : Unanswered) (i : ℕ) (c instance : Tuple) (store : Store) (from : O) (r : Reply) → IsCovering P R store s i c instance → decided store (covers (instance_for c s.goal)).question ≡ Some r → ByValues s i c store from store from r
  covers_stored s i c instance store from Yes k d = let x = decided-covers store _ Yes k.trying.looking.known.fit d in absurd x.2
  covers_stored s i c instance store from Unknown k d = let x = decided-covers store _ Unknown k.trying.looking.known.fit d in absurd x.2
  covers_stored s i c instance store from No k d = record {
    goes_on = stays_here O P R step s store from k.trying.looking.known;
    passed = closed_passed store s.goal c (closed_by_covers store (instance_for c s.goal) (sym (decided_canonical store (instance_for c s.goal)) ∙ d));
  }
  covers_stored s i c instance store from (Values vs) k d =
      let l = tried i c s.goal in
      let first = tried_first P R store s i c k.trying k.opens in
      let variables_in : list_all is_ground l.instance.body ≡ false = ap (λ (x : Tuple). list_all is_ground x.body) (sym k.instance_is) ∙ k.has_variables in
      record {
        goes = Goes-silent (missing P R) step store s (after_values R s l (Values vs)) from
            (known-decided (missing P R) (IsKnown R) (missing_falls P R k.trying.looking.sound k.trying.looking.full) store s (covers l.instance) (after_values R s l) (Values vs) k.trying.looking.known (turn_covers P R store s l first variables_in) d);
        next = next_decided P R k.trying.looking.sound k.trying.looking.full store s l vs k.trying.looking.known first d;
      }

  covers_asked : (s : Unanswered) (i : ℕ) (c instance : Tuple) (store : Store) (from mid to : O) (r : Reply) → IsCovering P R store s i c instance → decided store (covers (instance_for c s.goal)).question ≡ None
      → FitsAsked (covers (instance_for c s.goal)) r → step from (asking (covers (instance_for c s.goal)) (Ok r)) mid → step mid (telling r None (Ok tt)) to
      → ByValues s i c store from (with_pair store (covers (instance_for c s.goal)).question r) to r
  covers_asked s i c instance store from mid to Yes k n f p q = absurd f.0
  covers_asked s i c instance store from mid to Unknown k n f p q = absurd f.0
  covers_asked s i c instance store from mid to No k n f p q =
      let l = tried i c s.goal in
      let after = with_pair store (covers l.instance).question No in
      record {
        goes_on = record {
          goes = Goes-asked (missing P R) step store s from mid to (covers l.instance) (after_values R s l) No (asks_covers s i c instance store k n) f p q;
          known = known_kept R store s (covers l.instance).question No k.trying.looking.known f.0;
          keeps = keeps_added store (covers l.instance).question No;
        };
        passed = closed_passed after s.goal c (closed_by_covers after l.instance (sym (decided_canonical after l.instance) ∙ added_decided store (covers l.instance).question No n f.0 tt));
      }
  covers_asked s i c instance store from mid to (Values vs) k n f p q =
      let l = tried i c s.goal in
      record {
        goes = Goes-asked (missing P R) step store s from mid to (covers l.instance) (after_values R s l) (Values vs) (asks_covers s i c instance store k n) f p q;
        next = next_said P R k.trying.looking.sound k.trying.looking.full store s l vs k.trying.looking.known (tried_first P R store s i c k.trying k.opens) f.0;
      }

  pub covers_settled : {after : Store} {to : O} {r : Reply} (s : Unanswered) (i : ℕ) (c instance : Tuple) (store : Store) (from : O) → IsCovering P R store s i c instance
      → IsReplied step (covers instance) store from after to r → ByValues s i c store from after to r
  covers_settled {after} {to} {r} s i c instance store from k x =
      by_replied (λ after to r. ByValues s i c store from after to r)
      (λ r d. covers_stored s i c instance store from r k d)
      (λ mid to r n f p q. covers_asked s i c instance store from mid to r k n f p q)
      (subst (λ (u : Tuple). IsReplied step (covers u) store from after to r) k.instance_is x)

  pub covers_breaks : {after : Store} {to : O} {end : AskEnd} (s : Unanswered) (i : ℕ) (c instance : Tuple) (store : Store) (from : O) → IsCovering P R store s i c instance
      → IsUnreplied step (covers instance) store from end after to → Breaks (missing P R) step (at store s from) after to end
  covers_breaks {after} {to} {end} s i c instance store from k x =
      breaks_unreplied O P R step s (after_values R s (tried i c s.goal)) (asks_covers s i c instance store k)
      (subst (λ (u : Tuple). IsUnreplied step (covers u) store from end after to) k.instance_is x)

  pub follows_memory : (s : Unanswered) (n : ℕ) (store : Store) (from : O) (after : Store) (to : O) (body : List Term) (end : AskEnd) → Follows P R step s n store from after to body → end ≡ Memory
      → Breaks (missing P R) step (at store s from) after to end
  follows_memory s n store from after to body end f m =
      let t = state_after s (followed R s n body) in
      Breaks-more (missing P R) step (at store s from) (at after t to) after to end f.goes (breaks_memory t after to end m)

  -- how many clauses were passed
  pub record IsPassing (s : Unanswered) (k : ℕ) (store : Store) (from : O) (after : Store) (to : O) : Type 0 where
    pub goes_on : Goes_on P R step s store from after to
    pub passed : ArePassed after s.goal (take k P)

  pub passing_none : (s : Unanswered) (store : Store) (from : O) → IsLooking P R store s → IsPassing s 0 store from store from
  passing_none s store from k = record { goes_on = stays_here O P R step s store from k.known; passed = tt }

  pub passing_tries : (s : Unanswered) (k : ℕ) (c : Tuple) (store : Store) (from : O) (after : Store) (to : O) → IsLooking P R store s → slice_get P k ≡ Some c → IsPassing s k store from after to → IsTrying P R after s k c
  passing_tries s k c store from after to l e p = record {
    looking = record { sound = l.sound; full = l.full; known = p.goes_on.known };
    there = e;
    passed = p.passed;
  }

  pub passing_more : (s : Unanswered) (k : ℕ) (c : Tuple) (store : Store) (from : O) (after later : Store) (to there : O) → slice_get P k ≡ Some c → IsPassing s k store from after to → Passes P R step s c after to later there → IsPassing s (k + 1) store from later there
  passing_more s k c store from after later to there e p x = record {
    goes_on = goes_onward O P R step s store after later from to there p.goes_on x.goes_on;
    passed = passed_more later s.goal P k c (all_passed_kept after later x.goes_on.keeps s.goal (take k P) p.passed) e x.passed;
  }

  pub passing_breaks : (s : Unanswered) (k : ℕ) (store : Store) (from : O) (after later : Store) (to there : O) (end : AskEnd) → IsPassing s k store from after to → Breaks (missing P R) step (at after s to) later there end
      → Breaks (missing P R) step (at store s from) later there end
  passing_breaks s k store from after later to there end p b = Breaks-more (missing P R) step (at store s from) (at after s to) later there end p.goes_on.goes b

  pub passing_follows : (s : Unanswered) (k n : ℕ) (store : Store) (from : O) (after later : Store) (to there : O) (body : List Term) → IsPassing s k store from after to → Follows P R step s n after to later there body
      → Leaves P R step s store from later there (followed R s n body)
  passing_follows s k n store from after later to there body p f =
      let h = f.next in
      let same : state_after s (followed R s n body) ≡ h.goal = ap (state_after s) h.is in
      subst (Leaves P R step s store from later there) (sym h.is)
      (record {
        goes = Goes-more (missing P R) step (at store s from) (at after s to) (at later h.goal there) p.goes_on.goes (subst (λ t. Goes (missing P R) step (at after s to) (at later t there)) same f.goes);
        known = h.known;
        later = h.later;
      })

  pub passing_end : (s : Unanswered) (k : ℕ) (store : Store) (from : O) (after : Store) (to : O) → take k P ≡ P → IsPassing s k store from after to → IsLeft P R step s store from after to
  passing_end s k store from after to all p = record { goes_on = p.goes_on; none = first_open-none after s.goal 1 P (subst (ArePassed after s.goal) all p.passed) }

  -- how far the goals were followed
  pub record IsFollowing (p : Moment Unanswered O) (store : Store) (s : Unanswered) (oracle : O) : Type 0 where
    pub goes : Goes (missing P R) step p (at store s oracle)
    pub known : IsKnown R store s

  pub following_more : (p : Moment Unanswered O) (store after : Store) (s t : Unanswered) (from to : O) → IsFollowing p store s from → Comes P R step s store from after to t → IsFollowing p after t to
  following_more p store after s t from to f x = record { goes = Goes-more (missing P R) step p (at store s from) (at after t to) f.goes x.goes; known = x.known }

  pub following_breaks : (p : Moment Unanswered O) (store after : Store) (s : Unanswered) (from to : O) (end : AskEnd) → IsFollowing p store s from → Breaks (missing P R) step (at store s from) after to end → Breaks (missing P R) step p after to end
  following_breaks p store after s from to end f b = Breaks-more (missing P R) step p (at store s from) after to end f.goes b

  pub following_end : (p : Moment Unanswered O) (store after : Store) (s : Unanswered) (from to : O) → IsSound P R → IsFull P R → IsFollowing p store s from → IsLeft P R step s store from after to
      → Reaches (missing P R) step p after to (Uncovered s.goal) × IsByReplies P R after (Uncovered s.goal)
  following_end p store after s from to sound full f x =
      let known = x.goes_on.known in (
        Reaches-here (missing P R) step p after s to (Uncovered s.goal) (Goes-more (missing P R) step p (at store s from) (at after s to) f.goes x.goes_on.goes)
            (known-ends (missing P R) (IsKnown R) (missing_falls P R sound full) after s (Uncovered s.goal) known (turn_none P R after s x.none)),
        ended-uncovered P R after s (Uncovered s.goal) known.missing.of_program known.missing.has_no_variable known.says (turn_none P R after s x.none),
      )

-- the clause of a program at a place
pub clause_there : (cs : List Clause) (i : ℕ) (c : Clause) → clause_at cs (i + 1) ≡ Some c → slice_get (tuples_of cs) i ≡ Some c.tuple
clause_there cs i c e = there cs i (subst (λ k. clause_at cs k ≡ Some c) (let m : i + 1 ≡ suc i = omega arith in m) e)
  where
    there : (ds : List Clause) (k : ℕ) → slice_get ds k ≡ Some c → slice_get (tuples_of ds) k ≡ Some c.tuple
    there [] k h = absurd (cc)
    there (d ∷ ds) zero h = let same : d ≡ c = cc in ap (λ (x : Clause). Some x.tuple) same
    there (d ∷ ds) (suc k) h = there ds k h

pub take_program : (cs : List Clause) (k : ℕ) → length cs ≤ k → take k (tuples_of cs) ≡ tuples_of cs
take_program [] zero l = refl
take_program [] (suc k) l = refl
take_program (c ∷ cs) zero l = absurd (omega (arith, l))
take_program (c ∷ cs) (suc k) l = ap (λ xs. c.tuple ∷ xs) (take_program cs k (omega (arith, l)))

-- whether a clause is open, by the instance that was found
pub opened_none : (store : Store) (goal atom : Term) (c : Tuple) → goal ≡ atom → (if is_open store atom c then Some (instance_for c atom) else None) ≡ None → is_open store goal c ≡ false
opened_none store goal atom c e h = ap (λ x. is_open store x c) e ∙ by (is_open store atom c) h
  where
    by : (b : Bool) → (if b then Some (instance_for c atom) else None) ≡ None → b ≡ false
    by true h = absurd (cc)
    by false h = refl

pub opened_some : (store : Store) (goal atom : Term) (c u : Tuple) → goal ≡ atom → (if is_open store atom c then Some (instance_for c atom) else None) ≡ Some u → (is_open store goal c ≡ true) × (u ≡ instance_for c goal)
opened_some store goal atom c u e h =
    let x = by (is_open store atom c) h in
    (ap (λ z. is_open store z c) e ∙ x.0, x.1 ∙ ap (instance_for c) (sym e))
  where
    by : (b : Bool) → (if b then Some (instance_for c atom) else None) ≡ Some u → (b ≡ true) × (u ≡ instance_for c atom)
    by true h = (refl, cc)
    by false h = absurd (cc)
