-- The dialogue about a goal: its questions are settled one after another.
use Rattle.std.proofs.Common.{◌≡◌, inl, inr, ℕ, zero, suc, ◌+◌, ◌<◌, ◌≤◌, ◌&&◌, true, false, List, [], ◌∷◌, take, length, get_or, Option, Some, None, Ok, Err, refl, sym, ◌∙◌, ap, subst, arith}
use Rattle.std.specs.Prelude.{IsNone, IsSome}
use Rattle.std.specs.List.{list_all}
use Rattle.apd_term.specs.Term.{Term}
use Rattle.apd_term.specs.declared.tuple.Tuple.{Tuple}
use Rattle.apd_arith.specs.declared.goal.Builtin.{Builtin}
use Rattle.apd_arith.specs.Builtins.{builtin_of_atom}
use Rattle.apd_arith.specs.Truths.{is_ground}
use Rattle.apd_record.specs.Recorded.{Recorded, is_none, is_user_atom}
use Rattle.apd_answers.specs.declared.question.Question.TheVariants as asking_of
use Rattle.apd_answers.specs.declared.question.Reply.{Reply}
use Rattle.apd_answers.specs.declared.question.Reply.TheVariants.{Yes, No, Values, Unknown}
use Rattle.apd_answers.specs.declared.question.Asked.{Asked}
use Rattle.apd_answers.specs.declared.finding.Finding.TheVariants.{Uncovered}
use Rattle.apd_answers.specs.declared.oracle.AskEnd.{AskEnd}
use Rattle.apd_answers.specs.declared.oracle.AskEnd.TheVariants.{Memory}
use Rattle.apd_answers.specs.Questions.{FitsAsked, is_yes}
use Rattle.apd_answers.specs.Store.{Store, decided, with_pair}
use Rattle.apd_answers.specs.Dialogue.{asks, goes, ends, next_turn}
use Rattle.apd_answers.specs.Oracle.{Call, asking, telling}
use Rattle.apd_answers.specs.Going.{at, Breaks}
use Rattle.apd_answers.specs.Going as ways
use Rattle.apd_answers.proofs.Decided.{decided-truth}
use Rattle.apd_answers.proofs.Fitted.{added_decided, decides-uncounted}
use Rattle.apd_answers.proofs.Going.{Goes-none, Goes-more, Goes-asked, Breaks-here, Breaks-more}
use Rattle.apd_answers.proofs.Pursued.{known-asks}
use Rattle.apd_missing.specs.Missing.{Unanswered, Looked, first_open, is_undecided, first_undecided, followed, state_after, after_values, alone, covers, turn_of_ground, turn_of, missing}
use Rattle.apd_missing.specs.Known.{IsKnown}
use Rattle.apd_missing.specs.Solving.{IsReplied, by_store, by_oracle, IsUnreplied, unasked, unanswered, unkept, untold, IsLooking, IsOpened, Goes_on, Judges}
use Rattle.apd_missing.proofs.Kept.{keeps_added, closed_by_no, open_by_yes, AreDecided, decided_all_kept, decided_next, first_undecided-at, first_undecided-none}
use Rattle.apd_missing.proofs.Rising.{missing_falls, known_kept}

pub by_replied : {O : Type 0} {step : O → Call → O → Type 0} {asked : Asked} {store : Store} {from : O} {after : Store} {to : O} {r : Reply} (C : Store → O → Reply → Type 0)
    → ((r : Reply) → decided store asked.question ≡ Some r → C store from r)
    → ((mid to : O) (r : Reply) → decided store asked.question ≡ None → FitsAsked asked r → step from (asking asked (Ok r)) mid → step mid (telling r None (Ok tt)) to → C (with_pair store asked.question r) to r)
    → IsReplied step asked store from after to r → C after to r
by_replied C f g (by_store r d) = f r d
by_replied C f g (by_oracle mid to r n h p q) = g mid to r n h p q

-- turns
pub turn_none : (P : List Tuple) (R : Recorded) (store : Store) (s : Unanswered) → first_open store s.goal 1 P ≡ None → (missing P R).turn store s ≡ ends (Uncovered s.goal)
turn_none P R store s o = ap (turn_of R store s) o

pub turn_atom : (P : List Tuple) (R : Recorded) (store : Store) (s : Unanswered) (l : Looked) (a : Term) → first_open store s.goal 1 P ≡ Some l → list_all is_ground l.instance.body ≡ true → first_undecided store l.instance.body ≡ Some a
    → (missing P R).turn store s ≡ asks (alone (asking_of.True a)) (λ r. s)
turn_atom P R store s l a o t u =
    let here : turn_of R store s (Some l) ≡ turn_of_ground R s l (first_undecided store l.instance.body) = rw t refl in
    ap (turn_of R store s) o ∙ here ∙ ap (turn_of_ground R s l) u

pub turn_follow : (P : List Tuple) (R : Recorded) (store : Store) (s : Unanswered) (l : Looked) → first_open store s.goal 1 P ≡ Some l → list_all is_ground l.instance.body ≡ true → first_undecided store l.instance.body ≡ None
    → (missing P R).turn store s ≡ goes (state_after s (followed R s l.clause l.instance.body))
turn_follow P R store s l o t u =
    let here : turn_of R store s (Some l) ≡ turn_of_ground R s l (first_undecided store l.instance.body) = rw t refl in
    ap (turn_of R store s) o ∙ here ∙ ap (turn_of_ground R s l) u

pub turn_covers : (P : List Tuple) (R : Recorded) (store : Store) (s : Unanswered) (l : Looked) → first_open store s.goal 1 P ≡ Some l → list_all is_ground l.instance.body ≡ false
    → (missing P R).turn store s ≡ asks (covers l.instance) (after_values R s l)
turn_covers P R store s l o t =
    let here : turn_of R store s (Some l) ≡ asks (covers l.instance) (after_values R s l) = rw t refl in
    ap (turn_of R store s) o ∙ here

module _ (O : Type 0) (P : List Tuple) (R : Recorded) (step : O → Call → O → Type 0) where
  pub stays_here : (s : Unanswered) (store : Store) (oracle : O) → IsKnown R store s → Goes_on P R step s store oracle store oracle
  stays_here s store oracle known = record { goes = Goes-none (missing P R) step (at store s oracle); known = known; keeps = λ x y e. e }

  pub goes_onward : (s : Unanswered) (store between after : Store) (from mid to : O) → Goes_on P R step s store from between mid → Goes_on P R step s between mid after to → Goes_on P R step s store from after to
  goes_onward s store between after from mid to a b = record {
    goes = Goes-more (missing P R) step (at store s from) (at between s mid) (at after s to) a.goes b.goes;
    known = b.known;
    keeps = λ x y e. b.keeps x y (a.keeps x y e);
  }

  -- a question without a reply breaks the dialogue off
  pub breaks_unreplied : {asked : Asked} {store : Store} {from : O} {end : AskEnd} {after : Store} {to : O} (s : Unanswered) (next : Reply → Unanswered)
      → (decided store asked.question ≡ None → next_turn (missing P R) store s ≡ asks asked next) → IsUnreplied step asked store from end after to → Breaks (missing P R) step (at store s from) after to end
  breaks_unreplied {asked} {store} {from} {end} s next h (unasked m) = Breaks-here (missing P R) step (at store s from) store from end [] (ways.unasked m) refl
  breaks_unreplied {asked} {store} {from} {end} s next h (unanswered to n p) =
      Breaks-here (missing P R) step (at store s from) store to end (asking asked (Err end) ∷ []) (ways.unanswered asked next (h n)) (to, p, refl)
  breaks_unreplied {asked} {store} {from} {end} s next h (unkept to r n f m p) =
      Breaks-here (missing P R) step (at store s from) store to end (asking asked (Ok r) ∷ []) (ways.unkept asked next r (h n) f m) (to, p, refl)
  breaks_unreplied {asked} {store} {from} {end} s next h (untold mid to r n f p q) =
      Breaks-here (missing P R) step (at store s from) (with_pair store asked.question r) to end (asking asked (Ok r) ∷ telling r None (Err end) ∷ []) (ways.untold asked next r (h n) f) (mid, p, (to, q, refl))

  -- the question about an atom
  next_atom : (store : Store) (s : Unanswered) (l : Looked) (i : ℕ) (a : Term) → IsLooking P R store s → first_open store s.goal 1 P ≡ Some l → list_all is_ground l.instance.body ≡ true → AreDecided store (take i l.instance.body)
      → i < length l.instance.body → a ≡ get_or l.instance.body i a → is_user_atom a ≡ true → decided store (asking_of.True a) ≡ None
      → next_turn (missing P R) store s ≡ asks (alone (asking_of.True a)) (λ r. s)
  next_atom store s l i a k o t before at_place e u d =
      let open_atom : (is_user_atom a && is_undecided (decided store (asking_of.True a))) ≡ true = rw (u, d) refl in
      known-asks (missing P R) (IsKnown R) (missing_falls P R k.sound k.full) store s (alone (asking_of.True a)) (λ r. s) k.known
      (turn_atom P R store s l a o t (first_undecided-at store l.instance.body i a at_place e open_atom before)) d

  record IsSettled (s : Unanswered) (l : Looked) (a : Term) (store : Store) (from : O) (after : Store) (to : O) (r : Reply) : Type 0 where
    goes_on : Goes_on P R step s store from after to
    says : decided after (asking_of.True a) ≡ Some r
    is_first : r ≡ Yes → first_open after s.goal 1 P ≡ Some l

  settle_atom : {store : Store} {from : O} {after : Store} {to : O} {r : Reply} (s : Unanswered) (l : Looked) (i : ℕ) (a : Term) → IsLooking P R store s → first_open store s.goal 1 P ≡ Some l
      → list_all is_ground l.instance.body ≡ true → AreDecided store (take i l.instance.body) → i < length l.instance.body → a ≡ get_or l.instance.body i a → is_user_atom a ≡ true
      → IsReplied step (alone (asking_of.True a)) store from after to r → IsSettled s l a store from after to r
  settle_atom {store} {from} s l i a k o t before at_place e u x =
      by_replied (λ after to r. IsSettled s l a store from after to r)
      (λ r d. record { goes_on = stays_here s store from k.known; says = d; is_first = λ y. o })
      (λ mid to r n f p q. record {
        goes_on = record {
          goes = Goes-asked (missing P R) step store s from mid to (alone (asking_of.True a)) (λ z. s) r (next_atom store s l i a k o t before at_place e u n) f p q;
          known = known_kept R store s (asking_of.True a) r k.known f.0;
          keeps = keeps_added store (asking_of.True a) r;
        };
        says = added_decided store (asking_of.True a) r n f.0 (decides-uncounted (alone (asking_of.True a)) r refl f);
        is_first = λ y. subst (λ (z : Reply). first_open (with_pair store (asking_of.True a) z) s.goal 1 P ≡ Some l) (sym y) (open_by_yes store a s.goal P n ∙ o);
      })
      x

  -- how far the atoms of a body were looked at
  pub record IsJudging (s : Unanswered) (l : Looked) (body : List Term) (i : ℕ) (store : Store) (from : O) (after : Store) (to : O) : Type 0 where
    pub goes_on : Goes_on P R step s store from after to
    pub is_first : first_open after s.goal 1 P ≡ Some l
    pub before : AreDecided after (take i body)

  pub judging_none : (s : Unanswered) (l : Looked) (body : List Term) (store : Store) (from : O) → IsOpened P R store s l body → IsJudging s l body 0 store from store from
  judging_none s l body store from o = record { goes_on = stays_here s store from o.looking.known; is_first = o.is_first; before = tt }

  -- an atom of a built-in goal is passed over
  pub judging_builtin : (s : Unanswered) (l : Looked) (body : List Term) (i : ℕ) (a : Term) (store : Store) (from : O) (after : Store) (to : O) → i < length body → a ≡ get_or body i a → is_user_atom a ≡ false
      → IsJudging s l body i store from after to → IsJudging s l body (i + 1) store from after to
  judging_builtin s l body i a store from after to at_place e u j = record {
    goes_on = j.goes_on;
    is_first = j.is_first;
    before = decided_next after body i a at_place e (rw u refl) j.before;
  }

  looking_on : (s : Unanswered) (l : Looked) (body : List Term) (i : ℕ) (store : Store) (from : O) (after : Store) (to : O) → IsOpened P R store s l body → IsJudging s l body i store from after to → IsLooking P R after s
  looking_on s l body i store from after to o j = record { sound = o.looking.sound; full = o.looking.full; known = j.goes_on.known }

  settled : (s : Unanswered) (l : Looked) (body : List Term) (i : ℕ) (a : Term) (store : Store) (from : O) (after later : Store) (to there : O) (r : Reply) → IsOpened P R store s l body → IsJudging s l body i store from after to
      → i < length body → a ≡ get_or body i a → is_user_atom a ≡ true → IsReplied step (alone (asking_of.True a)) after to later there r → IsSettled s l a after to later there r
  settled s l body i a store from after later to there r o j at_place e u x =
      let back = sym o.body_is in
      settle_atom s l i a (looking_on s l body i store from after to o j) j.is_first (subst (λ ts. list_all is_ground ts ≡ true) back o.has_no_variable)
      (subst (λ ts. AreDecided after (take i ts)) back j.before) (subst (λ ts. i < length ts) back at_place) (subst (λ ts. a ≡ get_or ts i a) back e) u x

  yes_is : (r : Reply) → is_yes r ≡ true → r ≡ Yes
  yes_is Yes e = refl
  yes_is No e = absurd (cc)
  yes_is (Values vs) e = absurd (cc)
  yes_is Unknown e = absurd (cc)

  -- one that is true by the replies
  pub judging_yes : (s : Unanswered) (l : Looked) (body : List Term) (i : ℕ) (a : Term) (store : Store) (from : O) (after later : Store) (to there : O) (r : Reply) → IsOpened P R store s l body → IsJudging s l body i store from after to
      → i < length body → a ≡ get_or body i a → is_user_atom a ≡ true → IsReplied step (alone (asking_of.True a)) after to later there r → is_yes r ≡ true → IsJudging s l body (i + 1) store from later there
  judging_yes s l body i a store from after later to there r o j at_place e u x y =
      let z = settled s l body i a store from after later to there r o j at_place e u x in
      let d = z.says in
      record {
        goes_on = goes_onward s store after later from to there j.goes_on z.goes_on;
        is_first = z.is_first (yes_is r y);
        before = decided_next later body i a at_place e (rw (u, d) refl) (decided_all_kept after later z.goes_on.keeps (take i body) j.before);
      }

  no_is : (later : Store) (a : Term) (r : Reply) → decided later (asking_of.True a) ≡ Some r → is_yes r ≡ false → decided later (asking_of.True a) ≡ Some No
  no_is later a r d n = elim (decided-truth later a r d) [
    | inl e ↦ let bad : true ≡ false = ap is_yes (sym e) ∙ n in absurd (cc)
    | inr e ↦ d ∙ ap (λ x. Some x) e
  ]

  -- one that isn't closes the body
  pub judging_no : (s : Unanswered) (l : Looked) (body : List Term) (i : ℕ) (a : Term) (store : Store) (from : O) (after later : Store) (to there : O) (r : Reply) → IsOpened P R store s l body → IsJudging s l body i store from after to
      → i < length body → a ≡ get_or body i a → is_user_atom a ≡ true → IsReplied step (alone (asking_of.True a)) after to later there r → is_yes r ≡ false → Judges P R step s l store from later there false
  judging_no s l body i a store from after later to there r o j at_place e u x n =
      let z = settled s l body i a store from after later to there r o j at_place e u x in
      let back = sym o.body_is in
      record {
        goes_on = goes_onward s store after later from to there j.goes_on z.goes_on;
        judged = closed_by_no later l.instance i a (subst (λ ts. list_all is_ground ts ≡ true) back o.has_no_variable) (subst (λ ts. i < length ts) back at_place) (subst (λ ts. a ≡ get_or ts i a) back e) u (no_is later a r z.says n);
      }

  -- and one without a reply breaks off
  pub judging_breaks : (s : Unanswered) (l : Looked) (body : List Term) (i : ℕ) (a : Term) (store : Store) (from : O) (after later : Store) (to there : O) (end : AskEnd) → IsOpened P R store s l body → IsJudging s l body i store from after to
      → i < length body → a ≡ get_or body i a → is_user_atom a ≡ true → IsUnreplied step (alone (asking_of.True a)) after to end later there → Breaks (missing P R) step (at store s from) later there end
  judging_breaks s l body i a store from after later to there end o j at_place e u x =
      let back = sym o.body_is in
      Breaks-more (missing P R) step (at store s from) (at after s to) later there end j.goes_on.goes
      (breaks_unreplied s (λ r. s)
      (λ n. next_atom after s l i a (looking_on s l body i store from after to o j) j.is_first (subst (λ ts. list_all is_ground ts ≡ true) back o.has_no_variable)
      (subst (λ ts. AreDecided after (take i ts)) back j.before) (subst (λ ts. i < length ts) back at_place) (subst (λ ts. a ≡ get_or ts i a) back e) u n)
      x)

  pub judging_memory : (s : Unanswered) (l : Looked) (body : List Term) (i : ℕ) (store : Store) (from : O) (after : Store) (to : O) (end : AskEnd) → IsJudging s l body i store from after to → end ≡ Memory
      → Breaks (missing P R) step (at store s from) after to end
  judging_memory s l body i store from after to end j m =
      Breaks-more (missing P R) step (at store s from) (at after s to) after to end j.goes_on.goes (Breaks-here (missing P R) step (at after s to) after to end [] (ways.unasked m) refl)

  pub judging_end : (s : Unanswered) (l : Looked) (body : List Term) (i : ℕ) (store : Store) (from : O) (after : Store) (to : O) → IsOpened P R store s l body → IsJudging s l body i store from after to → take i body ≡ body
      → Judges P R step s l store from after to true
  judging_end s l body i store from after to o j all = record {
    goes_on = j.goes_on;
    judged = (j.is_first, first_undecided-none after l.instance.body (subst (AreDecided after) (all ∙ sym o.body_is) j.before));
  }

-- an atom at its place, and a copy of it
pub at_place : (items body : List Term) (i : ℕ) (a b : Term) → items ≡ body → i < length items → a ≡ get_or items i a → b ≡ a → (i < length body) × (b ≡ get_or body i b)
at_place items body i a b same l e copied = (subst (λ ts. i < length ts) same l, subst (λ ts. b ≡ get_or ts i b) same (subst (λ x. x ≡ get_or items i x) (sym copied) e))

pub take_whole : (items body : List Term) (i : ℕ) → items ≡ body → length items ≤ i → take i body ≡ body
take_whole items body i same l = subst (λ ts. take i ts ≡ ts) same (whole items i l)
  where
    whole : (ts : List Term) (k : ℕ) → length ts ≤ k → take k ts ≡ ts
    whole [] zero l = refl
    whole [] (suc k) l = refl
    whole (t ∷ ts) zero l = absurd (omega (arith, l))
    whole (t ∷ ts) (suc k) l = ap (λ xs. t ∷ xs) (whole ts k (omega (arith, l)))

-- whether an atom is one of the program's
pub user_by : (a b : Term) (o : Option Builtin) → o ≡ builtin_of_atom a → IsNone o → b ≡ a → is_user_atom b ≡ true
user_by a b o e n copied = ap is_user_atom copied ∙ ap is_none (sym e) ∙ none o n
  where
    none : (p : Option Builtin) → IsNone p → is_none p ≡ true
    none None n = refl
    none (Some x) n = absurd (cc)

pub builtin_by : (a : Term) (o : Option Builtin) → o ≡ builtin_of_atom a → IsSome o → is_user_atom a ≡ false
builtin_by a o e n = ap is_none (sym e) ∙ some o n
  where
    some : (p : Option Builtin) → IsSome p → is_none p ≡ false
    some None n = absurd (cc)
    some (Some x) n = refl
