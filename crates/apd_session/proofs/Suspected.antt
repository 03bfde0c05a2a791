-- The count of suspects that a reply leaves is small where its question's is: it is less; and a question without one has no reply that
-- leaves one. Values leave none: they are the reply to a body, and a missing answer's diagnosis alone asks about one.
use Rattle.std.proofs.Common.{◌≡◌, ℕ, zero, suc, ◌-◌, ◌<◌, List, [], ◌∷◌, length, Bool, true, false, Option, Some, None, refl, sym, ◌∙◌, subst, arith}
use Rattle.std.specs.Prelude.{◌+◌, ◌/◌, ◌^◌, IfSome, if◌then◌else◌, nat_le, ⊤}
use Rattle.apd_account.specs.Account.{Account, Stage, Idle, Moves, Awaits, after_telling}
use Rattle.apd_account.specs.Inquiry.{Inquiry, OfWrong, OfMissing, OfLoop, left_of, next_in}
use Rattle.apd_account.specs.Right.{IsAnswer, IsRightTelling, LeavesFewer}
use Rattle.apd_account.specs.Telling.{Telling, Runs, Begins, Asks, Replies, Finds, Clears, Breaks, Other}
use Rattle.apd_account.proofs.Diagnosing.{question-is, replied-is}
use Rattle.apd_answers.specs.Dialogue.{Diagnosis, Turn, asks, goes, ends, next_turn, pursued, settled, unless_decided}
use Rattle.apd_answers.specs.Interpretation.{Interpretation}
use Rattle.apd_answers.specs.Questions.{Fits, is_yes}
use Rattle.apd_answers.specs.Store.{Store, decided, with_pair}
use Rattle.apd_answers.specs.declared.finding.Finding.{Finding}
use Rattle.apd_answers.specs.declared.question.Asked.{Asked}
use Rattle.apd_answers.specs.declared.question.Reply.{Reply}
use Rattle.apd_answers.specs.declared.question.Reply.TheVariants.{Values}
use Rattle.apd_clauses.specs.Clauses.{tuples_of}
use Rattle.apd_clauses.specs.declared.clause.Clause.{Clause}
use Rattle.apd_divide.specs.Choice.{Cut, choice}
use Rattle.apd_divide.specs.Tree.{Tree, label}
use Rattle.apd_divide.specs.declared.node.Strategy.{Strategy}
use Rattle.apd_loop.specs.Loop.{Looping, whole, between, descending, rising, denied, within, below, by_yes, earlier_goals, inside, left_in, loop, turn_in}
use Rattle.apd_loop.specs.declared.LoopEnd.{LoopEnd}
use Rattle.apd_loop.specs.declared.LoopEnd.TheVariants as loop_ends
use Rattle.apd_missing.specs.Missing.{missing}
use Rattle.apd_missing.specs.declared.state.Unanswered.{Unanswered}
use Rattle.apd_record.specs.Recorded.{Recorded, chain}
use Rattle.apd_term.specs.Term.{Term}
use Rattle.apd_term.specs.declared.tuple.Tuple.{Tuple}
use Rattle.apd_written.specs.Texts.{IsFewLeft}
use Rattle.apd_wrong.specs.Wrong.{first_trusted, is_passed, turn_about, turn_by, turn_on, wrong}

-- no values are a reply to what a turn asks
abbrev AsksNoValues : {S E : Type 0} → Turn S E → Type 0
AsksNoValues (asks asked next) = (values : List Term) → Fits asked.question (Values values) → ⊥
AsksNoValues (goes s) = ⊤
AsksNoValues (ends e) = ⊤

wrong-valueless : (strategy : Strategy) (store : Store) (x : Tree) → AsksNoValues ((wrong strategy).turn store x)
wrong-valueless strategy store x = on (first_trusted store x)
  where
    about : (c : Cut) (passed : Bool) → AsksNoValues (turn_about x c passed)
    about c true = tt
    about c false = λ values fits. fits

    by : (o : Option Cut) → AsksNoValues (turn_by store x o)
    by None = tt
    by (Some c) = about c (is_passed store (label c.chosen))

    on : (o : Option Cut) → AsksNoValues (turn_on store x o (choice strategy x))
    on None = by (choice strategy x)
    on (Some c) = tt

inside-valueless : {S T E F : Type 0} (state : S → T) (end : E → F) (turn : Turn S E) → AsksNoValues turn → AsksNoValues (inside state end turn)
inside-valueless state end (asks asked next) h = h
inside-valueless state end (goes s) h = tt
inside-valueless state end (ends e) h = tt

loop-valueless : (R : Recorded) (calls : List ℕ) (strategy : Strategy) (store : Store) (s : Looping) → AsksNoValues (turn_in R calls strategy store s)
loop-valueless R calls strategy store whole = λ values fits. fits
loop-valueless R calls strategy store (between low high) = by (nat_le (high - low) 1)
  where
    by : (b : Bool) → AsksNoValues {E = LoopEnd} (if b then goes (rising low (earlier_goals R calls low)) else (let middle = low + (high - low) / 2 in asks (below R calls middle low) (by_yes (between middle high) (between low middle))))
    by true = tt
    by false = λ values fits. fits
loop-valueless R calls strategy store (descending zero) = tt
loop-valueless R calls strategy store (descending (suc i)) = λ values fits. fits
loop-valueless R calls strategy store (rising i []) = tt
loop-valueless R calls strategy store (rising i (e ∷ es)) = λ values fits. fits
loop-valueless R calls strategy store (denied e) = tt
loop-valueless R calls strategy store (within root x) = inside-valueless (within root) loop_ends.Found ((wrong strategy).turn store x) (wrong-valueless strategy store x)

-- nor to the next question
module _ {S E : Type 0} (d : Diagnosis S E) (store : Store) (each : (s : S) → AsksNoValues (d.turn store s)) where
  pursued-valueless : (k : ℕ) (s : S) → AsksNoValues (pursued d store k s)
  pursued-valueless zero s = each s
  pursued-valueless (suc k) s = by (d.turn store s) (each s) (pursued-valueless k)
    where
      reply_by : (asked : Asked) (next : Reply → S) (o : Option Reply) → AsksNoValues {E = E} (asks asked next) → ((t : S) → AsksNoValues (pursued d store k t)) → AsksNoValues (unless_decided (pursued d store k) asked next o)
      reply_by asked next None h rest = h
      reply_by asked next (Some r) h rest = rest (next r)

      by : (turn : Turn S E) → AsksNoValues turn → ((t : S) → AsksNoValues (pursued d store k t)) → AsksNoValues (settled store (pursued d store k) turn)
      by (asks asked next) h rest = reply_by asked next (decided store asked.question) h rest
      by (goes t) h rest = rest t
      by (ends e) h rest = tt

  next-valueless : (s : S) → AsksNoValues (next_turn d store s)
  next-valueless s = pursued-valueless (d.bound store s) s

-- values lead to a state that counts no suspects
abbrev LeavesNone : Turn Inquiry LoopEnd → Type 0
LeavesNone (asks asked next) = (values : List Term) → Fits asked.question (Values values) → left_of (next (Values values)) ≡ None
LeavesNone (goes s) = ⊤
LeavesNone (ends e) = ⊤

valueless-none : (turn : Turn Inquiry LoopEnd) → AsksNoValues turn → LeavesNone turn
valueless-none (asks asked next) h = λ values fits. absurd (h values fits)
valueless-none (goes s) h = tt
valueless-none (ends e) h = tt

missing-none : (turn : Turn Unanswered Finding) → LeavesNone (inside OfMissing loop_ends.Found turn)
missing-none (asks asked next) = λ values fits. refl
missing-none (goes s) = tt
missing-none (ends e) = tt

next-none : (P : List Tuple) (strategy : Strategy) (R : Recorded) (store : Store) (q : Inquiry) → LeavesNone (next_in P strategy R store q)
next-none P strategy R store (OfWrong x) =
    let turn = next_turn (wrong strategy) store x in
    valueless-none (inside OfWrong loop_ends.Found turn) (inside-valueless OfWrong loop_ends.Found turn (next-valueless (wrong strategy) store (λ y. wrong-valueless strategy store y) x))
next-none P strategy R store (OfMissing s) = missing-none (next_turn (missing P R) store s)
next-none P strategy R store (OfLoop s) =
    let d = loop R (chain R) strategy in
    valueless-none (inside OfLoop (λ (e : LoopEnd). e) (next_turn d store s))
    (inside-valueless OfLoop (λ (e : LoopEnd). e) (next_turn d store s) (next-valueless d store (λ y. loop-valueless R (chain R) strategy store y) s))

-- What holds of whatever a turn asks.

abbrev Has : {S E : Type 0} → (Asked → (Reply → S) → Type 0) → Turn S E → Type 0
Has Q (asks asked next) = Q asked next
Has Q (goes s) = ⊤
Has Q (ends e) = ⊤

-- suspects are counted
abbrev IsCounted : {S : Type 0} → Asked → (Reply → S) → Type 0
IsCounted asked next = asked.suspects ≡ None → ⊥

-- where they aren't, none are left in any state that a reply leads to
abbrev IsAlike : {S : Type 0} → (S → Option ℕ) → Asked → (Reply → S) → Type 0
IsAlike left asked next = asked.suspects ≡ None → (r : Reply) → left (next r) ≡ None

module _ {S E : Type 0} (Q : Asked → (Reply → S) → Type 0) (d : Diagnosis S E) (store : Store) (each : (s : S) → Has Q (d.turn store s)) where
  pursued-has : (k : ℕ) (s : S) → Has Q (pursued d store k s)
  pursued-has zero s = each s
  pursued-has (suc k) s = by (d.turn store s) (each s) (pursued-has k)
    where
      reply_by : (asked : Asked) (next : Reply → S) (o : Option Reply) → Q asked next → ((t : S) → Has Q (pursued d store k t)) → Has Q (unless_decided (pursued d store k) asked next o)
      reply_by asked next None h rest = h
      reply_by asked next (Some r) h rest = rest (next r)

      by : (turn : Turn S E) → Has Q turn → ((t : S) → Has Q (pursued d store k t)) → Has Q (settled store (pursued d store k) turn)
      by (asks asked next) h rest = reply_by asked next (decided store asked.question) h rest
      by (goes t) h rest = rest t
      by (ends e) h rest = tt

  next-has : (s : S) → Has Q (next_turn d store s)
  next-has s = pursued-has (d.bound store s) s

wrong-counted : (strategy : Strategy) (store : Store) (x : Tree) → Has IsCounted ((wrong strategy).turn store x)
wrong-counted strategy store x = on (first_trusted store x)
  where
    about : (c : Cut) (passed : Bool) → Has IsCounted (turn_about x c passed)
    about c true = tt
    about c false = λ e. absurd (cc)

    by : (o : Option Cut) → Has IsCounted (turn_by store x o)
    by None = tt
    by (Some c) = about c (is_passed store (label c.chosen))

    on : (o : Option Cut) → Has IsCounted (turn_on store x o (choice strategy x))
    on None = by (choice strategy x)
    on (Some c) = tt

-- what is counted so in one diagnosis, inside another
inside-counted : {S T E F : Type 0} (state : S → T) (end : E → F) (left : T → Option ℕ) (turn : Turn S E) → Has IsCounted turn → Has (IsAlike left) (inside state end turn)
inside-counted state end left (asks asked next) h = λ e r. absurd (h e)
inside-counted state end left (goes s) h = tt
inside-counted state end left (ends e) h = tt

both_none : (b : Bool) (s t : Looping) → left_in s ≡ None → left_in t ≡ None → left_in (if b then s else t) ≡ None
both_none true s t h k = h
both_none false s t h k = k

loop-alike : (R : Recorded) (calls : List ℕ) (strategy : Strategy) (store : Store) (s : Looping) → Has (IsAlike left_in) (turn_in R calls strategy store s)
loop-alike R calls strategy store whole = λ e r. both_none (is_yes r) (descending (length calls - 1)) (between 1 (length calls)) refl refl
loop-alike R calls strategy store (between low high) = by (nat_le (high - low) 1)
  where
    by : (b : Bool) → Has {E = LoopEnd} (IsAlike left_in) (if b then goes (rising low (earlier_goals R calls low)) else (let middle = low + (high - low) / 2 in asks (below R calls middle low) (by_yes (between middle high) (between low middle))))
    by true = tt
    by false = λ e r. both_none (is_yes r) (between (low + (high - low) / 2) high) (between low (low + (high - low) / 2)) refl refl
loop-alike R calls strategy store (descending zero) = tt
loop-alike R calls strategy store (descending (suc i)) = λ e r. both_none (is_yes r) (descending i) (rising (suc i) (earlier_goals R calls (suc i))) refl refl
loop-alike R calls strategy store (rising i []) = tt
loop-alike R calls strategy store (rising i (e ∷ es)) = λ f r. both_none (is_yes r) (rising i es) (denied e) refl refl
loop-alike R calls strategy store (denied e) = tt
loop-alike R calls strategy store (within root x) = inside-counted (within root) loop_ends.Found left_in ((wrong strategy).turn store x) (wrong-counted strategy store x)

missing-alike : (turn : Turn Unanswered Finding) → Has (IsAlike left_of) (inside OfMissing loop_ends.Found turn)
missing-alike (asks asked next) = λ e r. refl
missing-alike (goes s) = tt
missing-alike (ends e) = tt

loop-inside : (turn : Turn Looping LoopEnd) → Has (IsAlike left_in) turn → Has (IsAlike left_of) (inside OfLoop (λ (e : LoopEnd). e) turn)
loop-inside (asks asked next) h = h
loop-inside (goes s) h = tt
loop-inside (ends e) h = tt

next-alike : (P : List Tuple) (strategy : Strategy) (R : Recorded) (store : Store) (q : Inquiry) → Has (IsAlike left_of) (next_in P strategy R store q)
next-alike P strategy R store (OfWrong x) = inside-counted OfWrong loop_ends.Found left_of (next_turn (wrong strategy) store x) (next-has IsCounted (wrong strategy) store (λ y. wrong-counted strategy store y) x)
next-alike P strategy R store (OfMissing s) = missing-alike (next_turn (missing P R) store s)
next-alike P strategy R store (OfLoop s) =
    let d = loop R (chain R) strategy in
    loop-inside (next_turn d store s) (next-has (IsAlike left_in) d store (λ y. loop-alike R (chain R) strategy store y) s)

-- a question that waits: values lead to a state without a count, it counts few suspects, and where it counts none, no reply leaves any
pub record IsAskedWell (asked : Asked) (next : Reply → Inquiry) : Type 0 where
  values : (values : List Term) → Fits asked.question (Values values) → left_of (next (Values values)) ≡ None
  few : IsFewLeft asked.suspects
  alike : IsAlike left_of asked next

abbrev pub IsSuspected : Stage → Type 0
IsSuspected Idle = ⊤
IsSuspected (Moves q) = ⊤
IsSuspected (Awaits asked next) = IsAskedWell asked next

-- a question that is told counts few suspects
abbrev pub IsFewTold : Telling → Type 0
IsFewTold (Runs q budget answers end) = ⊤
IsFewTold (Begins what) = ⊤
IsFewTold (Asks asked) = IsFewLeft asked.suspects
IsFewTold (Replies reply left by_reference) = ⊤
IsFewTold (Finds finding) = ⊤
IsFewTold (Clears calls) = ⊤
IsFewTold Breaks = ⊤
IsFewTold Other = ⊤

module _ (program : List Clause) (strategy : Strategy) (m : Interpretation) where
  -- what is told in turn keeps that
  pub suspected-after : (a : Account) (t : Telling) → IsRightTelling m program strategy a t → IsFewTold t → IsSuspected a.stage → IsSuspected (after_telling program strategy a t).stage
  suspected-after a (Runs q budget answers None) r w h = h
  suspected-after a (Runs q budget answers (Some ran)) r w h = h
  suspected-after a (Begins what) r w h = tt
  suspected-after a (Asks asked) r w h =
      let P = tuples_of program in
      subst (λ (b : Account). IsSuspected b.stage) (sym (question-is program strategy a asked r.next r.due)) (record {
        values = subst LeavesNone r.due.next (next-none P strategy a.history a.store r.due.inquiry);
        few = w;
        alike = subst (Has (IsAlike left_of)) r.due.next (next-alike P strategy a.history a.store r.due.inquiry);
      })
  suspected-after a (Replies reply left given) r w h = subst (λ (b : Account). IsSuspected b.stage) (sym (replied-is a r.asked r.next reply r.waits)) tt
  suspected-after a (Finds finding) r w h = tt
  suspected-after a (Clears calls) r w h = tt
  suspected-after a Breaks r w h = tt
  suspected-after a Other r w h = h

  pub values-uncounted : (a : Account) (values : List Term) (left : Option ℕ) (given : Bool) → IsAnswer strategy a (Values values) left given → IsSuspected a.stage → left ≡ None
  values-uncounted a values left given r h = let s : IsAskedWell r.asked r.next = subst IsSuspected r.waits h in r.left_is ∙ s.values values r.fits.0

  pub reply-few : (a : Account) (reply : Reply) (left : Option ℕ) (given : Bool) → IsAnswer strategy a reply left given → IsSuspected a.stage → IsFewLeft left
  reply-few a reply left given r h = by r.asked.suspects refl
    where
      s : IsAskedWell r.asked r.next
      s = subst IsSuspected r.waits h

      by : (o : Option ℕ) → r.asked.suspects ≡ o → IsFewLeft left
      by None e = subst IsFewLeft (sym (r.left_is ∙ s.alike e reply)) tt
      by (Some before) e =
          let l = subst (λ (o : Option ℕ). IfSome o (λ n. LeavesFewer strategy a.history (with_pair a.store r.asked.question reply) a.symptom n (r.next reply))) e r.leaves in
          let few : before < 2 ^ 32 = subst IsFewLeft e s.few in
          let less : l.after < before = l.fewer in
          subst IsFewLeft (sym (r.left_is ∙ l.left_is)) (omega (arith, few, less))
