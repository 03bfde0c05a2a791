-- How far the code of the diagnosis of a missing answer has come: a question settled, a clause tried, and a goal left behind.
use Rattle.std.specs.Prelude.{◌≡◌, ℕ, ◌<◌, Bool, true, false, List, take, Option, Some, None, Result, Ok, Err, slice_get, MatchResult}
use Rattle.std.specs.List.{list_all, AllByRecursion}
use Rattle.apd_term.specs.Term.{Term}
use Rattle.apd_term.specs.declared.tuple.Tuple.{Tuple}
use Rattle.apd_arith.specs.Truths.{is_ground}
use Rattle.apd_record.specs.Recorded.{Recorded}
use Rattle.apd_record.specs.Sound.{IsSound}
use Rattle.apd_record.specs.Full.{IsFull}
use Rattle.apd_answers.specs.declared.question.Question.{Question}
use Rattle.apd_answers.specs.declared.question.Reply.{Reply}
use Rattle.apd_answers.specs.declared.question.Asked.{Asked}
use Rattle.apd_answers.specs.declared.finding.Finding.{Finding}
use Rattle.apd_answers.specs.declared.oracle.AskEnd.{AskEnd}
use Rattle.apd_answers.specs.declared.oracle.AskEnd.TheVariants.{Memory}
use Rattle.apd_answers.specs.Questions.{FitsAsked}
use Rattle.apd_answers.specs.Store.{Store, decided, with_pair}
use Rattle.apd_answers.specs.Findings.{instance_for}
use Rattle.apd_answers.specs.Oracle.{Call, asking, telling}
use Rattle.apd_answers.specs.Going.{Moment, at, Goes, Reaches, Breaks}
use Rattle.apd_missing.specs.Missing.{Unanswered, Looked, is_open, is_closed, first_open, first_undecided, followed, state_after, missing}
use Rattle.apd_missing.specs.Known.{IsKnown, HasNext}

-- the reply to a question is the store's, or one that was asked for, kept and told
pub data IsReplied {O : Type 0} (step : O → Call → O → Type 0) (asked : Asked) (store : Store) (from : O) : Store → O → Reply → Type 0 where
  by_store : (r : Reply) → decided store asked.question ≡ Some r → IsReplied step asked store from store from r
  by_oracle : (mid to : O) (r : Reply) → decided store asked.question ≡ None → FitsAsked asked r → step from (asking asked (Ok r)) mid → step mid (telling r None (Ok tt)) to
      → IsReplied step asked store from (with_pair store asked.question r) to r

-- why there is none: memory was wanted before the question or before its reply was kept, it got no reply, or the reply wasn't told
pub data IsUnreplied {O : Type 0} (step : O → Call → O → Type 0) (asked : Asked) (store : Store) (from : O) (end : AskEnd) : Store → O → Type 0 where
  unasked : end ≡ Memory → IsUnreplied step asked store from end store from
  unanswered : (to : O) → decided store asked.question ≡ None → step from (asking asked (Err end)) to → IsUnreplied step asked store from end store to
  unkept : (to : O) (r : Reply) → decided store asked.question ≡ None → FitsAsked asked r → end ≡ Memory → step from (asking asked (Ok r)) to → IsUnreplied step asked store from end store to
  untold : (mid to : O) (r : Reply) → decided store asked.question ≡ None → FitsAsked asked r → step from (asking asked (Ok r)) mid → step mid (telling r None (Err end)) to
      → IsUnreplied step asked store from end (with_pair store asked.question r) to

abbrev pub Settles : {O : Type 0} → (O → Call → O → Type 0) → Asked → Store → O → Store → O → Result Reply AskEnd → Type 0
Settles step asked store from after to result = MatchResult result (IsReplied step asked store from after to) (λ e. IsUnreplied step asked store from e after to)

-- what is decided stays so
abbrev pub Keeps : Store → Store → Type 0
Keeps store after = (x : Question) (y : Reply) → decided store x ≡ Some y → decided after x ≡ Some y

-- each of these clauses isn't one for the goal, or is closed
abbrev pub ArePassed : Store → Term → List Tuple → Type 0
ArePassed store goal cs = AllByRecursion (λ (c : Tuple). is_open store goal c ≡ false) cs

-- a goal is looked at, of a sound and full record
pub record IsLooking (P : List Tuple) (R : Recorded) (store : Store) (s : Unanswered) : Type 0 where
  pub sound : IsSound P R
  pub full : IsFull P R
  pub known : IsKnown R store s

-- and the clause at this place, counted from 0, for it
pub record IsTrying (P : List Tuple) (R : Recorded) (store : Store) (s : Unanswered) (i : ℕ) (c : Tuple) : Type 0 where
  pub looking : IsLooking P R store s
  pub there : slice_get P i ≡ Some c
  pub passed : ArePassed store s.goal (take i P)

-- the dialogue went on about the same goal
pub record Goes_on {O : Type 0} (P : List Tuple) (R : Recorded) (step : O → Call → O → Type 0) (s : Unanswered) (store : Store) (from : O) (after : Store) (to : O) : Type 0 where
  pub goes : Goes (missing P R) step (at store s from) (at after s to)
  pub known : IsKnown R after s
  pub keeps : Keeps store after

-- each atom of a body that was looked at is true by the replies, or the body is closed
abbrev pub IsJudged : List Tuple → Store → Unanswered → Looked → Bool → Type 0
IsJudged P store s l true = (first_open store s.goal 1 P ≡ Some l) × (first_undecided store l.instance.body ≡ None)
IsJudged P store s l false = is_closed store l.instance ≡ true

pub record Judges {O : Type 0} (P : List Tuple) (R : Recorded) (step : O → Call → O → Type 0) (s : Unanswered) (l : Looked) (store : Store) (from : O) (after : Store) (to : O) (b : Bool) : Type 0 where
  pub goes_on : Goes_on P R step s store from after to
  pub judged : IsJudged P after s l b

-- the record is followed from clause number n with this body
pub record Follows {O : Type 0} (P : List Tuple) (R : Recorded) (step : O → Call → O → Type 0) (s : Unanswered) (n : ℕ) (store : Store) (from : O) (after : Store) (to : O) (body : List Term) : Type 0 where
  pub goes : Goes (missing P R) step (at store s from) (at after (state_after s (followed R s n body)) to)
  pub next : HasNext R after s (followed R s n body)

-- the clause was passed
pub record Passes {O : Type 0} (P : List Tuple) (R : Recorded) (step : O → Call → O → Type 0) (s : Unanswered) (c : Tuple) (store : Store) (from : O) (after : Store) (to : O) : Type 0 where
  pub goes_on : Goes_on P R step s store from after to
  pub passed : is_open after s.goal c ≡ false

abbrev pub Tries : {O : Type 0} → List Tuple → Recorded → (O → Call → O → Type 0) → Unanswered → ℕ → Tuple → Store → O → Store → O → Option (List Term) → Type 0
Tries P R step s n c store from after to None = Passes P R step s c store from after to
Tries P R step s n c store from after to (Some body) = Follows P R step s n store from after to body

-- no clause for the goal is left
pub record IsLeft {O : Type 0} (P : List Tuple) (R : Recorded) (step : O → Call → O → Type 0) (s : Unanswered) (store : Store) (from : O) (after : Store) (to : O) : Type 0 where
  pub goes_on : Goes_on P R step s store from after to
  pub none : first_open after s.goal 1 P ≡ None

-- the next goal
pub record Comes {O : Type 0} (P : List Tuple) (R : Recorded) (step : O → Call → O → Type 0) (s : Unanswered) (store : Store) (from : O) (after : Store) (to : O) (t : Unanswered) : Type 0 where
  pub goes : Goes (missing P R) step (at store s from) (at after t to)
  pub known : IsKnown R after t
  pub later : s.box_no < t.box_no

abbrev pub Leaves : {O : Type 0} → List Tuple → Recorded → (O → Call → O → Type 0) → Unanswered → Store → O → Store → O → Option Unanswered → Type 0
Leaves P R step s store from after to None = IsLeft P R step s store from after to
Leaves P R step s store from after to (Some t) = Comes P R step s store from after to t

-- the dialogue came to a finding, or it broke off
abbrev pub Ends : {O : Type 0} → List Tuple → Recorded → (O → Call → O → Type 0) → Moment Unanswered O → Store → O → Result Finding AskEnd → Type 0
Ends P R step p after to result = MatchResult result (Reaches (missing P R) step p after to) (Breaks (missing P R) step p after to)

-- a clause that is looked at, whose body, without variables, isn't closed
pub record IsOpened (P : List Tuple) (R : Recorded) (store : Store) (s : Unanswered) (l : Looked) (body : List Term) : Type 0 where
  pub looking : IsLooking P R store s
  pub is_first : first_open store s.goal 1 P ≡ Some l
  pub body_is : l.instance.body ≡ body
  pub has_no_variable : list_all is_ground body ≡ true

-- the beginning
abbrev pub start : {O : Type 0} → Store → ℕ → Term → O → Moment Unanswered O
start store n goal oracle = at store (record { box_no = n; goal = goal }) oracle

-- the clause at this place is open, and its instance for the goal has variables in its body
pub record IsCovering (P : List Tuple) (R : Recorded) (store : Store) (s : Unanswered) (i : ℕ) (c instance : Tuple) : Type 0 where
  pub trying : IsTrying P R store s i c
  pub opens : is_open store s.goal c ≡ true
  pub instance_is : instance ≡ instance_for c s.goal
  pub has_variables : list_all is_ground instance.body ≡ false
