-- What comes next in a diagnosis asks what may be asked, in canonical form.
use Rattle.std.proofs.Common.{◌≡◌, ℕ, zero, suc, List, Option, Some, None, refl}
use Rattle.std.specs.Prelude.{All, ⊤}
use Rattle.apd_account.specs.Inquiry.{Inquiry, OfWrong, OfMissing, OfLoop, next_in}
use Rattle.apd_answers.specs.Dialogue.{Diagnosis, Turn, asks, goes, ends, next_turn, pursued, settled, unless_decided}
use Rattle.apd_answers.specs.Fitting.{AllFit}
use Rattle.apd_answers.specs.Store.{Store, decided}
use Rattle.apd_answers.specs.declared.finding.Finding.{Finding}
use Rattle.apd_answers.specs.declared.question.Asked.{Asked}
use Rattle.apd_answers.specs.declared.question.Reply.{Reply}
use Rattle.apd_clauses.specs.Clauses.{IsClause}
use Rattle.apd_debug.specs.NamedStates.{IsOwnChain, MayGoOn}
use Rattle.apd_debug.specs.NamedTrees.{HasOwnLabels}
use Rattle.apd_debug.proofs.KnownTrees.{TurnIsOwn as TreeTurnIsOwn, turn-own as tree_turn-own}
use Rattle.apd_debug.proofs.OwnGoals.{GivesGround, TurnIsOwn as GoalTurnIsOwn, gives_decided, turn-own as goal_turn-own}
use Rattle.apd_debug.proofs.OwnLoops.{TurnIsOwn as LoopTurnIsOwn, turn-own as loop_turn-own}
use Rattle.apd_divide.specs.Tree.{Tree}
use Rattle.apd_divide.specs.declared.node.Strategy.{Strategy}
use Rattle.apd_loop.specs.Loop.{Looping, inside, loop, turn_in}
use Rattle.apd_loop.specs.declared.LoopEnd.{LoopEnd}
use Rattle.apd_loop.specs.declared.LoopEnd.TheVariants as loop_ends
use Rattle.apd_missing.specs.Missing.{missing}
use Rattle.apd_missing.specs.declared.state.Unanswered.{Unanswered}
use Rattle.apd_record.specs.Recorded.{Recorded, chain}
use Rattle.apd_term.specs.Term.{IsGround}
use Rattle.apd_term.specs.declared.tuple.Tuple.{Tuple}
use Rattle.apd_wrong.specs.Wrong.{wrong}
use Rattle.apd_session.proofs.InForm.{AsksInForm, loop-form, missing-form, wrong-form}
use Rattle.apd_upheld.specs.Fair.{IsFairQuestion}

-- a turn asks what may be asked, and leads to states of this kind, by replies that leave no variables
abbrev pub TurnIsFair : {D E : Type 0} → (D → Type 0) → Turn D E → Type 0
TurnIsFair IsOwn (asks asked next) = IsFairQuestion asked.question × ((r : Reply) → GivesGround asked.question r → IsOwn (next r))
TurnIsFair IsOwn (goes t) = IsOwn t
TurnIsFair IsOwn (ends e) = ⊤

-- so does the next turn, where each turn does
module _ {D E : Type 0} (IsOwn : D → Type 0) (d : Diagnosis D E) (store : Store) (fit : AllFit store) (keeps : (s : D) → IsOwn s → TurnIsFair IsOwn (d.turn store s)) where
  pursued-fair : (k : ℕ) (s : D) → IsOwn s → TurnIsFair IsOwn (pursued d store k s)
  pursued-fair zero s own = keeps s own
  pursued-fair (suc k) s own = by (d.turn store s) (keeps s own) (pursued-fair k)
    where
      reply_by : (asked : Asked) (next : Reply → D) → TurnIsFair {E = E} IsOwn (asks asked next) → (o : Option Reply) → decided store asked.question ≡ o
          → ((t : D) → IsOwn t → TurnIsFair IsOwn (pursued d store k t)) → TurnIsFair IsOwn (unless_decided (pursued d store k) asked next o)
      reply_by asked next h None is rest = h
      reply_by asked next h (Some r) is rest = rest (next r) (h.1 r (gives_decided store asked.question r fit h.0.may is))

      by : (turn : Turn D E) → TurnIsFair IsOwn turn → ((t : D) → IsOwn t → TurnIsFair IsOwn (pursued d store k t)) → TurnIsFair IsOwn (settled store (pursued d store k) turn)
      by (asks asked next) h rest = reply_by asked next h (decided store asked.question) refl rest
      by (goes t) h rest = rest t h
      by (ends e) h rest = tt

  next-fair : (s : D) → IsOwn s → TurnIsFair IsOwn (next_turn d store s)
  next-fair s own = pursued-fair (d.bound store s) s own

-- the goal has no variable
abbrev HasGroundGoal : Unanswered → Type 0
HasGroundGoal s = IsGround s.goal

wrong_both : (turn : Turn Tree Finding) → TreeTurnIsOwn turn → AsksInForm turn → TurnIsFair HasOwnLabels turn
wrong_both (asks asked next) own form = (record { may = own.0; form = form }, λ r gives. own.1 r)
wrong_both (goes t) own form = own
wrong_both (ends f) own form = tt

missing_both : (turn : Turn Unanswered Finding) → GoalTurnIsOwn turn → AsksInForm turn → TurnIsFair HasGroundGoal turn
missing_both (asks asked next) own form = (record { may = own.0; form = form }, own.1)
missing_both (goes t) own form = own
missing_both (ends f) own form = tt

loop_both : (R : Recorded) (calls : List ℕ) (turn : Turn Looping LoopEnd) → LoopTurnIsOwn R calls turn → AsksInForm turn → TurnIsFair (MayGoOn R calls) turn
loop_both R calls (asks asked next) own form = (record { may = own.0; form = form }, λ r gives. own.1 r)
loop_both R calls (goes t) own form = own
loop_both R calls (ends e) own form = tt

inside-fair : {S T E F : Type 0} (state : S → T) (end : E → F) (IsOwn : S → Type 0) (IsOther : T → Type 0) → ((s : S) → IsOwn s → IsOther (state s)) → (turn : Turn S E) → TurnIsFair IsOwn turn → TurnIsFair IsOther (inside state end turn)
inside-fair state end IsOwn IsOther to (asks asked next) h = (h.0, λ r gives. to (next r) (h.1 r gives))
inside-fair state end IsOwn IsOther to (goes s) h = to s h
inside-fair state end IsOwn IsOther to (ends e) h = tt

-- a state of a diagnosis of this record: what it asks about are atoms of the program's own predicates
abbrev pub IsOwnInquiry : Recorded → Inquiry → Type 0
IsOwnInquiry R (OfWrong x) = HasOwnLabels x
IsOwnInquiry R (OfMissing s) = HasGroundGoal s
IsOwnInquiry R (OfLoop s) = IsOwnChain R (chain R) × MayGoOn R (chain R) s

pub comes-fair : (P : List Tuple) → All IsClause P → (strategy : Strategy) (R : Recorded) (store : Store) → AllFit store → (q : Inquiry) → IsOwnInquiry R q → TurnIsFair (IsOwnInquiry R) (next_in P strategy R store q)
comes-fair P all strategy R store fit (OfWrong x) own =
    inside-fair OfWrong loop_ends.Found HasOwnLabels (IsOwnInquiry R) (λ y h. h) (next_turn (wrong strategy) store x)
    (next-fair HasOwnLabels (wrong strategy) store fit (λ y h. wrong_both ((wrong strategy).turn store y) (tree_turn-own strategy store y h) (wrong-form strategy store y)) x own)
comes-fair P all strategy R store fit (OfMissing s) own =
    inside-fair OfMissing loop_ends.Found HasGroundGoal (IsOwnInquiry R) (λ y h. h) (next_turn (missing P R) store s)
    (next-fair HasGroundGoal (missing P R) store fit (λ y h. missing_both ((missing P R).turn store y) (goal_turn-own P R store y all h) (missing-form P R store y)) s own)
comes-fair P all strategy R store fit (OfLoop s) own =
    inside-fair OfLoop (λ (e : LoopEnd). e) (MayGoOn R (chain R)) (IsOwnInquiry R) (λ y h. (own.0, h)) (next_turn (loop R (chain R) strategy) store s)
    (next-fair (MayGoOn R (chain R)) (loop R (chain R) strategy) store fit
    (λ y h. loop_both R (chain R) (turn_in R (chain R) strategy store y) (loop_turn-own R (chain R) own.0 strategy store y h) (loop-form R (chain R) strategy store y)) s own.1)
