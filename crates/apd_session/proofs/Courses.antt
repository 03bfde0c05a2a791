-- The turns of the diagnoses of a missing answer and of a run that doesn't end are right, and what these begin with is known.
use Rattle.std.proofs.Common.{◌≡◌, ℕ, List, Option, Some, None, refl}
use Rattle.std.specs.Prelude.{IfSome, IsSome}
use Rattle.apd_account.specs.Account.{with_told}
use Rattle.apd_account.specs.Inquiry.{OfLoop, OfMissing}
use Rattle.apd_account.specs.Right.{Leaves}
use Rattle.apd_account.proofs.Diagnosing.{AsksRightly, RightTurn}
use Rattle.apd_answers.specs.Dialogue.{Turn, asks, goes, ends, next_turn}
use Rattle.apd_answers.specs.Findings.{AllDescendByReplies, IsByReplies}
use Rattle.apd_answers.specs.Fitting.{AllFit}
use Rattle.apd_answers.specs.Store.{Store, with_pair}
use Rattle.apd_answers.specs.declared.finding.Finding.{Finding}
use Rattle.apd_answers.specs.declared.question.Asked.{Asked}
use Rattle.apd_answers.specs.declared.question.Reply.{Reply}
use Rattle.apd_divide.specs.declared.node.Strategy.{Strategy}
use Rattle.apd_loop.specs.Known as loop_known
use Rattle.apd_loop.specs.Known.{IsChain}
use Rattle.apd_loop.specs.Loop.{Looping, calls_in, left_in, loop, loop_start}
use Rattle.apd_loop.specs.Next as loop_next
use Rattle.apd_loop.specs.declared.LoopEnd.{LoopEnd}
use Rattle.apd_loop.specs.declared.LoopEnd.TheVariants as loop_ends
use Rattle.apd_loop.proofs.Next.{comes-next as loop_comes}
use Rattle.apd_loop.proofs.Start.{start-known}
use Rattle.apd_missing.specs.Known as missing_known
use Rattle.apd_missing.specs.Known.{IsMissing}
use Rattle.apd_missing.specs.Missing.{missing}
use Rattle.apd_missing.specs.declared.state.Unanswered.{Unanswered}
use Rattle.apd_missing.specs.Next as missing_next
use Rattle.apd_missing.proofs.Rising.{comes_next as missing_comes}
use Rattle.apd_answers.proofs.Decided.{added-yes}
use Rattle.apd_answers.proofs.Fitted.{fit_added}
use Rattle.apd_answers.specs.declared.question.Question.TheVariants.{True}
use Rattle.apd_answers.specs.declared.question.Reply.TheVariants.{Yes}
use Rattle.apd_record.specs.Full.{IsFull}
use Rattle.apd_record.specs.Recorded.{Recorded, chain}
use Rattle.apd_record.specs.Sound.{IsSound}
use Rattle.apd_term.specs.Term.{Term}
use Rattle.apd_term.specs.declared.tuple.Tuple.{Tuple}
use Rattle.apd_text.specs.declared.entry.Told.{Told}
use Rattle.apd_text.specs.declared.entry.Told.TheVariants.{Missing, NoEnd}

-- The diagnosis of a missing answer.

pub record IsKnownGoal (P : List Tuple) (R : Recorded) (store : Store) (symptom : Option Told) (s : Unanswered) : Type 0 where
  pub sound : IsSound P R
  pub full : IsFull P R
  pub known : missing_known.IsKnown R store s

-- it counts no suspects
abbrev pub goal_left : Unanswered → Option ℕ
goal_left s = None

uncounted : (o : Option ℕ) → o ≡ None → IsSome o → ⊥
uncounted None e i = absurd (cc)
uncounted (Some n) e i = cc

module _ (P : List Tuple) (strategy : Strategy) where
  abbrev pub MissingTurn : Recorded → Store → Option Told → Turn Unanswered Finding → Type 0
  MissingTurn = RightTurn strategy (IsKnownGoal P) goal_left OfMissing (IsByReplies P)

  missing_asks : (R : Recorded) (store : Store) (symptom : Option Told) (s : Unanswered) (asked : Asked) (next : Reply → Unanswered) → IsKnownGoal P R store symptom s → missing_next.AsksOfGoal R store asked next
      → AsksRightly strategy (IsKnownGoal P) goal_left OfMissing R store symptom asked next
  missing_asks R store symptom s asked next k a = record {
    unanswered = record { undecided = a.undecided; unreplied = λ counted. absurd (uncounted asked.suspects a.alone counted) };
    known = λ r fits. record { sound = k.sound; full = k.full; known = a.known r fits };
    leaves = λ r fits. rw a.alone tt;
  }

  missing_turn-by : (R : Recorded) (store : Store) (symptom : Option Told) (s : Unanswered) (turn : Turn Unanswered Finding) → IsKnownGoal P R store symptom s → missing_next.ComesNext P R store turn → MissingTurn R store symptom turn
  missing_turn-by R store symptom s (asks asked next) k c = missing_asks R store symptom s asked next k c
  missing_turn-by R store symptom s (goes t) k c = absurd c
  missing_turn-by R store symptom s (ends f) k c = c

  pub missing_turn : (R : Recorded) (store : Store) (symptom : Option Told) (s : Unanswered) → IsKnownGoal P R store symptom s → MissingTurn R store symptom (next_turn (missing P R) store s)
  missing_turn R store symptom s k = missing_turn-by R store symptom s (next_turn (missing P R) store s) k (missing_comes P R k.sound k.full store s k.known)

pub missing_begins : (P : List Tuple) (R : Recorded) (store : Store) (b : ℕ) (a : Term) → IsSound P R → IsFull P R → AllFit store → IsMissing R b a
    → IsKnownGoal P R (with_told store (Missing a b)) (Some (Missing a b)) (record { box_no = b; goal = a })
missing_begins P R store b a sound full fit is = record { sound = sound; full = full; known = record { missing = is; says = added-yes store a; fit = fit_added store (True a) Yes fit tt } }

-- The diagnosis of a run that doesn't end.

pub record IsKnownLoop (P : List Tuple) (R : Recorded) (store : Store) (symptom : Option Told) (s : Looping) : Type 0 where
  pub calls : ℕ
  pub symptom_is : symptom ≡ Some (NoEnd calls)
  pub sound : IsSound P R
  pub chained : IsChain R (chain R)
  pub known : loop_known.IsKnown P R (chain R) store s

abbrev pub IsLoopEnd : List Tuple → Recorded → Store → LoopEnd → Type 0
IsLoopEnd P R store (loop_ends.Found f) = IsByReplies P R store f
IsLoopEnd P R store loop_ends.AllDescend = AllDescendByReplies store (calls_in R (chain R))

module _ (P : List Tuple) (strategy : Strategy) where
  abbrev pub LoopTurn : Recorded → Store → Option Told → Turn Looping LoopEnd → Type 0
  LoopTurn = RightTurn strategy (IsKnownLoop P) left_in OfLoop (IsLoopEnd P)

  -- the suspects that a reply leaves
  loop_leaves : (R : Recorded) (store : Store) (symptom : Option Told) (n : ℕ) (asked : Asked) (r : Reply) (counted : Option ℕ) (s : Looping) → symptom ≡ Some (NoEnd n) → asked.suspects ≡ counted
      → IfSome counted (λ before. loop_next.LeavesFewer R (chain R) strategy (with_pair store asked.question r) before s) → Leaves strategy R store symptom asked r (OfLoop s)
  loop_leaves R store symptom n asked r None s is counts l = rw counts tt
  loop_leaves R store symptom n asked r (Some before) s is counts l = rw (counts, is) (record {
    after = l.after;
    left_is = l.left_is;
    fewer = l.fewer;
    whole = l.whole;
    suspected = record { held = l.whole_is; of_denied = l.of_denied };
    fraction = l.fraction;
  })

  loop_asks : (R : Recorded) (store : Store) (symptom : Option Told) (s : Looping) (asked : Asked) (next : Reply → Looping) → IsKnownLoop P R store symptom s → loop_next.AsksInLoop P R (chain R) strategy store asked next
      → AsksRightly strategy (IsKnownLoop P) left_in OfLoop R store symptom asked next
  loop_asks R store symptom s asked next k a = record {
    unanswered = record { undecided = a.undecided; unreplied = a.unreplied };
    known = λ r fits. record { calls = k.calls; symptom_is = k.symptom_is; sound = k.sound; chained = k.chained; known = (a.left r fits).known };
    leaves = λ r fits. loop_leaves R store symptom k.calls asked r asked.suspects (next r) k.symptom_is refl (a.left r fits).fewer;
  }

  loop_end : (R : Recorded) (store : Store) (e : LoopEnd) → loop_next.IsEndByReplies P R (chain R) store e → IsLoopEnd P R store e
  loop_end R store (loop_ends.Found f) by = by.1
  loop_end R store loop_ends.AllDescend by = by

  loop_turn-by : (R : Recorded) (store : Store) (symptom : Option Told) (s : Looping) (turn : Turn Looping LoopEnd) → IsKnownLoop P R store symptom s → loop_next.ComesNext P R (chain R) strategy store turn → LoopTurn R store symptom turn
  loop_turn-by R store symptom s (asks asked next) k c = loop_asks R store symptom s asked next k c
  loop_turn-by R store symptom s (goes t) k c = absurd c
  loop_turn-by R store symptom s (ends e) k c = loop_end R store e c

  pub loop_turn : (R : Recorded) (store : Store) (symptom : Option Told) (s : Looping) → IsKnownLoop P R store symptom s → LoopTurn R store symptom (next_turn (loop R (chain R) strategy) store s)
  loop_turn R store symptom s k = loop_turn-by R store symptom s (next_turn (loop R (chain R) strategy) store s) k (loop_comes P R (chain R) strategy store s k.sound k.chained k.known)

pub loop_begins : (P : List Tuple) (R : Recorded) (store : Store) (n : ℕ) → IsSound P R → IsChain R (chain R) → AllFit store → IsKnownLoop P R (with_told store (NoEnd n)) (Some (NoEnd n)) (loop_start R (chain R))
loop_begins P R store n sound chained fit = record { calls = n; symptom_is = refl; sound = sound; chained = chained; known = start-known P R (chain R) store fit }
