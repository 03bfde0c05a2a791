-- What comes next in the diagnosis of a missing answer: a question that is not decided yet, or what was found by the replies.
use Rattle.std.specs.Prelude.{◌≡◌, List, None}
use Rattle.apd_term.specs.declared.tuple.Tuple.{Tuple}
use Rattle.apd_record.specs.Recorded.{Recorded}
use Rattle.apd_answers.specs.declared.question.Reply.{Reply}
use Rattle.apd_answers.specs.declared.question.Asked.{Asked}
use Rattle.apd_answers.specs.declared.finding.Finding.{Finding}
use Rattle.apd_answers.specs.Questions.{FitsAsked}
use Rattle.apd_answers.specs.Store.{Store, decided, with_pair}
use Rattle.apd_answers.specs.Dialogue.{Turn, asks, goes, ends}
use Rattle.apd_answers.specs.Findings.{IsByReplies}
use Rattle.apd_missing.specs.Missing.{Unanswered}
use Rattle.apd_missing.specs.Known.{IsKnown}

-- the question isn't decided by the store, it counts no suspects, and each reply that fits leads to a goal that is as well known
pub record AsksOfGoal (R : Recorded) (store : Store) (asked : Asked) (next : Reply → Unanswered) : Type 0 where
  pub alone : asked.suspects ≡ None
  pub undecided : decided store asked.question ≡ None
  pub known : (reply : Reply) → FitsAsked asked reply → IsKnown R (with_pair store asked.question reply) (next reply)

abbrev pub ComesNext : List Tuple → Recorded → Store → Turn Unanswered Finding → Type 0
ComesNext P R store (asks asked next) = AsksOfGoal R store asked next
ComesNext P R store (goes s) = ⊥
ComesNext P R store (ends finding) = IsByReplies P R store finding
