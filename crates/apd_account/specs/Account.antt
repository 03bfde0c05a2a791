-- What the log of a session tells, entry by entry: the record of the last run, the symptoms and the replies, and where the
-- diagnoses stand by their definitions.
use Rattle.std.specs.Prelude.{ℕ, List, [], ◌∷◌, Option, None, Some}
use Rattle.apd_causes.specs.declared.run.Query.{Query}
use Rattle.apd_causes.specs.declared.run.Ran.{Ran}
use Rattle.apd_clauses.specs.declared.clause.Clause.{Clause}
use Rattle.apd_clauses.specs.Clauses.{tuples_of}
use Rattle.apd_record.specs.Recorded.{Recorded, empty}
use Rattle.apd_trace.specs.Run.{query_run}
use Rattle.apd_recorded.specs.Told.{record_of}
use Rattle.apd_answers.specs.declared.question.Question.{Question}
use Rattle.apd_answers.specs.declared.question.Question.TheVariants.{True}
use Rattle.apd_answers.specs.declared.question.Reply.{Reply}
use Rattle.apd_answers.specs.declared.question.Reply.TheVariants.{Yes, No}
use Rattle.apd_answers.specs.declared.question.Asked.{Asked}
use Rattle.apd_answers.specs.Dialogue.{Turn, asks, goes, ends}
use Rattle.apd_answers.specs.Store.{Store, with_pair}
use Rattle.apd_divide.specs.declared.node.Strategy.{Strategy}
use Rattle.apd_loop.specs.declared.LoopEnd.{LoopEnd}
use Rattle.apd_text.specs.declared.entry.Told.{Told}
use Rattle.apd_text.specs.declared.entry.Told.TheVariants.{Wrong, Missing, NoEnd}
use Rattle.apd_text.specs.declared.entry.Entry.{Entry}
use Rattle.apd_account.specs.Inquiry.{Inquiry, begun_by, next_in}
use Rattle.apd_account.specs.Telling.{Telling, Runs, Begins, Asks, Replies, Finds, Clears, Breaks, Other, told_by}

-- where the diagnoses stand: none goes on; one is in this state, and its next turn is due; or the reply to a question is, and each
-- reply leads to a state
pub data Stage : Type 0 where
  Idle : Stage
  Moves : Inquiry → Stage
  Awaits : Asked → (Reply → Inquiry) → Stage

-- what the entries so far tell
pub record Account : Type 0 where
  -- the record of the last run that came to its end
  pub history : Recorded
  -- the symptoms and the replies, each with its question, and the predicates that are trusted
  pub store : Store
  -- the last symptom
  pub symptom : Option Told
  pub stage : Stage
  -- what is replied without a line
  pub replies : Question → Option Reply

-- nothing was run, told or asked yet; this is replied without a line, and this is known
abbrev pub account_with : (Question → Option Reply) → Store → Account
account_with replies store = record { history = empty; store = store; symptom = None; stage = Idle; replies = replies }

abbrev pub at_stage : Account → Stage → Account
at_stage a stage = record { history = a.history; store = a.store; symptom = a.symptom; stage = stage; replies = a.replies }

-- the store with what a symptom says: that an atom isn't true, or that it is; that a run doesn't end is no reply
abbrev pub with_told : Store → Told → Store
with_told store (Wrong atom exit) = with_pair store (True atom) No
with_told store (Missing atom box_no) = with_pair store (True atom) Yes
with_told store (NoEnd calls) = store

-- its diagnosis begins
abbrev pub after_told : Account → Told → Account
after_told a what = record { history = a.history; store = with_told a.store what; symptom = Some what; stage = Moves (begun_by a.history what); replies = a.replies }

-- a turn that asks is followed by a reply
abbrev pub after_turn : Turn Inquiry LoopEnd → Stage
after_turn (asks asked next) = Awaits asked next
after_turn (goes q) = Idle
after_turn (ends e) = Idle

-- a reply is one to what waits for it
abbrev pub with_reply : Account → Stage → Reply → Account
with_reply a Idle reply = a
with_reply a (Moves q) reply = a
with_reply a (Awaits asked next) reply =
    record { history = a.history; store = with_pair a.store asked.question reply; symptom = a.symptom; stage = Moves (next reply); replies = a.replies }

module _ (program : List Clause) (strategy : Strategy) where
  -- the record of the run of a query within these limits
  abbrev pub record_within : Query → ℕ → ℕ → Recorded
  record_within q budget answers = record_of (query_run (tuples_of program) q.tuple budget answers).passed

  abbrev pub after_run : Account → Query → ℕ → ℕ → Option Ran → Account
  after_run a q budget answers None = a
  after_run a q budget answers (Some ran) = record { history = record_within q budget answers; store = a.store; symptom = a.symptom; stage = a.stage; replies = a.replies }

  -- a question is that of the turn that is due
  abbrev pub with_question : Account → Stage → Account
  with_question a Idle = a
  with_question a (Moves q) = at_stage a (after_turn (next_in (tuples_of program) strategy a.history a.store q))
  with_question a (Awaits asked next) = a

  abbrev pub after_telling : Account → Telling → Account
  after_telling a (Runs q budget answers end) = after_run a q budget answers end
  after_telling a (Begins what) = after_told a what
  after_telling a (Asks asked) = with_question a a.stage
  after_telling a (Replies reply left by_reference) = with_reply a a.stage reply
  after_telling a (Finds finding) = at_stage a Idle
  after_telling a (Clears calls) = at_stage a Idle
  after_telling a Breaks = at_stage a Idle
  after_telling a Other = a

  -- what an entry adds
  abbrev pub after_entry : Account → Entry → Account
  after_entry a e = after_telling a (told_by e)

  abbrev pub after_entries : Account → List Entry → Account
  after_entries a [] = a
  after_entries a (e ∷ es) = after_entries (after_entry a e) es
