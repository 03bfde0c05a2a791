-- A diagnosis as a part of a conversation.
use Rattle.std.specs.Prelude.{ℕ, ◌≡◌, List, length, Result, IfOk}
use Rattle.apd_answers.specs.Dialogue.{Diagnosis}
use Rattle.apd_answers.specs.declared.oracle.AskEnd.{AskEnd}
use Rattle.apd_answers.specs.Store.{Store}
use Rattle.apd_debug.specs.Diagnosed.{Diagnosed}
use Rattle.apd_debug.specs.NamedStates.{AreReplies}
use Rattle.apd_oracle.specs.Dialogue.{KeepsPlace}
use Rattle.apd_oracle.specs.Waiting.{Replies}
use Rattle.apd_query.specs.declared.state.State.{State}
use Rattle.apd_read.specs.Reader.{Reader}
use Rattle.apd_talk.specs.Moment.{Keeps, Moment, place}
use Rattle.apd_talk.specs.Speech.{Lasting}
use Rattle.apd_talk.specs.Talk.{after_step}
use Rattle.apd_text.specs.Named.{EntryIsNamed}
use Rattle.apd_session.specs.Steps.{Method, carries_on, first_word, situation, talker}

-- what is kept by the way of a diagnosis: the replies, and how many questions were asked
pub record Answered : Type 0 where
  pub store : Store
  pub asked : ℕ

abbrev pub answered : Store → ℕ → Answered
answered store asked = record { store = store; asked = asked }

module _ {D E : Type 0} (d : Method D E) where
  -- in this state of the session a diagnosis went on from this state of it to its end: what is said last is still to be said
  abbrev pub IsDiagnosed : {names : List (List ℕ)} → Reader names → State → D → Answered → Answered → Moment → Moment → Result E AskEnd → Type 0
  IsDiagnosed {names} reader s x before now p q result =
      Diagnosed (d.diagnosis s) (d.found s) (situation d s) p.spoken.log.ops names (talker reader p.spoken.log.ops)
      (after_step (talker reader p.spoken.log.ops) (carries_on d p.spoken.log.ops names s before.store before.asked x)) (place p) (place q) now.store now.asked result

  -- so it went in each state in which these are the replies without a line and the diagnosis is this one; what it came to has names
  -- that are known, and what it keeps are replies
  pub record Diagnoses (his : Replies) (this : Diagnosis D E) (x : D) (before now : Answered) (p q : Moment) (result : Result E AskEnd) : Type 0 where
    pub keeps : Keeps p q
    pub keeps_place : KeepsPlace p.spoken q.spoken
    pub course : Lasting q.spoken.log.names (λ names. (reader : Reader names) (s : State) → first_word s.referee ≡ his → d.diagnosis s ≡ this → IsDiagnosed reader s x before now p q result)
    pub named : (s : State) → IfOk result (λ e. EntryIsNamed (length q.spoken.log.names) (d.found s e))
    pub replies : AreReplies (length q.spoken.log.names) now.store
