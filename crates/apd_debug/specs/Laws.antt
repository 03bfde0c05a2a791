-- What holds of every conversation in which a diagnosis goes on.
use Rattle.std.specs.Prelude.{◌≡◌, ℕ, ◌<◌, List, ◌++◌, length, Result, Ok, MatchResult}
use Rattle.apd_answers.specs.Dialogue.{Diagnosis, dialogue}
use Rattle.apd_answers.specs.Going.{Moment as Stage, Reaches, Breaks}
use Rattle.apd_answers.specs.Oracle.{Call}
use Rattle.apd_answers.specs.declared.oracle.AskEnd.{AskEnd}
use Rattle.apd_answers.specs.declared.question.Asked.{Asked}
use Rattle.apd_answers.specs.declared.question.Reply.{Reply}
use Rattle.apd_answers.specs.Store.{Store}
use Rattle.apd_console.specs.Lines.{Close}
use Rattle.apd_console.specs.declared.line.Line.{Line}
use Rattle.apd_debug.specs.Conversing.{Conversing}
use Rattle.apd_debug.specs.Diagnosed.{Diagnosed}
use Rattle.apd_debug.specs.Hearing.{HearsReplies, afterwards, is_quit}
use Rattle.apd_debug.specs.Replying.{IsLeft, SayReplies, count_after, exchanges_said, referred_count}
use Rattle.apd_debug.specs.Stand.{Stand, asking}
use Rattle.apd_debug.specs.Steps.{after_turn, goes_on, most_in_a_row}
use Rattle.apd_lines.specs.Lines.{line_in}
use Rattle.apd_ops.specs.Table.{Table}
use Rattle.apd_oracle.specs.Replies.{spoken_of}
use Rattle.apd_oracle.specs.Waiting.{Replies, turn_at}
use Rattle.apd_read.specs.Reader.{Reader}
use Rattle.apd_talk.specs.Awaiting.{Awaits, after}
use Rattle.apd_talk.specs.Moment.{place}
use Rattle.apd_talk.specs.Talk.{Talker, after_step, onto}
use Rattle.apd_term.specs.Growth.{Grown}
use Rattle.apd_text.specs.Named.{EntryIsNamed}
use Rattle.apd_text.specs.declared.entry.Entry.{Entry}

-- a conversation in which a diagnosis goes on: what is replied without a line, the entry of what is found, the state of the
-- conversation where the diagnosis stands so, and a talker that hears replies where a question waits
pub record Debugging (S D E : Type 0) : Type 0 where
  pub replies : Replies
  pub diagnosis : Diagnosis D E
  pub found : E → Entry
  pub state : Stand D → S
  pub names : List (List ℕ)
  pub reader : Reader names
  pub ops : Table
  pub talker : Talker Entry S
  pub hears : HearsReplies replies diagnosis found state reader ops talker

-- a diagnosis over an oracle came to its end, or broke off
abbrev pub EndsSo : {D E O : Type 0} → Diagnosis D E → (O → Call → O → Type 0) → Stage D O → Store → O → Result E AskEnd → Type 0
EndsSo d step p store to result = MatchResult result (λ e. Reaches d step p store to e) (λ e. Breaks d step p store to e)

module _ {S D E : Type 0} (b : Debugging S D E) where
  -- the replies that there are without a line, and lines that are replies where there is none, make the dialogue with these
  -- replies: each question is said with its number, and then its reply, and the diagnosis goes on as the dialogue does
  abbrev pub LinesMakeTheDialogue : Type 0
  LinesMakeTheDialogue = (replies : List Reply) (store : Store) (s : D) (count : ℕ) (lines : List Line) →
      let x = dialogue b.diagnosis replies store s in
      referred_count b.replies x.exchanges < most_in_a_row → IsLeft b.replies x.turn →
      SayReplies b.replies b.reader b.ops lines x.exchanges → (rest : List Line) (close : Close) →
      after b.talker (goes_on b.replies b.diagnosis b.found b.state b.ops b.names store count s) (lines ++ rest) close
      ≡ onto (exchanges_said b.replies b.ops b.names count x.exchanges)
      (after b.talker (after_turn b.diagnosis b.found b.state b.ops b.names x.store (count_after count x.exchanges) x.turn) rest close)

  -- where a question waits, each line is a turn: it is answered and the question stands, or it is followed by what comes after
  -- the question
  abbrev pub LinesAreTurns : Type 0
  LinesAreTurns = (k : ℕ) (store : Store) (count : ℕ) (asked : Asked) (next : Reply → D) →
      let later = afterwards b.replies b.diagnosis b.found b.state b.reader b.ops b.talker k store count asked next in
      Awaits b.talker (b.state (asking store count asked next)) (turn_at asked b.ops b.names b.reader later) later.closed

  -- in a reply's place a line ends the session exactly where it is `quit.`
  abbrev pub OnlyQuitEnds : Type 0
  OnlyQuitEnds = (store : Store) (count : ℕ) (asked : Asked) (next : Reply → D) (line : Line) →
      (b.talker.step (b.state (asking store count asked next)) line).quits ≡ is_quit (spoken_of asked (line_in b.reader b.ops line))

  -- however a diagnosis over such an oracle ends, the conversation has come there, with a log of no more entries than it may have;
  -- and what is found is named
  pub record GoesAlong {O : Type 0} {step : O → Call → O → Type 0} (c : Conversing step) (IsKnown : ℕ → Store → D → Type 0) : Type 0 where
    pub course : (p : Stage D O) (store : Store) (to : O) (result : Result E AskEnd) → EndsSo b.diagnosis step p store to result →
        (c.moment p.oracle).spoken.log.ops ≡ b.ops → c.replies p.oracle ≡ b.replies → length (c.moment to).spoken.log.entries.list < most_in_a_row →
        IsKnown (length (c.moment p.oracle).spoken.log.names) p.store p.state → Grown (c.moment to).spoken.log.names b.names →
        Diagnosed b.diagnosis b.found b.state b.ops b.names b.talker (after_step b.talker (goes_on b.replies b.diagnosis b.found b.state b.ops b.names p.store (c.count p.oracle) p.state))
        (place (c.moment p.oracle)) (place (c.moment to)) store (c.count to) result
    pub named : (p : Stage D O) (store : Store) (to : O) (e : E) → EndsSo b.diagnosis step p store to (Ok e) →
        IsKnown (length (c.moment p.oracle).spoken.log.names) p.store p.state → EntryIsNamed (length (c.moment to).spoken.log.names) (b.found e)
