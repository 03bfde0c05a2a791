-- What the lines mean while a question waits for its reply.
use Rattle.std.specs.Prelude.{ℕ, List, [], Bool, false, Option, Some, None}
use Rattle.apd_answers.specs.declared.question.Asked.{Asked}
use Rattle.apd_answers.specs.declared.question.Question.{Question}
use Rattle.apd_answers.specs.declared.question.Reply.{Reply}
use Rattle.apd_console.specs.Lines.{Close}
use Rattle.apd_console.specs.declared.line.Line.{Line}
use Rattle.apd_ops.specs.Table.{Table}
use Rattle.apd_read.specs.Reader.{Reader}
use Rattle.apd_text.specs.declared.entry.Entry.{Entry}
use Rattle.apd_text.specs.declared.entry.Entry.TheVariants.{BadReply, Question as Asks}
use Rattle.apd_talk.specs.Awaiting.{Hearing, Turn, Again, Then, await, says_first}
use Rattle.apd_talk.specs.Speech.{one}
use Rattle.apd_talk.specs.Talk.{Said}
use Rattle.apd_lines.specs.Lines.{line_in}
use Rattle.apd_oracle.specs.Replies.{spoken_of}
use Rattle.apd_oracle.specs.declared.spoken.Spoken.{Spoken}
use Rattle.apd_oracle.specs.declared.spoken.Spoken.TheVariants as spoken

-- what someone replies without a line: the reply to each question, if he has one; and whether these are marked as a reference
-- program's
pub record Replies : Type 0 where
  pub to : Question → Option Reply
  pub marked : Bool

abbrev pub replying : (Question → Option Reply) → Bool → Replies
replying to marked = record { to = to; marked = marked }

-- whether the reply that there is without a line is marked; where there is none, it isn't
abbrev pub marked_by : Bool → Option Reply → Bool
marked_by marked None = false
marked_by marked (Some reply) = marked

-- what comes after a question: after each reply of a line, after one that there is without a line, after the words that stop the
-- diagnosis or end the session, and where no line is left
pub record Afterwards : Type 0 where
  pub replied : Reply → Hearing Entry
  pub referred : Reply → Hearing Entry
  pub stopped : Hearing Entry
  pub quit : Hearing Entry
  pub closed : Close → Said Entry

-- a reply or a word goes on so; a line that is neither is refused, and the question stands; nothing is said to a line without a token
abbrev pub turn_of : Table → List (List ℕ) → Afterwards → Spoken → Turn Entry
turn_of ops names after spoken.Nothing = Again []
turn_of ops names after (spoken.Reply r) = Then (after.replied r)
turn_of ops names after spoken.Stop = Then after.stopped
turn_of ops names after spoken.Quit = Then after.quit
turn_of ops names after (spoken.Bad reason) = Again (one (BadReply reason) ops names)

-- what the lines mean, by the operators and the names that they are answered with, a reader of texts under these names, and what
-- comes afterwards
abbrev pub Course : Type 0
Course = Table → (names : List (List ℕ)) → Reader names → Afterwards → Hearing Entry

abbrev pub turn_at : Asked → Table → (names : List (List ℕ)) → Reader names → Afterwards → Line → Turn Entry
turn_at asked ops names reader after line = turn_of ops names after (spoken_of asked (line_in reader ops line))

-- what is asked waits for its reply
abbrev pub waiting : Asked → Course
waiting asked ops names reader after = await (turn_at asked ops names reader after) after.closed

-- what is asked gets a reply that there is without a line; else it waits
abbrev pub answering : Option Reply → Asked → Course
answering None asked ops names reader after = waiting asked ops names reader after
answering (Some reply) asked ops names reader after = after.referred reply

-- the question is said, and gets the reply that someone has to it, if he has one; else it waits
abbrev pub asking : (Question → Option Reply) → ℕ → Asked → Course
asking replies number asked ops names reader after = says_first (one (Asks number asked) ops names) (answering (replies asked.question) asked ops names reader after)
