-- What a call of a dialogue does.
use Rattle.std.specs.Prelude.{ℕ, ◌≡◌, ◌+◌, ◌<◌, ◌≤◌, length, Bool, Option, None, Some, Result, Ok, Err, IfOk}
use Rattle.apd_base.specs.Counts.{Counts, risen}
use Rattle.apd_base.specs.declared.limits.TheConstants.{MOST_NAMES}
use Rattle.apd_answers.specs.Oracle.{Call, is_read_fault, is_write_fault}
use Rattle.apd_answers.specs.Oracle as calls
use Rattle.apd_answers.specs.declared.oracle.AskEnd.{AskEnd}
use Rattle.apd_answers.specs.declared.oracle.AskEnd.TheVariants as ends
use Rattle.apd_answers.specs.Questions.{FitsAsked}
use Rattle.apd_answers.specs.declared.question.Asked.{Asked}
use Rattle.apd_answers.specs.declared.question.Question.{Question}
use Rattle.apd_answers.specs.declared.question.Reply.{Reply}
use Rattle.apd_console.specs.Console.{room_of}
use Rattle.apd_console.specs.Lines.{AtEnd, AtFault, AtLimit}
use Rattle.apd_console.specs.declared.line.LineEnd.{LineEnd}
use Rattle.apd_console.specs.declared.line.LineEnd.TheVariants as line_ends
use Rattle.apd_read.specs.Reader.{Reader}
use Rattle.apd_talk.specs.Awaiting.{Closes, means}
use Rattle.apd_talk.specs.Moment.{Keeps, Moment, place}
use Rattle.apd_talk.specs.Speech.{Lasting, Says, Spoken, Stays, begun, one}
use Rattle.apd_talk.specs.Talk.{Meaning, Place, Talks, Breaks}
use Rattle.apd_talk.specs.declared.talk.Trouble.{Trouble}
use Rattle.apd_talk.specs.declared.talk.Trouble.TheVariants as troubles
use Rattle.apd_term.specs.StandardNames.{standard_names}
use Rattle.apd_text.specs.Named.{QuestionIsNamed, ReplyIsNamed}
use Rattle.apd_text.specs.declared.entry.Entry.{Entry}
use Rattle.apd_text.specs.declared.entry.Entry.TheVariants.{Replied}
use Rattle.apd_oracle.specs.Waiting.{Afterwards, Course, asking, marked_by}

-- the names are there that a line needs: the standard ones, and with the bytes that may still be handed out fewer than may be kept
pub record CanHear (p : Moment) : Type 0 where
  pub room : length p.spoken.log.names + room_of p.console < MOST_NAMES
  pub standard : length standard_names ≤ length p.spoken.log.names

-- from `start` at p a reply or a word was heard at q, no line was left, or the conversation broke off
abbrev pub Hears : Meaning Entry → Place Entry → Place Entry → Afterwards → Result Reply AskEnd → Type 0
Hears start p q after (Ok r) = Talks start p q (means (after.replied r))
Hears start p q after (Err ends.Stopped) = Talks start p q (means after.stopped)
Hears start p q after (Err ends.Quit) = Talks start p q (means after.quit)
Hears start p q after (Err ends.Ended) = Closes start p q AtEnd (after.closed AtEnd)
Hears start p q after (Err ends.ReadFault) = Closes start p q AtFault (after.closed AtFault)
Hears start p q after (Err ends.InputLimit) = Closes start p q AtLimit (after.closed AtLimit)
Hears start p q after (Err ends.WriteFault) = Breaks begun start p q troubles.WriteFault
Hears start p q after (Err ends.Memory) = Breaks begun start p q troubles.Memory

-- the same where there may be a reply without a line
abbrev pub HearsFrom : Option Reply → Meaning Entry → Place Entry → Place Entry → Afterwards → Result Reply AskEnd → Type 0
HearsFrom None start p q after result = Hears start p q after result
HearsFrom (Some reply) start p q after (Ok r) = (r ≡ reply) × Talks start p q (means (after.referred reply))
HearsFrom (Some reply) start p q after (Err end) = Hears start p q after (Err end)

-- the same after one line, where the question may stand
abbrev pub HearsOne : Meaning Entry → Place Entry → Place Entry → Afterwards → Result (Option Reply) AskEnd → Type 0
HearsOne start p q after (Ok None) = Talks start p q start
HearsOne start p q after (Ok (Some r)) = Hears start p q after (Ok r)
HearsOne start p q after (Err end) = Hears start p q after (Err end)

-- whatever names and whatever else come later, the lines from p to q were heard so
abbrev pub Follows : {T : Type 0} → (Meaning Entry → Place Entry → Place Entry → Afterwards → Result T AskEnd → Type 0) → Course → Moment → Moment → Result T AskEnd → Type 0
Follows hears course p q result = Lasting q.spoken.log.names (λ names. (reader : Reader names) (after : Afterwards) →
    hears (means (course p.spoken.log.ops names reader after)) (place p) (place q) after result)

-- why there is no reply, where no line is heard
abbrev pub end_of_line : LineEnd → AskEnd
end_of_line line_ends.Ended = ends.Ended
end_of_line line_ends.ReadFault = ends.ReadFault
end_of_line line_ends.InputLimit = ends.InputLimit
end_of_line line_ends.Memory = ends.Memory

-- why there is no reply, where nothing more can be said
abbrev pub end_of_trouble : Trouble → AskEnd
end_of_trouble troubles.WriteFault = ends.WriteFault
end_of_trouble troubles.Memory = ends.Memory

abbrev pub answer_of : {T : Type 0} → Result T Trouble → Result T AskEnd
answer_of (Ok t) = Ok t
answer_of (Err trouble) = Err (end_of_trouble trouble)

-- where an entry has a place in the log that takes no memory, it has one
abbrev pub KeepsPlace : Spoken → Spoken → Type 0
KeepsPlace p q = 0 < p.log.entries.spare → 0 < q.log.entries.spare

-- the counts of faults over a call
pub record HasFaults {T : Type 0} (p q : Moment) (result : Result T AskEnd) : Type 0 where
  pub read : Counts is_read_fault p.read_faults q.read_faults result
  pub write : Counts is_write_fault p.spoken.write_faults q.spoken.write_faults result

-- from p to q lines were heard so
pub record HasHeard {T : Type 0} (hears : Meaning Entry → Place Entry → Place Entry → Afterwards → Result T AskEnd → Type 0) (course : Course) (p q : Moment) (result : Result T AskEnd) : Type 0 where
  pub keeps : Keeps p q
  pub keeps_place : KeepsPlace p.spoken q.spoken
  pub follows : Follows hears course p q result
  pub faults : HasFaults p q result

-- a reply to what is asked, whose names are among the first n
abbrev pub IsReply : ℕ → Asked → Reply → Type 0
IsReply n asked reply = FitsAsked asked reply × ReplyIsNamed n reply

-- a reply, which the reference program gave or not, is said from p to q, if its names are known
pub record SaysReply (by_reference : Bool) (reply : Reply) (left : Option ℕ) (p q : Spoken) (result : Result (Unit {0}) AskEnd) : Type 0 where
  pub said : Result (Unit {0}) Trouble
  pub answers : result ≡ answer_of said
  pub says : ReplyIsNamed (length p.log.names) reply → Says (one (Replied reply left by_reference)) p q said
  pub stays : Stays p q
  pub keeps_place : KeepsPlace p q
  pub faults : Counts is_write_fault p.write_faults q.write_faults result

-- the console, its source and the count of its faults stay
abbrev pub HearsNothing : Moment → Moment → Type 0
HearsNothing p q = (q.console ≡ p.console) × (q.left ≡ p.left) × (q.read_faults ≡ p.read_faults)

-- how many questions were asked after a call
abbrev pub counted : Call → ℕ → ℕ
counted (calls.asking asked result) count = risen count
counted (calls.telling reply left result) count = count

-- by what someone replies without a line
module _ (replies : Question → Option Reply) where
  -- a call hears and says: a question is said with this number, if its names are known, and gets its reply; or a reply is told
  abbrev pub Acts : Bool → Call → ℕ → Moment → Moment → Type 0
  Acts by_reference (calls.asking asked result) number p q =
      (QuestionIsNamed (length p.spoken.log.names) asked.question → Follows (HearsFrom (replies asked.question)) (asking replies number asked) p q result)
      × (QuestionIsNamed (length p.spoken.log.names) asked.question → IfOk result (IsReply (length q.spoken.log.names) asked))
  Acts by_reference (calls.telling reply left result) number p q = HearsNothing p q × SaysReply by_reference reply left p.spoken q.spoken result

  -- after a call, whether the last reply is marked, where those that are given without a line are or not
  abbrev pub referred : Bool → Call → Bool → Bool
  referred marked (calls.asking asked (Ok reply)) by_reference = marked_by marked (replies asked.question)
  referred marked (calls.asking asked (Err end)) by_reference = by_reference
  referred marked (calls.telling reply left result) by_reference = by_reference

  -- from p to q such a call, where so many questions were asked before, and the last reply is marked or not
  pub record Calls (call : Call) (count : ℕ) (by_reference : Bool) (p q : Moment) : Type 0 where
    pub keeps : Keeps p q
    pub keeps_place : KeepsPlace p.spoken q.spoken
    pub acts : Acts by_reference call (risen count) p q
