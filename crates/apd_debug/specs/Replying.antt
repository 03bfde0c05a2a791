-- The replies to the questions of a diagnosis: of whoever has one without a line, or else of lines; and what is said to them.
use Rattle.std.specs.Prelude.{◌≡◌, ℕ, suc, List, [], ◌∷◌, Option, None, Some, ⊤}
use Rattle.apd_answers.specs.Dialogue.{Exchange, Turn, asks, goes, ends}
use Rattle.apd_answers.specs.declared.question.Reply.{Reply}
use Rattle.apd_base.specs.Counts.{risen}
use Rattle.apd_console.specs.declared.line.Line.{Line}
use Rattle.apd_lines.specs.Lines.{line_in}
use Rattle.apd_ops.specs.Table.{Table}
use Rattle.apd_oracle.specs.Replies.{spoken_of}
use Rattle.apd_oracle.specs.Waiting.{Replies, marked_by}
use Rattle.apd_oracle.specs.declared.spoken.Spoken.TheVariants as spoken
use Rattle.apd_read.specs.Reader.{Reader}
use Rattle.apd_talk.specs.Speech.{plain}
use Rattle.apd_talk.specs.Utterance.{Utterance}
use Rattle.apd_text.specs.declared.entry.Entry.{Entry}
use Rattle.apd_text.specs.declared.entry.Entry.TheVariants.{Question as Asks, Replied}

-- the exchange has the reply that there is without a line, or else that of the first line; and the rest are the other lines
abbrev pub SaysReply : {names : List (List ℕ)} → Reader names → Table → (List Line → Type 0) → List Line → Exchange → Option Reply → Type 0
SaysReply reader ops rest lines e (Some r) = (r ≡ e.reply) × rest lines
SaysReply reader ops rest [] e None = ⊥
SaysReply reader ops rest (line ∷ lines) e None = (spoken_of e.asked (line_in reader ops line) ≡ spoken.Reply e.reply) × rest lines

-- one more where there is a reply without a line
abbrev pub counted_if : Option Reply → ℕ → ℕ
counted_if None n = n
counted_if (Some r) n = suc n

-- by what someone replies without a line
module _ (replies : Replies) where
  -- each exchange has its reply so, and there is no other line
  abbrev pub SayReplies : {names : List (List ℕ)} → Reader names → Table → List Line → List Exchange → Type 0
  SayReplies reader ops lines [] = lines ≡ []
  SayReplies reader ops lines (e ∷ es) = SaysReply reader ops (λ rest. SayReplies reader ops rest es) lines e (replies.to e.asked.question)

  -- how many of the replies there are without a line
  abbrev pub referred_count : List Exchange → ℕ
  referred_count [] = 0
  referred_count (e ∷ es) = counted_if (replies.to e.asked.question) (referred_count es)

  -- there is no reply without a line to what is asked next
  abbrev pub IsLeft : {S E : Type 0} → Turn S E → Type 0
  IsLeft (asks asked next) = replies.to asked.question ≡ None
  IsLeft (goes s) = ⊤
  IsLeft (ends e) = ⊤

  -- each question is said with its number, and then its reply
  abbrev pub exchanges_said : Table → List (List ℕ) → ℕ → List Exchange → List (Utterance Entry)
  exchanges_said ops names count [] = []
  exchanges_said ops names count (e ∷ es) =
      plain ops names (Asks (risen count) e.asked) ∷ plain ops names (Replied e.reply e.left (marked_by replies.marked (replies.to e.asked.question))) ∷ exchanges_said ops names (risen count) es

-- how many questions were asked then
abbrev pub count_after : ℕ → List Exchange → ℕ
count_after count [] = count
count_after count (e ∷ es) = count_after (risen count) es
