-- A conversation: what is said to each line of an input, and how it ends.
use Rattle.std.specs.Prelude.{ℕ, ◌≡◌, ◌≤◌, List, [], ◌∷◌, ◌++◌, Option, Bool, true, false, if◌then◌else◌}
use Rattle.apd_io.specs.Outside.{Counted, Left}
use Rattle.apd_console.specs.declared.line.Line.{Line}
use Rattle.apd_console.specs.declared.line.LineEnd.{LineEnd}
use Rattle.apd_console.specs.declared.line.LineEnd.TheVariants as line_ends
use Rattle.apd_talk.specs.declared.talk.Ending.{Ending}
use Rattle.apd_talk.specs.declared.talk.Ending.TheVariants.{Done, ReadFault, InputLimit}
use Rattle.apd_talk.specs.declared.talk.Trouble.{Trouble}
use Rattle.apd_talk.specs.declared.talk.Next.{Next}
use Rattle.apd_talk.specs.declared.talk.Next.TheVariants as nexts
use Rattle.apd_console.specs.Lines.{InputEnd, Fails, Close, AtEnd, AtFault, AtLimit, hear}
use Rattle.apd_console.specs.Console.{Kept, Hands, CanFollow, IsOnTime, room_of}
use Rattle.apd_talk.specs.Speech.{is_write_fault}
use Rattle.apd_talk.specs.Utterance.{Utterance, Utters, UttersFront}

-- what is said, and how it ends
pub record Said (E : Type 0) : Type 0 where
  pub utterances : List (Utterance E)
  pub ending : Ending

-- what is said after some utterances
abbrev pub onto : {E : Type 0} → List (Utterance E) → Said E → Said E
onto us said = record { utterances = us ++ said.utterances; ending = said.ending }

-- what is said to one line, the state after it, and whether the conversation ends with it
pub record Step (E S : Type 0) : Type 0 where
  pub utterances : List (Utterance E)
  pub next : S
  pub quits : Bool

-- who talks: the step for each line in each state, and what is said after the last line
pub record Talker (E S : Type 0) : Type 0 where
  pub step : S → Line → Step E S
  pub closing : S → Close → List (Utterance E)

abbrev pub ending_of : Close → Ending
ending_of AtEnd = Done
ending_of AtFault = ReadFault
ending_of AtLimit = InputLimit

-- what is said to these lines and then
abbrev pub run : {E S : Type 0} → Talker E S → S → List Line → Close → Said E
run talker s [] close = record { utterances = talker.closing s close; ending = ending_of close }
run talker s (line ∷ lines) close =
    if (talker.step s line).quits
    then record { utterances = (talker.step s line).utterances; ending = Done }
    else onto (talker.step s line).utterances (run talker (talker.step s line).next lines close)

-- what an input means: with so much room, from these bytes on
abbrev pub Meaning : Type 0 → Type 0
Meaning E = ℕ → List ℕ → InputEnd → Said E

-- what is said to an input
unfoldable pub replies : {E S : Type 0} → Talker E S → S → Meaning E
replies talker s room input ends = run talker s (hear room input ends).lines (hear room input ends).close

-- what an input means after a step
abbrev pub after_step : {E S : Type 0} → Talker E S → Step E S → Meaning E
after_step talker st room input ends =
    if st.quits then record { utterances = st.utterances; ending = Done } else onto st.utterances (replies talker st.next room input ends)

-- a moment of a conversation: the console and its source, the log and its sink, and the counts of faults
pub record Place (E : Type 0) : Type 0 where
  pub console : Kept
  pub left : Left
  pub read_faults : ℕ
  pub log : List E
  pub held : Option (List ℕ)
  pub write_faults : ℕ

abbrev pub at : {E : Type 0} → Kept → Left → ℕ → List E → Option (List ℕ) → ℕ → Place E
at console left read_faults log held write_faults =
    record { console = console; left = left; read_faults = read_faults; log = log; held = held; write_faults = write_faults }

-- from `start` at p to `next` at q: whatever follows, these utterances come first, and nothing failed
pub record Talks {E : Type 0} (start : Meaning E) (p q : Place E) (next : Meaning E) : Type 0 where
  pub heard : List ℕ
  pub hands : Hands p.console q.console p.left q.left heard
  pub on_time : IsOnTime p.console p.left → IsOnTime q.console q.left
  pub utterances : List (Utterance E)
  pub says : Utters p.log q.log p.held q.held utterances
  pub reads : q.read_faults ≡ p.read_faults
  pub writes : q.write_faults ≡ p.write_faults
  pub shrinks : room_of q.console ≤ room_of p.console
  pub goes : (more : List ℕ) (ends : InputEnd) → CanFollow q.console.ended more ends →
      start (room_of p.console) (heard ++ more) ends ≡ onto utterances (next (room_of q.console) more ends)

-- what may follow where a conversation ends so
abbrev pub CanEnd : Ending → Bool → List ℕ → InputEnd → Type 0
CanEnd ReadFault ended more ends = (more ≡ []) × (ends ≡ Fails)
CanEnd Done ended more ends = CanFollow ended more ends
CanEnd InputLimit ended more ends = CanFollow ended more ends

-- an ending by a read that failed, which is counted
abbrev pub is_fault : Ending → Bool
is_fault ReadFault = true
is_fault ending = false

-- from `start` at p the conversation ends so at q, nothing failed but what it ends by, and no read is behind one that gave no byte
pub record Ends {E : Type 0} (start : Meaning E) (p q : Place E) (ending : Ending) : Type 0 where
  pub heard : List ℕ
  pub hands : Hands p.console q.console p.left q.left heard
  pub on_time : IsOnTime p.console p.left → q.left.late ≤ 1
  pub utterances : List (Utterance E)
  pub says : Utters p.log q.log p.held q.held utterances
  pub reads : Counted (is_fault ending) p.read_faults q.read_faults
  pub writes : q.write_faults ≡ p.write_faults
  pub going : ending ≡ ReadFault → q.console.ended ≡ false
  pub none_kept : ending ≡ ReadFault → q.console.kept ≡ []
  pub ends_so : (more : List ℕ) (ends : InputEnd) → CanEnd ending q.console.ended more ends →
      start (room_of p.console) (heard ++ more) ends ≡ record { utterances = utterances; ending = ending }

-- from `start` at p the conversation breaks off at q: what was said is the front of what there was to say
pub record Breaks {E : Type 0} (begun : E → E) (start : Meaning E) (p q : Place E) (trouble : Trouble) : Type 0 where
  pub heard : List ℕ
  pub hands : Hands p.console q.console p.left q.left heard
  pub on_time : IsOnTime p.console p.left → q.left.late ≤ 1
  pub utterances : List (Utterance E)
  pub says : UttersFront begun p.log q.log p.held q.held utterances
  -- ReadFault where the input had failed
  pub way : Ending
  pub reads : Counted (is_fault way) p.read_faults q.read_faults
  pub writes : Counted (is_write_fault trouble) p.write_faults q.write_faults
  pub going : way ≡ ReadFault → q.console.ended ≡ false
  pub none_kept : way ≡ ReadFault → q.console.kept ≡ []
  pub breaks_so : (more : List ℕ) (ends : InputEnd) → CanEnd way q.console.ended more ends →
      (tail : Said E) × (start (room_of p.console) (heard ++ more) ends ≡ onto utterances tail)

-- after a part of a conversation
abbrev pub Continues : {E : Type 0} → Meaning E → Place E → Place E → Meaning E → Next → Type 0
Continues start p q after nexts.Goes = Talks start p q after
Continues start p q after (nexts.Ends ending) = Ends start p q ending

-- what comes after the last line, by why there is none
abbrev pub close_of : LineEnd → Close
close_of line_ends.Ended = AtEnd
close_of line_ends.ReadFault = AtFault
close_of line_ends.InputLimit = AtLimit
close_of line_ends.Memory = AtEnd
