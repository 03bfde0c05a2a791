-- A question that waits for its reply: what the lines that are heard then mean, by what comes after each of them.
use Rattle.std.specs.Prelude.{ℕ, ◌≡◌, ◌≤◌, List, [], ◌∷◌, ◌++◌, false, if◌then◌else◌}
use Rattle.apd_io.specs.Outside.{Counted}
use Rattle.apd_console.specs.declared.line.Line.{Line}
use Rattle.apd_talk.specs.declared.talk.Ending.TheVariants as endings
use Rattle.apd_console.specs.Lines.{InputEnd, Close, AtFault, hear}
use Rattle.apd_console.specs.Console.{Hands, IsOnTime, room_of}
use Rattle.apd_talk.specs.Utterance.{Utterance, Utters}
use Rattle.apd_talk.specs.Talk.{Said, onto, Step, Talker, run, ending_of, Meaning, Place, CanEnd, is_fault}

-- what some lines, and what comes after the last of them, mean
abbrev pub Hearing : Type 0 → Type 0
Hearing E = List Line → Close → Said E

-- what an input means, by the lines that are heard of it
unfoldable pub means : {E : Type 0} → Hearing E → Meaning E
means h room input ends = h (hear room input ends).lines (hear room input ends).close

-- what is said first
abbrev pub says_first : {E : Type 0} → List (Utterance E) → Hearing E → Hearing E
says_first us h lines close = onto us (h lines close)

-- what comes after a line: these are said, and the question stands; or the lines behind it mean this
pub data Turn (E : Type 0) : Type 0 where
  Again : List (Utterance E) → Turn E
  Then : Hearing E → Turn E

-- a turn before some lines, where `stands` is what is said to them if the question stands
abbrev pub take_turn : {E : Type 0} → Turn E → Said E → Hearing E
take_turn (Again us) stands lines close = onto us stands
take_turn (Then h) stands lines close = h lines close

-- lines where a question waits; `closed` tells what is said where no line is left
abbrev pub await : {E : Type 0} → (Line → Turn E) → (Close → Said E) → Hearing E
await turn closed [] close = closed close
await turn closed (line ∷ lines) close = take_turn (turn line) (await turn closed lines close) lines close

-- what some lines mean after a step of a talker
abbrev pub after : {E S : Type 0} → Talker E S → Step E S → Hearing E
after talker st lines close = if st.quits then record { utterances = st.utterances; ending = endings.Done } else onto st.utterances (run talker st.next lines close)

-- a step is a turn: its utterances, and the state stays; or what comes after it
abbrev pub IsTurn : {E S : Type 0} → Talker E S → S → Step E S → Turn E → Type 0
IsTurn talker s st (Again us) = st ≡ record { utterances = us; next = s; quits = false }
IsTurn talker s st (Then h) = (lines : List Line) (close : Close) → after talker st lines close ≡ h lines close

-- in this state a talker takes the turns of a question that waits
pub record Awaits {E S : Type 0} (talker : Talker E S) (s : S) (turn : Line → Turn E) (closed : Close → Said E) : Type 0 where
  pub turns : (line : Line) → IsTurn talker s (talker.step s line) (turn line)
  pub closes : (close : Close) → closed close ≡ record { utterances = talker.closing s close; ending = ending_of close }

-- from `start` at p no line is left at q, and whatever may follow there, these utterances come first and then `said`
pub record Closes {E : Type 0} (start : Meaning E) (p q : Place E) (close : Close) (said : Said E) : Type 0 where
  pub heard : List ℕ
  pub hands : Hands p.console q.console p.left q.left heard
  pub on_time : IsOnTime p.console p.left → q.left.late ≤ 1
  pub utterances : List (Utterance E)
  pub says : Utters p.log q.log p.held q.held utterances
  pub reads : Counted (is_fault (ending_of close)) p.read_faults q.read_faults
  pub writes : q.write_faults ≡ p.write_faults
  pub going : close ≡ AtFault → q.console.ended ≡ false
  pub none_kept : close ≡ AtFault → q.console.kept ≡ []
  pub closes_so : (more : List ℕ) (ends : InputEnd) → CanEnd (ending_of close) q.console.ended more ends →
      start (room_of p.console) (heard ++ more) ends ≡ onto utterances said
