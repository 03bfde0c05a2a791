-- How a diagnosis ends in a conversation, and what is said last.
use Rattle.std.specs.Prelude.{◌≡◌, ℕ, List, Bool, true, false, Result, Ok, Err, IfOk, MatchResult}
use Rattle.apd_answers.specs.Dialogue.{Diagnosis, ends}
use Rattle.apd_answers.specs.declared.oracle.AskEnd.{AskEnd}
use Rattle.apd_answers.specs.declared.oracle.AskEnd.TheVariants as ask_ends
use Rattle.apd_answers.specs.Store.{Store}
use Rattle.apd_console.specs.Lines.{Close, AtEnd, AtFault, AtLimit}
use Rattle.apd_debug.specs.Stand.{Stand}
use Rattle.apd_debug.specs.Steps.{after_turn, closing_asked, unanswered}
use Rattle.apd_ops.specs.Table.{Table}
use Rattle.apd_talk.specs.Awaiting.{Closes}
use Rattle.apd_talk.specs.Speech.{Says, Spoken, begun, one}
use Rattle.apd_talk.specs.Talk.{Breaks, Continues, Meaning, Place, Said, Talker, Talks, after_step, ending_of, replies}
use Rattle.apd_talk.specs.declared.talk.Ending.TheVariants as ending
use Rattle.apd_talk.specs.declared.talk.Next.{Next}
use Rattle.apd_talk.specs.declared.talk.Next.TheVariants as nexts
use Rattle.apd_talk.specs.declared.talk.Trouble.{Trouble}
use Rattle.apd_talk.specs.declared.talk.Trouble.TheVariants as troubles
use Rattle.apd_text.specs.declared.entry.Entry.{Entry}
use Rattle.apd_text.specs.declared.entry.Entry.TheVariants as entry

-- what is said where no line is left in a reply's place, and how the session ends then
abbrev pub closed_asked : Table → List (List ℕ) → Close → Said Entry
closed_asked ops names close = record { utterances = closing_asked ops names close; ending = ending_of close }

module _ {S D E : Type 0} (d : Diagnosis D E) (found : E → Entry) (state : Stand D → S) (ops : Table) (names : List (List ℕ)) (talker : Talker Entry S) where
  -- from `start` at p a diagnosis ended so at q, with these pairs kept and so many questions asked; its last entry is still to
  -- be said
  abbrev pub Diagnosed : Meaning Entry → Place Entry → Place Entry → Store → ℕ → Result E AskEnd → Type 0
  Diagnosed start p q store count (Ok e) = Talks start p q (after_step talker (after_turn d found state ops names store count (ends e)))
  Diagnosed start p q store count (Err ask_ends.Stopped) = Talks start p q (after_step talker (unanswered d found state ops names store count false))
  Diagnosed start p q store count (Err ask_ends.Quit) = Talks start p q (after_step talker (unanswered d found state ops names store count true))
  Diagnosed start p q store count (Err ask_ends.Ended) = Closes start p q AtEnd (closed_asked ops names AtEnd)
  Diagnosed start p q store count (Err ask_ends.ReadFault) = Closes start p q AtFault (closed_asked ops names AtFault)
  Diagnosed start p q store count (Err ask_ends.InputLimit) = Closes start p q AtLimit (closed_asked ops names AtLimit)
  Diagnosed start p q store count (Err ask_ends.WriteFault) = Breaks begun start p q troubles.WriteFault
  Diagnosed start p q store count (Err ask_ends.Memory) = Breaks begun start p q troubles.Memory

-- from `start` at p the conversation goes on from this state at q, has ended there, or broke off
abbrev pub GoesOnSo : {S : Type 0} → Talker Entry S → S → Meaning Entry → Place Entry → Place Entry → Result Next Trouble → Type 0
GoesOnSo talker s start p q result = MatchResult result (λ n. Continues start p q (replies talker s) n) (λ t. Breaks begun start p q t)

-- is something said after a diagnosis that ends so?
abbrev pub is_said : AskEnd → Bool
is_said ask_ends.WriteFault = false
is_said ask_ends.Memory = false
is_said end = true

-- the last entry of a diagnosis that ends so without a finding
abbrev pub last_entry : AskEnd → Entry
last_entry ask_ends.Ended = entry.Unanswered false
last_entry ask_ends.ReadFault = entry.InputFault
last_entry ask_ends.InputLimit = entry.InputOver
last_entry end = entry.Unanswered true

-- what comes after it
abbrev pub next_after : AskEnd → Next
next_after ask_ends.Quit = nexts.Ends ending.Done
next_after ask_ends.Ended = nexts.Ends ending.Done
next_after ask_ends.ReadFault = nexts.Ends ending.ReadFault
next_after ask_ends.InputLimit = nexts.Ends ending.InputLimit
next_after end = nexts.Goes

-- why nothing more is said
abbrev pub trouble_of : AskEnd → Trouble
trouble_of ask_ends.WriteFault = troubles.WriteFault
trouble_of end = troubles.Memory

-- the last entry is said where one is, and then the conversation goes on, ends or breaks off as the diagnosis did
abbrev pub SaysEndIf : Bool → AskEnd → Spoken → Spoken → Result Next Trouble → Type 0
SaysEndIf true end p q result = Says (one (last_entry end)) p q result × IfOk result (λ n. n ≡ next_after end)
SaysEndIf false end p q result = (q ≡ p) × (result ≡ Err (trouble_of end))

abbrev pub SaysEnd : AskEnd → Spoken → Spoken → Result Next Trouble → Type 0
SaysEnd end p q result = SaysEndIf (is_said end) end p q result

-- and so where something was found
abbrev pub SaysLast : {E : Type 0} → (E → Entry) → Result E AskEnd → Spoken → Spoken → Result Next Trouble → Type 0
SaysLast found (Ok e) p q result = Says (one (found e)) p q result × IfOk result (λ n. n ≡ nexts.Goes)
SaysLast found (Err end) p q result = SaysEnd end p q result
