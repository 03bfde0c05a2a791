-- Moments of a conversation, and what a part of one says and keeps.
use Rattle.std.specs.Prelude.{ℕ, ◌≡◌, ◌+◌, ◌≤◌, List, length, Result, MatchResult}
use Rattle.apd_io.specs.Outside.{Left}
use Rattle.apd_io.specs.declared.source.Source.{Ghosts}
use Rattle.apd_console.specs.Console.{Kept, IsKept, room_of}
use Rattle.apd_talk.specs.Talk.{Meaning, Place, at, Ends, Breaks}
use Rattle.apd_talk.specs.declared.desk.Desk.{Desk}
use Rattle.apd_talk.specs.declared.talk.Ending.{Ending}
use Rattle.apd_talk.specs.declared.talk.Trouble.{Trouble}
use Rattle.apd_ops.specs.Table.{Table}
use Rattle.apd_read.specs.Reader.{Reader}
use Rattle.apd_term.specs.Growth.{Grown}
use Rattle.apd_text.specs.declared.entry.Entry.{Entry}
use Rattle.apd_talk.specs.Speech.{Lasting, Spoken, begun}

-- a moment of a conversation: the console and its source, and what was said by then; and over which references to a console, to a source
-- and to a voice
pub record Moment : Type 0 where
  pub console : Kept
  pub left : Left
  pub read_faults : ℕ
  pub spoken : Spoken
  pub over : ℕ × (ℕ × ℕ)

module _ {S K : Type 0} (source : Ghosts S) where
  abbrev pub moment : Desk S K → Moment
  moment d = record { console = d.console.now; left = source.left d.input.now; read_faults = source.faults d.input.now; spoken = d.voice.now; over = (d.console.ghost_name, (d.input.ghost_name, d.voice.ghost_name)) }

module _ {S : Type 0} (source : Ghosts S) where
  -- the moment at which this was said and a console hands out the rest of a source, over no references
  abbrev pub among : Kept → S → Spoken → Moment
  among console input said = record { console = console; left = source.left input; read_faults = source.faults input; spoken = said; over = (0, (0, 0)) }

-- the moment at which this was said besides
abbrev pub saying : Moment → Spoken → Moment
saying p said = record { console = p.console; left = p.left; read_faults = p.read_faults; spoken = said; over = p.over }

-- the moment without the names and the operators
abbrev pub place : Moment → Place Entry
place p = at p.console p.left p.read_faults p.spoken.log.entries.list p.spoken.held p.spoken.write_faults

-- what a part of a conversation keeps: names are only added, at most one for each byte that is handed out, the operators stay, and the
-- source, the voice, the log and the sink are the same ones
pub record Keeps (p q : Moment) : Type 0 where
  pub names : Grown p.spoken.log.names q.spoken.log.names
  pub few : length q.spoken.log.names + room_of q.console ≤ length p.spoken.log.names + room_of p.console
  pub ops : q.spoken.log.ops ≡ p.spoken.log.ops
  pub over : (q.over ≡ p.over) × (q.spoken.over ≡ p.spoken.over)
  pub sound : IsKept q.console

-- what an input means, by the operators and the names that it is answered with and a reader of texts under these names
abbrev pub Script : Type 0
Script = Table → (names : List (List ℕ)) → Reader names → Meaning Entry

-- from p to q a conversation by this script ended so, or broke off
pub record Converses (script : Script) (p q : Moment) (result : Result Ending Trouble) : Type 0 where
  pub keeps : Keeps p q
  pub course : Lasting q.spoken.log.names (λ names. (reader : Reader names) → MatchResult result
      (λ e. Ends (script p.spoken.log.ops names reader) (place p) (place q) e)
      (λ t. Breaks begun (script p.spoken.log.ops names reader) (place p) (place q) t))
