-- What is said: entries of a log, and their texts on a sink.
use Rattle.std.specs.Prelude.{ℕ, ◌≡◌, List, [], ◌∷◌, Bool, true, false, Option, None, Result, OnOk, OnErr}
use Rattle.std.specs.Borrow.{MutBor}
use Rattle.apd_io.specs.Outside.{Counts}
use Rattle.apd_io.specs.declared.sink.Sink.{Ghosts}
use Rattle.apd_talk.specs.Utterance.{Utterance, Utters, UttersFront}
use Rattle.apd_talk.specs.declared.talk.Trouble.{Trouble}
use Rattle.apd_talk.specs.declared.talk.Trouble.TheVariants.{WriteFault, Memory}
use Rattle.apd_ops.specs.Table.{Table}
use Rattle.apd_term.specs.Growth.{Grown}
use Rattle.apd_text.specs.Entries.{text_of}
use Rattle.apd_text.specs.EntryList.{EntryList}
use Rattle.apd_text.specs.declared.entry.Entry.{Entry}
use Rattle.apd_text.specs.declared.entry.Entry.TheVariants.{Run}
use Rattle.apd_text.specs.declared.log.Log.{Log}

-- what was said by a moment: the log, what is known of the sink, and how many writes have failed; and over which references to a log
-- and to a sink
pub record Spoken : Type 0 where
  pub log : Log
  pub held : Option (List ℕ)
  pub write_faults : ℕ
  pub over : ℕ × ℕ

module _ {K : Type 0} (sink : Ghosts K) where
  -- what was said is this log, and this is known of the sink; over no references
  abbrev pub said : Log → K → Spoken
  said log out = record { log = log; held = sink.held out; write_faults = sink.faults out; over = (0, 0) }

  abbrev pub spoken : MutBor Log → MutBor K → Spoken
  spoken log out = record { log = log.now; held = sink.held out.now; write_faults = sink.faults out.now; over = (log.ghost_name, out.ghost_name) }

-- the same with other names
abbrev pub with_names : Spoken → List (List ℕ) → Spoken
with_names p names = record { log = record { names = names; ops = p.log.ops; entries = p.log.entries }; held = p.held; write_faults = p.write_faults; over = p.over }

-- the same with other operators
abbrev pub with_ops : Spoken → Table → Spoken
with_ops p ops = record { log = record { names = p.log.names; ops = ops; entries = p.log.entries }; held = p.held; write_faults = p.write_faults; over = p.over }

-- the same with other entries
abbrev pub with_entries : Spoken → EntryList → Spoken
with_entries p entries = record { log = record { names = p.log.names; ops = p.log.ops; entries = entries }; held = p.held; write_faults = p.write_faults; over = p.over }

-- the same over no references
abbrev pub bare : Spoken → Spoken
bare p = record { log = p.log; held = p.held; write_faults = p.write_faults; over = (0, 0) }

-- an entry whose text follows from it alone
abbrev pub plain : Table → List (List ℕ) → Entry → Utterance Entry
plain ops names entry = record { entry = entry; text = text_of ops names entry }

-- an entry while its text is printed: the end of a run is set when it has ended
abbrev pub begun : Entry → Entry
begun (Run query budget answers filter end) = Run query budget answers filter None
begun entry = entry

-- what is said, by the operators and the names that it is written with
abbrev pub Speech : Type 0
Speech = Table → List (List ℕ) → List (Utterance Entry)

-- one such entry
abbrev pub one : Entry → Speech
one entry ops names = plain ops names entry ∷ []

-- it holds under these names and under all that grow from them
abbrev pub Lasting : List (List ℕ) → (List (List ℕ) → Type 0) → Type 0
Lasting names P = (later : List (List ℕ)) → Grown names later → P later

-- a write that failed is counted
abbrev pub is_write_fault : Trouble → Bool
is_write_fault WriteFault = true
is_write_fault Memory = false

-- the sink's count of faults over a call
abbrev pub HasWriteCause : {T : Type 0} → ℕ → ℕ → Result T Trouble → Type 0
HasWriteCause before now result = Counts is_write_fault before now result

-- the names and the operators stay, and the log and the sink are the same ones
pub record Stays (p q : Spoken) : Type 0 where
  pub names : q.log.names ≡ p.log.names
  pub ops : q.log.ops ≡ p.log.ops
  pub over : q.over ≡ p.over

-- this was said from p to q, whatever names come later: all of it, or at a trouble its front. The log and the sink are the same ones,
-- the names and the operators stay, and the count of failed writes rose where the answer is a write fault, and stayed where it is any other
pub record Says {T : Type 0} (speech : Speech) (p q : Spoken) (result : Result T Trouble) : Type 0 where
  pub all : OnOk result (Lasting p.log.names (λ names. Utters p.log.entries.list q.log.entries.list p.held q.held (speech p.log.ops names)))
  pub front : OnErr result (Lasting p.log.names (λ names. UttersFront begun p.log.entries.list q.log.entries.list p.held q.held (speech p.log.ops names)))
  pub names : q.log.names ≡ p.log.names
  pub ops : q.log.ops ≡ p.log.ops
  pub over : q.over ≡ p.over
  pub cause : HasWriteCause p.write_faults q.write_faults result
