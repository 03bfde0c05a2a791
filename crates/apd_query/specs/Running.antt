-- The parts of a query's run, as they are said one after another.
use Rattle.std.specs.Prelude.{ℕ, ◌≡◌, ◌≤◌, ◌⊎◌, List, [], ◌∷◌, ◌++◌, length, None, IfSome}
use Rattle.apd_clauses.specs.Clauses.{MayRun, tuples_of}
use Rattle.apd_words.specs.Words.{AreLimits}
use Rattle.apd_record.specs.Full.{IsFull}
use Rattle.apd_record.specs.Recorded.{Recorded}
use Rattle.apd_record.specs.Sound.{IsSound}
use Rattle.apd_recorded.specs.Told.{record_of}
use Rattle.apd_console.specs.Print.{AddsFront}
use Rattle.apd_io.specs.Outside.{Adds}
use Rattle.apd_trace.specs.Run.{shown_of}
use Rattle.apd_causes.specs.declared.run.Query.{Query}
use Rattle.apd_text.specs.declared.entry.Entry.{Entry}
use Rattle.apd_text.specs.declared.entry.Entry.TheVariants.{Run}
use Rattle.apd_text.specs.Lines.{head_text}
use Rattle.apd_ops.specs.Table.{Table}
use Rattle.apd_ports.specs.Filter.{before_events}
use Rattle.apd_term.specs.Named.{AllTuplesNamed, TupleIsNamed}
use Rattle.apd_term.specs.StandardNames.{standard_names}
use Rattle.apd_query.specs.Runs.{run_in, shown_text}
use Rattle.apd_talk.specs.Speech.{Spoken}
use Rattle.apd_query.specs.declared.state.LastRun.{LastRun}
use Rattle.apd_query.specs.declared.state.State.{State}

-- the record of the query's run: sound for the program, and full at each complete box
pub record IsRecordOf (s : State) (q : Query) (history : Recorded) : Type 0 where
  pub is : history ≡ record_of (run_in s q).passed
  pub sound : IsSound (tuples_of s.program) history
  pub full : IsFull (tuples_of s.program) history

-- the run is that of its query, whose names are among the first n
pub record IsRunOf (n : ℕ) (s : State) (run : LastRun) : Type 0 where
  pub runnable : MayRun run.query.tuple
  pub named : TupleIsNamed n run.query.tuple
  pub history : IsRecordOf s run.query run.history
  pub end : run.end ≡ (run_in s run.query).end

-- a state's limits are from 1 to 1,000,000, the standard names and those of its program are among the first n, and the run that
-- it keeps is one of its program within its limits
pub record IsReady (n : ℕ) (s : State) : Type 0 where
  pub limits : AreLimits s.budget s.answers
  pub standard : length standard_names ≤ n
  pub named : AllTuplesNamed n (tuples_of s.program)
  pub last : IfSome s.last (IsRunOf n s)

-- the entry of a run before its end is set
abbrev pub entered : State → Query → Entry
entered s q = Run q s.budget s.answers s.filter None

-- the lines of its ports and answers
abbrev pub lines_of : Table → List (List ℕ) → State → Query → List ℕ
lines_of ops names s q = shown_text ops names q.vars (before_events s.filter) 1 (shown_of (run_in s q).passed)

-- the entry of the run stands, and its first line was printed
abbrev pub Begins : State → Query → Spoken → Spoken → Type 0
Begins s q p r = (r.log.entries.list ≡ p.log.entries.list ++ entered s q ∷ []) × Adds p.held r.held (head_text p.log.ops p.log.names q)

-- nothing was said, or the entry of the run stands and the front of its first line was printed
abbrev pub BeginsFront : State → Query → Spoken → Spoken → Type 0
BeginsFront s q p r =
    ((r.log.entries.list ≡ p.log.entries.list) × (r.held ≡ p.held))
    ⊎ ((r.log.entries.list ≡ p.log.entries.list ++ entered s q ∷ []) × AddsFront p.held r.held (head_text p.log.ops p.log.names q))
