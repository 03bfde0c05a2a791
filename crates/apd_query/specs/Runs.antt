-- What is said of a query that is run: its goals, its ports and answers in order, and its end.
use Rattle.std.specs.Prelude.{ℕ, ◌+◌, List, [], ◌∷◌, ◌++◌, Some, if◌then◌else◌}
use Rattle.apd_causes.specs.declared.run.Query.{Query}
use Rattle.apd_clauses.specs.declared.clause.Clause.{Clause}
use Rattle.apd_clauses.specs.Clauses.{tuples_of}
use Rattle.apd_ops.specs.Table.{Table}
use Rattle.apd_ports.specs.declared.filter.Filter.{Filter}
use Rattle.apd_ports.specs.Filter.{Admission, after_event, before_events, is_admitted}
use Rattle.apd_ports.specs.declared.hook.Shown.{Shown}
use Rattle.apd_ports.specs.declared.hook.Shown.TheVariants.{Port, Answer}
use Rattle.apd_trace.specs.Run as runs
use Rattle.apd_text.specs.declared.entry.Entry.{Entry}
use Rattle.apd_text.specs.declared.entry.Entry.TheVariants.{Run}
use Rattle.apd_text.specs.Lines.{head_text, port_text, answer_text, end_text}
use Rattle.apd_talk.specs.Utterance.{Utterance}
use Rattle.apd_recorded.specs.Told.{record_of}
use Rattle.apd_query.specs.declared.state.LastRun.{LastRun}
use Rattle.apd_query.specs.declared.state.State.{State}

-- the line of a port that the filter admits, or of an answer with the number n
abbrev pub one_text : Table → List (List ℕ) → List (List ℕ) → Admission → ℕ → Shown → List ℕ
one_text ops names vars admission n (Port e) = if is_admitted admission e then port_text ops names e else []
one_text ops names vars admission n (Answer a) = answer_text ops names vars n a

-- the filter after this was shown
abbrev pub next_admission : Admission → Shown → Admission
next_admission admission (Port e) = after_event admission e
next_admission admission (Answer a) = admission

abbrev pub next_after : ℕ → Shown → ℕ
next_after n (Port e) = n
next_after n (Answer a) = n + 1

-- the lines of what is shown, the answers numbered from n
abbrev pub shown_text : Table → List (List ℕ) → List (List ℕ) → Admission → ℕ → List Shown → List ℕ
shown_text ops names vars admission n [] = []
shown_text ops names vars admission n (x ∷ xs) =
    one_text ops names vars admission n x ++ shown_text ops names vars (next_admission admission x) (next_after n x) xs

-- the run of a query within these limits
unfoldable pub run_for : List Clause → Query → ℕ → ℕ → runs.Run
run_for program q budget answers = runs.query_run (tuples_of program) q.tuple budget answers

-- within those of a state
abbrev pub run_in : State → Query → runs.Run
run_in s q = run_for s.program q s.budget s.answers

unfoldable pub run_text : Table → List (List ℕ) → Filter → Query → runs.Run → List ℕ
run_text ops names filter q r = head_text ops names q ++ (shown_text ops names q.vars (before_events filter) 1 (runs.shown_of r.passed) ++ end_text (runs.ran_of r))

unfoldable pub run_said : Table → List (List ℕ) → List Clause → Query → ℕ → ℕ → Filter → Utterance Entry
run_said ops names program q budget answers filter =
    record {
      entry = Run q budget answers filter (Some (runs.ran_of (run_for program q budget answers)));
      text = run_text ops names filter q (run_for program q budget answers);
    }

-- the run of a query in a state
abbrev pub said_for : Table → List (List ℕ) → State → Query → Utterance Entry
said_for ops names s q = run_said ops names s.program q s.budget s.answers s.filter

-- a query's run as it is kept: with its record and its end
abbrev pub last_run : State → Query → LastRun
last_run s q = record { query = q; history = record_of (run_in s q).passed; end = (run_in s q).end }
