-- The run of a query by a program.
use Rattle.std.specs.Prelude.{ℕ, List}
use Rattle.apd_causes.specs.declared.run.Query.{Query}
use Rattle.apd_clauses.specs.declared.clause.Clause.{Clause}
use Rattle.apd_clauses.specs.Clauses.{tuples_of}
use Rattle.apd_trace.specs.Run.{Run, query_run}

-- the run of a query within a budget of ports and a number of answers
abbrev pub run_for : List Clause → Query → ℕ → ℕ → Run
run_for program query budget answers = query_run (tuples_of program) query.tuple budget answers
