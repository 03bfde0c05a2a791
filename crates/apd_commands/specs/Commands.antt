-- What a line in a command's place asks for.
use Rattle.std.specs.Prelude.{ℕ, ℤ, List, slice_get, if◌then◌else◌, Option, None, Some, Result, Ok, Err}
use Rattle.std.specs.Option.{option_and_then}
use Rattle.apd_term.specs.Term.{Term, variable, integer, compound, arguments, predicate_of}
use Rattle.apd_term.specs.declared.standard.TheConstants.{KNOWN, LOOP, MISSING, QUERY, QUIT, TRACE, WRONG}
use Rattle.apd_causes.specs.declared.faults.BodyFault.{BodyFault}
use Rattle.apd_causes.specs.declared.reading.Read.{Read}
use Rattle.apd_causes.specs.declared.run.Query.{Query}
use Rattle.apd_term.specs.declared.term.Pred.{Pred}
use Rattle.apd_ops.specs.Table.{Table}
use Rattle.apd_read.specs.Reader.{Reader}
use Rattle.apd_clauses.specs.Clauses.{is_pred}
use Rattle.apd_clauses.specs.Kinds.{◌∕◌}
use Rattle.apd_clauses.specs.Queries.{query_from}
use Rattle.apd_console.specs.declared.line.Line.{Line}
use Rattle.apd_lines.specs.Lines.{line_in}
use Rattle.apd_lines.specs.declared.lines.LineRead.{LineRead}
use Rattle.apd_lines.specs.declared.lines.LineRead.TheVariants as lines
use Rattle.apd_text.specs.declared.entry.Refusal.TheVariants as refusal
use Rattle.apd_commands.specs.Filters.{filter_at, trace_asked}
use Rattle.apd_commands.specs.declared.commands.Command.{Command}
use Rattle.apd_commands.specs.declared.commands.Command.TheVariants as command

-- the query that was read, or the first fault of its goals
abbrev pub query_asked : Result Query BodyFault → Command
query_asked (Err fault) = command.Refused (refusal.GoalRefused fault)
query_asked (Ok q) = command.Query q

-- the integer that a term is
abbrev pub integer_of : Term → Option ℤ
integer_of (variable v) = None
integer_of (integer i) = Some i
integer_of (compound f ts) = None

-- the integer that an argument of a term is; the arguments are counted from 0
abbrev pub integer_at : Term → ℕ → Option ℤ
integer_at t i = option_and_then integer_of (slice_get (arguments t) i)

-- the box and the number of its exit in `wrong(B, K)`, where both are integers
abbrev pub wrong_asked : Option ℤ → Option ℤ → Command
wrong_asked (Some b) (Some k) = command.Wrong b k
wrong_asked (Some b) None = command.Refused refusal.NotACommand
wrong_asked None k = command.Refused refusal.NotACommand

-- the box and the atom in `missing(B, A)`, where B is an integer; A may be any term
abbrev pub missing_asked : Option ℤ → Option Term → Command
missing_asked (Some b) (Some a) = command.Missing b a
missing_asked (Some b) None = command.Refused refusal.NotACommand
missing_asked None a = command.Refused refusal.NotACommand

-- what a term of this predicate asks for: `quit`, `?- B`, `wrong(B, K)`, `missing(B, A)`, `loop`, `trace(F)`, or
-- `known`
abbrev pub term_asked : Read → Option Pred → Command
term_asked r p =
    if is_pred p (QUIT ∕ 0) then command.Quit
    else (if is_pred p (QUERY ∕ 1) then query_asked (query_from r)
    else (if is_pred p (WRONG ∕ 2) then wrong_asked (integer_at r.term 0) (integer_at r.term 1)
    else (if is_pred p (MISSING ∕ 2) then missing_asked (integer_at r.term 0) (slice_get (arguments r.term) 1)
    else (if is_pred p (LOOP ∕ 0) then command.Loop
    else (if is_pred p (TRACE ∕ 1) then trace_asked (filter_at r.term)
    else (if is_pred p (KNOWN ∕ 0) then command.Known
    else command.Refused refusal.NotACommand))))))

-- what a line asks for of which this was read; one without a token asks for nothing
abbrev pub command_of : LineRead → Command
command_of lines.Empty = command.Nothing
command_of lines.TooLong = command.Refused refusal.TooLong
command_of (lines.Bad cause) = command.Refused (refusal.Syntax cause)
command_of (lines.Clause r) = term_asked r (predicate_of r.term)

-- what a line in a command's place asks for
unfoldable pub command_in : {names : List (List ℕ)} → Reader names → Table → Line → Command
command_in reader ops line = command_of (line_in reader ops line)
