-- The filter that the argument of `trace(F)` tells.
use Rattle.std.specs.Prelude.{ℕ, pos, ◌==◌, ◌&&◌, nat_le, slice_get, Option, None, Some, if◌then◌else◌}
use Rattle.std.specs.Option.{option_map, option_and_then}
use Rattle.apd_term.specs.Listed.{listed_as}
use Rattle.apd_term.specs.Term.{Term, integer, compound, none, more, arguments}
use Rattle.apd_term.specs.declared.term.NameId.{NameId}
use Rattle.apd_term.specs.declared.standard.TheConstants.{ALL, LEAP, OFF, SKIP}
use Rattle.apd_clauses.specs.Indicators.{predicate_from}
use Rattle.apd_ports.specs.declared.filter.Filter.{Filter}
use Rattle.apd_ports.specs.declared.filter.Filter.TheVariants.{Off, All, Leap, Skip}
use Rattle.apd_text.specs.declared.entry.Refusal.TheVariants as refusal
use Rattle.apd_commands.specs.declared.commands.Command.{Command}
use Rattle.apd_commands.specs.declared.commands.Command.TheVariants as command

-- the greatest number that a box may have
abbrev pub most_box : ℕ
most_box = 4294967295

-- a box: an integer from 1 to that number
abbrev pub box_from : Term → Option ℕ
box_from (integer (pos n)) = if nat_le 1 n && nat_le n most_box then Some n else None
box_from t = None

-- the filter that a name without arguments is
abbrev pub filter_named : NameId → Option Filter
filter_named f = if f.0 == OFF.0 then Some Off else (if f.0 == ALL.0 then Some All else None)

-- the filter that a name with one argument is
abbrev pub filter_of : NameId → Term → Option Filter
filter_of f t =
    if f.0 == LEAP.0 then option_map Leap (listed_as predicate_from t)
    else (if f.0 == SKIP.0 then option_map Skip (box_from t) else None)

-- the filter that a term tells: `off`, `all`, `leap` of a list of predicates, or `skip` of a box
abbrev pub filter_from : Term → Option Filter
filter_from (compound f none) = filter_named f
filter_from (compound f (more t none)) = filter_of f t
filter_from t = None

-- what a term `trace(F)` asks for, by the filter that F tells
abbrev pub trace_asked : Option Filter → Command
trace_asked (Some f) = command.Trace f
trace_asked None = command.Refused refusal.NotACommand

-- the filter that the first argument of a term tells
abbrev pub filter_at : Term → Option Filter
filter_at t = option_and_then filter_from (slice_get (arguments t) 0)
