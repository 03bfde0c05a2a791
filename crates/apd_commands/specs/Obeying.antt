-- What a command needs.
use Rattle.std.specs.Prelude.{ℕ}
use Rattle.apd_term.specs.Named.{IsNamed, TupleIsNamed}
use Rattle.apd_clauses.specs.Clauses.{MayRun}
use Rattle.apd_text.specs.FilterTerms.{FilterIsNamed}
use Rattle.apd_text.specs.Named.{RefusalIsNamed}
use Rattle.apd_commands.specs.declared.commands.Command.{Command}
use Rattle.apd_commands.specs.declared.commands.Command.TheVariants as command

-- a query can be run, and the names of the command are among the first n
abbrev pub CanObey : ℕ → Command → Type 0
CanObey n command.Nothing = Unit {0}
CanObey n command.Quit = Unit {0}
CanObey n (command.Refused r) = RefusalIsNamed n r
CanObey n (command.Query q) = MayRun q.tuple × TupleIsNamed n q.tuple
CanObey n (command.Wrong b k) = Unit {0}
CanObey n (command.Missing b a) = IsNamed n a
CanObey n command.Loop = Unit {0}
CanObey n (command.Trace f) = FilterIsNamed n f
CanObey n command.Known = Unit {0}
