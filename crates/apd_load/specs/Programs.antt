-- What a text makes is a program.
use Rattle.std.specs.Prelude.{⊤}
use Rattle.apd_clauses.specs.Clauses.{IsProgram}
use Rattle.apd_load.specs.Program.{Loads, refused, loads}

-- where a text makes something, it has few enough clauses, and each may be one of a program
abbrev pub IsProgramIn : Loads → Type 0
IsProgramIn (refused line cause) = ⊤
IsProgramIn (loads l) = IsProgram l.program
