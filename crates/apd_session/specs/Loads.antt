-- Which files a session loads, and in which order.
use Rattle.std.specs.Prelude.{ℕ, List, [], ◌∷◌, ◌++◌, take, Option, None, Some}
use Rattle.apd_io.specs.Outside.{LoadsInTurn}
use Rattle.apd_words.specs.Words.{Options}
use Rattle.apd_session.specs.Roles.{KnownReplies, Log, Program, Reference, file_of}

-- the one name, where there is one
abbrev pub named : Option (List ℕ) → List (List ℕ)
named None = []
named (Some name) = name ∷ []

-- behind the program's file, those that options name: that of known replies, the reference program's, and that of a log
abbrev pub further_files : Options → List (List ℕ)
further_files o = named (file_of o KnownReplies) ++ (named (file_of o Reference) ++ named (file_of o Log))

-- the files that the words name, in the order in which they are loaded
abbrev pub files_named : Option Options → List (List ℕ)
files_named None = []
files_named (Some o) = named (file_of o Program) ++ further_files o

-- from some files to those after loads of the first of these names, in this order and of no others; `step` is one load
pub record LoadsFront {T : Type 0} (step : T → List ℕ → T → Type 0) (names : List (List ℕ)) (before after : T) : Type 0 where
  pub count : ℕ
  pub loads : LoadsInTurn step before (take count names) after
