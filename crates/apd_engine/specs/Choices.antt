-- How the choices of a search are kept.
use Rattle.std.specs.Prelude.{ℕ, ◌==◌, if◌then◌else◌}
use Rattle.apd_engine.specs.declared.search.Choice.{Choice}
use Rattle.apd_engine.specs.declared.search.Choice.TheVariants.{Alternatives, Again, Closing, Over}

-- the choice of a box whose next clause has this index; the three greatest numbers stand for the choices without clauses
abbrev pub choice_in : ℕ → ℕ → Choice
choice_in b next =
    if next == 4294967293 then Closing b else (if next == 4294967294 then Over b else (if next == 4294967295 then Again else Alternatives b next))
