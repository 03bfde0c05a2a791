use Rattle.std.specs.Prelude.{All, take}
use Rattle.apd_answers.specs.Tellers.{TellsNothing}
use Rattle.apd_answers.proofs.tellers.first_told.Given as goal

abbrev pub invariant-places : goal.invariant-places
invariant-places l = All (TellsNothing l.pairs l.atom) (take l.place-index l.places)
