use Rattle.std.proofs.Common.{ℕ, List, length}
use Rattle.apd_term.specs.declared.term.Sym.{Sym}
use Rattle.apd_past.specs.History.{bindings_of, HasDoneMore, IsRight}
use Rattle.apd_following.specs.Tied.{IsAhead}
use Rattle.apd_following.proofs.tie.free_newest.Given as goal

abbrev pub invariant-bound : goal.invariant-bound
invariant-bound l = record {
  ahead : IsAhead l.journal l.store;
  right : (cells : List Sym) (n : ℕ) → IsRight cells n l.fn.journal.spans → IsRight cells n l.journal.spans;
  more : HasDoneMore l.fn.journal l.journal;
}

abbrev pub decreases-bound : goal.decreases-bound
decreases-bound l = length (bindings_of l.journal)
