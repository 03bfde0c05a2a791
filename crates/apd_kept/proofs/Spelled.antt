-- A term whose symbols have their numbers in range.
use Rattle.std.proofs.Common.{List, [], ◌∷◌, ◌++◌}
use Rattle.std.specs.List.{AllByRecursion}
use Rattle.apd_reading_back.specs.Law.{AreInRange, IsInRange}
use Rattle.apd_term.specs.Term.{Term, Terms, compound, integer, more, none, spell, spell_all, variable}
use Rattle.apd_term.specs.declared.term.Sym.{Sym}
use Rattle.apd_kept.specs.Ranges.{IsSymbol}

both : (ss rest : List Sym) → AllByRecursion IsSymbol (ss ++ rest) → AllByRecursion IsSymbol ss × AllByRecursion IsSymbol rest
both [] rest are = (tt, are)
both (s ∷ ss) rest are = let b = both ss rest are.1 in ((are.0, b.0), b.1)

mutual
  pub in_range : (t : Term) → AllByRecursion IsSymbol (spell t) → IsInRange t
  in_range (variable v) are = are.0
  in_range (integer i) are = are.0
  in_range (compound f ts) are = (are.0, all_in_range ts are.1)

  all_in_range : (ts : Terms) → AllByRecursion IsSymbol (spell_all ts) → AreInRange ts
  all_in_range none are = tt
  all_in_range (more t ts) are = let b = both (spell t) (spell_all ts) are in (in_range t b.0, all_in_range ts b.1)
