-- Tuples that stand in a past.
use Rattle.std.specs.Prelude.{◌≡◌, ◌<◌, ◌≤◌, List, [], ◌∷◌, length, map, slice_get, Some}
use Rattle.apd_term.specs.Tuple.{canonical_tuple, variables_of_tuple}
use Rattle.apd_term.specs.declared.tuple.Tuple.{Tuple}
use Rattle.apd_unify.specs.declared.store.Cell.{Cell}
use Rattle.apd_cells.specs.Stored.{Stored}
use Rattle.apd_cells.specs.Store.{term_at}
use Rattle.apd_past.specs.History.{History, at_moment}
use Rattle.apd_past.specs.Tuples.{AreInside, tuple_at}
use Rattle.apd_tuples.specs.declared.spots.Fact.{Fact}
use Rattle.apd_tuples.specs.declared.spots.Fact.TheVariants.{Nothing, Ground}
use Rattle.apd_tuples.specs.declared.spots.Numbered.{Numbered}
use Rattle.apd_tuples.specs.Spots.{Place}

-- the tuple as it was when it was kept, in canonical form
abbrev pub kept_tuple : History → Place → Tuple
kept_tuple h p = canonical_tuple (tuple_at (at_moment p.moment h) p.head.0 p.goals)

abbrev pub kept_tuples : History → List Place → List Tuple
kept_tuples h ps = map (kept_tuple h) ps

-- the tuple at a head's cell and at goals' cells of a store
abbrev pub tuple_of : Stored → Cell → List Cell → Tuple
tuple_of s head goals = record { head = term_at s head.0; body = map (λ (c : Cell). term_at s c.0) goals }

-- the kept tuple with this number is there, and has so many goals
pub record IsNumbered (kept : List Tuple) (k : Numbered) : Type 0 where
  pub tuple : Tuple
  pub there : slice_get kept k.number ≡ Some tuple
  pub goals : k.goals ≡ length tuple.body

-- what is known of a tuple is so
abbrev pub Holds : Fact → Tuple → Type 0
Holds Nothing t = Unit {0}
Holds Ground t = variables_of_tuple t ≡ []

-- its moment and its cells were there, and what is known of it is so
pub record IsThere (h : History) (p : Place) : Type 0 where
  pub moment : p.moment ≤ h.moments
  pub head : p.head.0 < length h.cells
  pub goals : AreInside (length h.cells) p.goals
  pub fact : Holds p.fact (kept_tuple h p)

abbrev pub AreThere : History → List Place → Type 0
AreThere h [] = Unit {0}
AreThere h (p ∷ ps) = IsThere h p × AreThere h ps
