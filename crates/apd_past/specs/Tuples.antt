-- Tuples whose terms stand at cells.
use Rattle.std.specs.Prelude.{◌≡◌, ℕ, ◌<◌, List, [], ◌∷◌, map}
use Rattle.std.specs.List.{fold}
use Rattle.apd_term.specs.Term.{Term, variables}
use Rattle.apd_term.specs.Canonical.{with_new, canonical_in}
use Rattle.apd_term.specs.declared.tuple.Tuple.{Tuple}
use Rattle.apd_cells.specs.Stored.{Stored}
use Rattle.apd_cells.specs.Store.{term_at}
use Rattle.apd_past.specs.declared.past.PastCell.{PastCell}

-- the terms at some cells
abbrev pub terms_at : Stored → List PastCell → List Term
terms_at s cells = map (λ (c : PastCell). term_at s c.0) cells

-- the tuple of the terms at a head's cell and at goals' cells
abbrev pub tuple_at : Stored → ℕ → List PastCell → Tuple
tuple_at s head goals = record { head = term_at s head; body = terms_at s goals }

-- the cells are among the first n
abbrev pub AreInside : ℕ → List PastCell → Type 0
AreInside n [] = Unit {0}
AreInside n (c ∷ cs) = (c.0 < n) × AreInside n cs

-- the term's variables were put into the order, and this is the term with their places for their numbers
pub record IsNumbered (old new : List ℕ) (t r : Term) : Type 0 where
  pub order : new ≡ fold with_new old (variables t)
  pub is : r ≡ canonical_in new t
