-- Where tuples are in a past.
use Rattle.std.specs.Prelude.{ℕ, List, [], ◌∷◌, map}
use Rattle.apd_unify.specs.declared.store.Cell.{Cell}
use Rattle.apd_past.specs.declared.past.PastCell.{PastCell}
use Rattle.apd_tuples.specs.declared.spots.Fact.{Fact}
use Rattle.apd_tuples.specs.declared.spots.SpotRow.{SpotRow}
use Rattle.apd_tuples.specs.declared.spots.Spot.{Spot}
use Rattle.apd_tuples.specs.Cells.{kept_cell, kept_cells, head_at, goals_at, IsWithin}

-- where a tuple's head and goals are, the moment at which it was kept, and what is known of it
pub record Place : Type 0 where
  pub head : PastCell
  pub goals : List PastCell
  pub moment : ℕ
  pub fact : Fact

-- a spot as functions are given it
abbrev pub spot_at : Spot → Place
spot_at s = record { head = s.head; goals = s.goals.now; moment = s.moment.0; fact = s.fact }

-- a row's spot, whose head and goals stand at its place
abbrev pub spot_in : List PastCell → SpotRow → Place
spot_in cells r = record { head = head_at cells r.has_goals r.at; goals = goals_at cells r.has_goals r.at; moment = r.moment.0; fact = r.fact }

abbrev pub spots_in : List PastCell → List SpotRow → List Place
spots_in cells rows = map (spot_in cells) rows

-- what stands at a row's place is there
abbrev pub IsSpanned : List PastCell → SpotRow → Type 0
IsSpanned cells r = IsWithin cells r.has_goals r.at

abbrev pub AreSpanned : List PastCell → List SpotRow → Type 0
AreSpanned cells [] = Unit {0}
AreSpanned cells (r ∷ rs) = IsSpanned cells r × AreSpanned cells rs

-- where the tuple at a head's cell and at goals' cells is, at a moment, of which this is known
abbrev pub placed : Cell → List Cell → ℕ → Fact → Place
placed head goals m fact = record { head = kept_cell head; goals = kept_cells goals; moment = m; fact = fact }
