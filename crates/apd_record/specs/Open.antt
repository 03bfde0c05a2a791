-- A record of a search that goes on: kept tuples stand for terms.
use Rattle.std.specs.Prelude.{ℕ, ◌<◌, ◌≤◌, ◌^◌, Bool, false, Option, None, Some, List, [], ◌∷◌, ◌++◌, length, map}
use Rattle.std.proofs.Common.{zero, suc}
use Rattle.apd_term.specs.Term.{Term, variable}
use Rattle.apd_term.specs.declared.tuple.Tuple.{Tuple}
use Rattle.apd_ports.specs.declared.event.Port.{Port}
use Rattle.apd_ports.specs.declared.point.Point.{Point}
use Rattle.apd_boxes.specs.Boxes.{called_box, kept_passed}
use Rattle.apd_boxes.specs.Owned.{Owned, edited}
use Rattle.apd_boxes.specs.declared.boxes.KeptBox.{KeptBox}
use Rattle.apd_points.specs.declared.kept.KeptPoint.{KeptPoint}
use Rattle.apd_points.specs.declared.kept.TuplePlace.{TuplePlace}
use Rattle.apd_points.specs.declared.kept.TuplePlace.TheVariants.{Written as Spanned, Kept as Named}
use Rattle.apd_tuples.specs.declared.spots.Numbered.{Numbered}
use Rattle.apd_record.specs.declared.held.Holds.{Holds}
use Rattle.apd_record.specs.declared.held.Holds.TheVariants.{Nothing, Row, Whole}
use Rattle.apd_record.specs.declared.ongoing.OpenPoint.{OpenPoint}
use Rattle.apd_record.specs.declared.order.Order.{Order}
use Rattle.apd_record.specs.Index.{IsBelow, IsIndex, IsWithin}
use Rattle.apd_record.specs.Kept.{AreKept, box_from, told}
use Rattle.apd_record.specs.Ordered.{IsOrdered}
use Rattle.apd_record.specs.Recorded.{Recorded}

-- boxes in the order of their calls, and points in the order in which they were made
pub record Rows : Type 0 where
  pub boxes : List KeptBox
  pub points : List KeptPoint

-- the record that they are of, where these tuples were kept
abbrev pub told_by : List Tuple → Rows → Recorded
told_by kept r = told [] [] kept r.boxes r.points

-- each tuple that is named was kept, and has so many goals
abbrev pub AreIn : List Tuple → Rows → Type 0
AreIn kept r = AreKept [] [] kept r.boxes r.points

abbrev pub no_rows : Rows
no_rows = record { boxes = []; points = [] }

-- a box is called for the next goal of point number `from`, which has so many symbols, or 0 where that isn't known
abbrev pub box_row : ℕ → Bool → ℕ → KeptBox
box_row from user size = called_box from size false user

abbrev pub with_box_row : Rows → ℕ → Bool → ℕ → Rows
with_box_row r from user size = record { boxes = r.boxes ++ box_row from user size ∷ []; points = r.points }

abbrev pub point_row : OpenPoint → KeptPoint
point_row p =
    record {
      owner = p.owner;
      clause = p.clause;
      done = p.done;
      tuple = Named p.tuple;
      before = p.before;
    }

-- the point, where this tuple was kept for it
abbrev pub made_point : OpenPoint → Tuple → Point
made_point p t = record { owner = p.owner; clause = p.clause; done = p.done; tuple = t; before = p.before }

abbrev pub with_point_row : Rows → OpenPoint → Rows
with_point_row r p = record { boxes = r.boxes; points = r.points ++ point_row p ∷ [] }

-- the number of a row's tuple
abbrev pub numbered_in : TuplePlace → Numbered
numbered_in (Spanned s) = record { number = 0; goals = 0 }
numbered_in (Named k) = k

-- the point of a row
abbrev pub point_of_row : KeptPoint → OpenPoint
point_of_row x =
    record {
      owner = x.owner;
      clause = x.clause;
      done = x.done;
      tuple = numbered_in x.tuple;
      before = x.before;
    }

-- the point that is held back, where it stands so
abbrev pub held_in : Holds → KeptPoint → Option OpenPoint → Option OpenPoint
held_in Nothing placed whole = None
held_in Row placed whole = Some (point_of_row placed)
held_in Whole placed whole = whole

-- a point that was held back is made
abbrev pub rows_held : Rows → Option OpenPoint → Rows
rows_held r None = r
rows_held r (Some p) = with_point_row r p

-- it may be made
abbrev pub MayAdd : Rows → Option OpenPoint → Type 0
MayAdd r None = Unit {0}
MayAdd r (Some p) = (p.owner ≤ length r.boxes) × IsBelow (length r.points) p.before

-- the port was passed last by box n
abbrev pub noted_row : Rows → ℕ → Port → Rows
noted_row r zero port = r
noted_row r (suc i) port = record { boxes = edited (kept_passed port) r.boxes i; points = r.points }

-- Without the tuples.

abbrev pub variables_for : ℕ → List Term
variables_for zero = []
variables_for (suc n) = variable 0 ∷ variables_for n

abbrev pub blank_tuple : TuplePlace → Tuple
blank_tuple (Spanned s) = record { head = variable 0; body = variables_for s.goals }
blank_tuple (Named k) = record { head = variable 0; body = variables_for k.goals }

abbrev pub blank_point : KeptPoint → Point
blank_point x =
    record {
      owner = x.owner;
      clause = x.clause;
      done = x.done;
      tuple = blank_tuple x.tuple;
      before = x.before;
    }

-- the record with variables for all terms
abbrev pub blanked : Rows → Recorded
blanked r = record { boxes = map (box_from [] []) r.boxes; points = map blank_point r.points }

-- what stands beside the rows is right
pub record IsBeside (r : Rows) (owned : List Owned) (earlier : List (Option ℕ)) (order : Order) : Type 0 where
  pub boxes : length r.boxes < 2 ^ 32
  pub points : length r.points < 2 ^ 32
  pub within : IsWithin (blanked r)
  pub index : IsIndex (blanked r) owned earlier
  pub ordered : IsOrdered order r.boxes r.points
