-- Points in few bytes: most are told by their own place, and the others are kept whole elsewhere.
use Rattle.std.specs.Prelude.{◌≡◌, ℕ, ◌+◌, ◌-◌, ◌%◌, ◌<◌, ◌≤◌, ◌^◌, ◌==◌, Bool, true, false, if◌then◌else◌, List, [], ◌∷◌, length, map, get_or, All, Option, Some, None}
use Rattle.std.proofs.Common.{zero, suc}
use Rattle.apd_ports.specs.declared.point.Step.{Step}
use Rattle.apd_points.specs.declared.kept.KeptPoint.{KeptPoint}
use Rattle.apd_points.specs.declared.kept.TuplePlace.{TuplePlace}
use Rattle.apd_points.specs.declared.kept.TuplePlace.TheVariants.{Written as Spanned, Kept as Named}
use Rattle.apd_points.specs.declared.packed.PackedPoint.{PackedPoint}
use Rattle.apd_points.specs.declared.packed.WholePoint.{WholePoint}

-- whether a row is that of a point that is kept whole
abbrev pub is_other : PackedPoint → Bool
is_other r = r.clause == 65534

-- the number of a clause, or of a built-in goal, that is kept so
abbrev pub clause_in : ℕ → ℕ
clause_in k = if k == 65535 then 4294967295 else k

-- its lower 16 bits tell the number of a clause, and don't stand for a point that is kept whole
abbrev pub HasPlace : ℕ → Type 0
HasPlace clause = (clause_in (clause % 65536) ≡ clause) × ((clause % 65536 == 65534) ≡ false)

-- the step by which the point at a place came about: it followed the point with this number
abbrev pub step_in : ℕ → Option ℕ → Option Step
step_in place None = None
step_in place (Some n) = Some (record { point = record { 0 = n }; exit = record { 0 = place - 1 } })

-- how a point with this number and so many solved goals came about, at this place
abbrev pub before_in : ℕ → Option ℕ → ℕ → Option Step
before_in place number zero = None
before_in place number (suc done) = step_in place number

-- the point before it among those of its box without solved goals
abbrev pub earlier_in : Option ℕ → ℕ → Option ℕ
earlier_in number zero = number
earlier_in number (suc done) = None

-- what a row tells by its place of a point that came about so
abbrev pub told_as : ℕ → PackedPoint → Option Step → Option ℕ → WholePoint
told_as place r before earlier =
    record {
      point = record {
        owner = r.owner;
        clause = clause_in r.clause;
        done = r.done;
        tuple = Named (record { number = place; goals = r.goals });
        before = before;
      };
      earlier = earlier;
    }

abbrev pub own : ℕ → PackedPoint → WholePoint
own place r = told_as place r (before_in place r.number r.done) (earlier_in r.number r.done)

-- the point that is kept whole at this place, or another
abbrev pub whole_in : List WholePoint → Option ℕ → WholePoint → WholePoint
whole_in others None w = w
whole_in others (Some i) w = get_or others i w

abbrev pub unpacked : List WholePoint → ℕ → PackedPoint → WholePoint
unpacked others place r = if is_other r then whole_in others r.number (own place r) else own place r

-- how many goals a tuple has that isn't written
abbrev pub goals_in : TuplePlace → ℕ
goals_in (Spanned s) = 0
goals_in (Named k) = k.goals

-- the number that a row has for a point that came about so
abbrev pub number_of : Option Step → Option ℕ → Option ℕ
number_of None earlier = earlier
number_of (Some s) earlier = Some s.point.0

abbrev pub HasRoom : Option Step → Type 0
HasRoom None = Unit {0}
HasRoom (Some s) = s.point.0 < 2 ^ 32 - 1

-- the row of a point
abbrev pub row_of : KeptPoint → Option ℕ → PackedPoint
row_of x earlier =
    record {
      owner = x.owner;
      number = number_of x.before earlier;
      clause = x.clause % 65536;
      done = x.done;
      goals = goals_in x.tuple;
    }

-- the row has room for the point's numbers, and tells it at this place
pub record Fits (place : ℕ) (x : KeptPoint) (earlier : Option ℕ) : Type 0 where
  pub told : own place (row_of x earlier) ≡ record { point = x; earlier = earlier }
  pub part : is_other (row_of x earlier) ≡ false
  pub goals : goals_in x.tuple < 256
  pub number : HasRoom x.before

-- the number of a row, where this is before its point
abbrev pub number_behind : Option ℕ → Option ℕ → Option ℕ
number_behind None earlier = earlier
number_behind (Some n) earlier = Some n

-- the row of the same point, where this is before it among those of its box without solved goals
abbrev pub behind : PackedPoint → Option ℕ → PackedPoint
behind r earlier =
    record {
      owner = r.owner;
      number = number_behind r.number earlier;
      clause = r.clause;
      done = r.done;
      goals = r.goals;
    }

-- the row is that of the point that it tells at this place
pub record IsPlaced (place : ℕ) (r : PackedPoint) : Type 0 where
  pub is : row_of (own place r).point None ≡ r
  pub fits : Fits place (own place r).point None

-- rows of which the first has this place
abbrev pub unpacked_from : List WholePoint → ℕ → List PackedPoint → List WholePoint
unpacked_from others place [] = []
unpacked_from others place (r ∷ rs) = unpacked others place r ∷ unpacked_from others (place + 1) rs

-- a place is there, and among the first n
abbrev pub IsPlace : ℕ → Option ℕ → Type 0
IsPlace n None = ⊥
IsPlace n (Some i) = i < n

abbrev pub IsThere : ℕ → PackedPoint → Type 0
IsThere n r = is_other r ≡ true → IsPlace n r.number

pub record IsPacked (rows : List PackedPoint) (others : List WholePoint) : Type 0 where
  pub few : length others ≤ length rows
  pub there : All (IsThere (length others)) rows

-- the points in order, and whether there is room for one more that its row tells, and for any one more
pub record Listed : Type 0 where
  pub rows : List WholePoint
  pub has_row : Bool
  pub has_room : Bool

abbrev pub point_in : WholePoint → KeptPoint
point_in w = w.point

abbrev pub earlier_of_row : WholePoint → Option ℕ
earlier_of_row w = w.earlier

abbrev pub points_of : Listed → List KeptPoint
points_of l = map point_in l.rows

abbrev pub links_of : Listed → List (Option ℕ)
links_of l = map earlier_of_row l.rows
