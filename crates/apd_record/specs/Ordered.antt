-- In which order boxes and points came about.
use Rattle.std.specs.Prelude.{◌≡◌, ℕ, ◌+◌, ◌<◌, List, Option, Some, None, slice_get, ◌==◌}
use Rattle.std.specs.Bool.{OnTrue}
use Rattle.apd_ports.specs.declared.point.Step.{Step}
use Rattle.apd_boxes.specs.declared.boxes.KeptBox.{KeptBox}
use Rattle.apd_points.specs.declared.kept.KeptPoint.{KeptPoint}
use Rattle.apd_record.specs.declared.order.Order.{Order}
use Rattle.apd_record.specs.Recorded.{first_number, is_step}

-- point number p stands right behind the exit by which it came about, if there is one
abbrev pub IsNext : ℕ → Option Step → Type 0
IsNext p None = Unit {0}
IsNext p (Some s) = p ≡ s.exit.0 + 1

-- each point stands so
abbrev pub AreInTurn : List KeptPoint → Type 0
AreInTurn points = (p : ℕ) (x : KeptPoint) → slice_get points p ≡ Some x → IsNext p x.before

-- each box was called from a point before point p
abbrev pub AreFromBelow : ℕ → List KeptBox → Type 0
AreFromBelow p boxes = (i : ℕ) (b : KeptBox) → slice_get boxes i ≡ Some b → b.from < p

-- each box was called from a later point than those before it
abbrev pub AreRising : List KeptBox → Type 0
AreRising boxes = (i j : ℕ) (b c : KeptBox) → slice_get boxes i ≡ Some b → slice_get boxes j ≡ Some c → i < j → b.from < c.from

-- what is noted of their order is so
pub record IsOrdered (order : Order) (boxes : List KeptBox) (points : List KeptPoint) : Type 0 where
  pub in_turn : OnTrue order.in_turn (AreInTurn points)
  pub rising : OnTrue order.rising (AreRising boxes)
  pub above : OnTrue order.rising (AreFromBelow order.above boxes)

-- the number of the box that was called from the point
abbrev pub kept_child : List KeptBox → ℕ → Option ℕ
kept_child boxes p = first_number (λ (b : KeptBox). b.from == p) 1 boxes

-- the point that followed point p where its goal had exited at point e
abbrev pub kept_follow : List KeptPoint → ℕ → ℕ → Option ℕ
kept_follow points p e = first_number (λ (x : KeptPoint). is_step x.before p e) 0 points
