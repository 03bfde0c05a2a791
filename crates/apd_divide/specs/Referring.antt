-- Labels, instances and goals that are read from the record where they are wanted.
use Rattle.std.specs.Prelude.{◌≡◌, ◌<◌, ℕ, List, length, get_or, Some}
use Rattle.apd_term.specs.Term.{Term, variable, predicate_of, IsGround}
use Rattle.apd_term.specs.Canonical.{canonical}
use Rattle.apd_term.specs.Tuple.{canonical_tuple}
use Rattle.apd_term.specs.declared.term.Pred.{Pred}
use Rattle.apd_term.specs.declared.tuple.Tuple.{Tuple}
use Rattle.apd_record.specs.Recorded.{Recorded}
use Rattle.apd_record.specs.Reading.{point_of}
use Rattle.apd_divide.specs.declared.label.LabelPlace.{LabelPlace}
use Rattle.apd_divide.specs.declared.label.LabelPlace.TheVariants as labels
use Rattle.apd_divide.specs.declared.node_tuple.NodeTuplePlace.{NodeTuplePlace}
use Rattle.apd_divide.specs.declared.node_tuple.NodeTuplePlace.TheVariants as tuples
use Rattle.apd_divide.specs.declared.goals.GoalsPlace.{GoalsPlace}
use Rattle.apd_divide.specs.declared.goals.GoalsPlace.TheVariants as goals

-- a goal of a body by its place
abbrev pub goal_at : List Term → ℕ → Term
goal_at body k = get_or body k (variable 0)

-- no variable stands in the head of an exit, which has the predicate
pub record HasGroundHead (R : Recorded) (e : ℕ) (pred : Pred) : Type 0 where
  pub ground : IsGround (point_of R e).tuple.head
  pub pred_is : predicate_of (point_of R e).tuple.head ≡ Some pred

abbrev pub label_in : LabelPlace → Term
label_in (labels.Recorded recorded exit) = (point_of recorded.now exit.0).tuple.head
label_in (labels.Goal recorded exit place) =
    canonical (goal_at (point_of recorded.now exit.0).tuple.body place)
label_in (labels.Own label) = label

abbrev pub IsLabelThere : LabelPlace → Type 0
IsLabelThere (labels.Recorded recorded exit) = exit.0 < length recorded.now.points
IsLabelThere (labels.Goal recorded exit place) =
    (exit.0 < length recorded.now.points)
    × (place < length (point_of recorded.now exit.0).tuple.body)
IsLabelThere (labels.Own label) = Unit {0}

abbrev pub tuple_in : NodeTuplePlace → Tuple
tuple_in (tuples.Recorded exit pred recorded) = canonical_tuple (point_of recorded.now exit.0).tuple
tuple_in (tuples.Own tuple) = tuple.value

-- the exit is there, and no variable stands in its head, which has the predicate
abbrev pub IsTupleThere : NodeTuplePlace → Type 0
IsTupleThere (tuples.Recorded exit pred recorded) =
    (exit.0 < length recorded.now.points) × HasGroundHead recorded.now exit.0 pred
IsTupleThere (tuples.Own tuple) = Unit {0}

abbrev pub goals_in : GoalsPlace → List Term
goals_in (goals.Recorded recorded exit) =
    (canonical_tuple (point_of recorded.now exit.0).tuple).body
goals_in (goals.Read atoms) = atoms.now

abbrev pub AreGoalsThere : GoalsPlace → Type 0
AreGoalsThere (goals.Recorded recorded exit) = exit.0 < length recorded.now.points
AreGoalsThere (goals.Read atoms) = Unit {0}
