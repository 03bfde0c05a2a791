-- Records and proof trees whose names are among the first n names, and proof trees whose labels may be asked about.
use Rattle.std.specs.Prelude.{ℕ, List, [], ◌∷◌}
use Rattle.std.specs.List.{AllByRecursion}
use Rattle.apd_term.specs.Named.{IsNamed, TupleIsNamed}
use Rattle.apd_term.specs.declared.instance.Instance.{Instance}
use Rattle.apd_term.specs.declared.tuple.Tuple.{Tuple}
use Rattle.apd_clauses.specs.Kinds.{IsUserAtom}
use Rattle.apd_divide.specs.Tree.{Tree, Forest, node, bare, beside}
use Rattle.apd_ports.specs.declared.point.Point.{Point}
use Rattle.apd_record.specs.declared.rows.BoxRow.{BoxRow}
use Rattle.apd_record.specs.Recorded.{Recorded}
use Rattle.apd_answers.specs.Store.{Store}
use Rattle.apd_text.specs.Named.{HasStandardNames}

-- the property holds of the instance of each node
abbrev mutual
  pub HoldsInTree : (Tuple → Type 0) → Tree → Type 0
  HoldsInTree Q (node s c t ts) = Q t × HoldsInForest Q ts

  pub HoldsInForest : (Tuple → Type 0) → Forest → Type 0
  HoldsInForest Q bare = Unit {0}
  HoldsInForest Q (beside x xs) = HoldsInTree Q x × HoldsInForest Q xs

-- the instance of each node is named
abbrev pub TreeIsNamed : ℕ → Tree → Type 0
TreeIsNamed n x = HoldsInTree (TupleIsNamed n) x

-- its head is an atom of a program's own predicate
abbrev pub HasOwnHead : Tuple → Type 0
HasOwnHead t = IsUserAtom t.head

-- so is the label of each node
abbrev pub HasOwnLabels : Tree → Type 0
HasOwnLabels x = HoldsInTree HasOwnHead x

-- the instances are named
abbrev pub InstancesAreNamed : ℕ → List Instance → Type 0
InstancesAreNamed n is = AllByRecursion (λ (i : Instance). TupleIsNamed n i.tuple) is

abbrev pub AllPointsNamed : ℕ → List Point → Type 0
AllPointsNamed n [] = Unit {0}
AllPointsNamed n (p ∷ ps) = TupleIsNamed n p.tuple × AllPointsNamed n ps

abbrev pub AllBoxesNamed : ℕ → List BoxRow → Type 0
AllBoxesNamed n [] = Unit {0}
AllBoxesNamed n (b ∷ bs) = IsNamed n b.atom × AllBoxesNamed n bs

-- the instance of each point and the atom of each box are named
pub record RecordIsNamed (n : ℕ) (R : Recorded) : Type 0 where
  pub boxes : AllBoxesNamed n R.boxes
  pub points : AllPointsNamed n R.points

-- a state of the diagnosis of a wrong answer is named and may be asked about, whatever the store keeps, and the words that findings
-- are written with are named
pub record IsKnownTree (n : ℕ) (store : Store) (x : Tree) : Type 0 where
  pub standard : HasStandardNames n
  pub named : TreeIsNamed n x
  pub own : HasOwnLabels x
