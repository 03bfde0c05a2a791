-- The goals of a point that are solved, and the exits that solved them.
use Rattle.std.specs.Prelude.{◌≡◌, ◌<◌, ℕ, List, [], ◌∷◌, Some}
use Rattle.apd_term.specs.Term.{Term}
use Rattle.apd_term.specs.Substitution.{IsInstance}
use Rattle.apd_clauses.specs.Clauses.{IsAtom}
use Rattle.apd_ports.specs.declared.point.Point.{Point}
use Rattle.apd_record.specs.Recorded.{Recorded, box_at, point_at, IsExit, is_user_atom}
use Rattle.apd_record.specs.declared.rows.BoxRow.{BoxRow}

-- an atom is an instance of the head of the exit with this number, one below m, of a box of its kind
pub record IsSolvedBy (R : Recorded) (m : ℕ) (a : Term) (x : ℕ) : Type 0 where
  pub point : Point
  pub there : point_at R x ≡ Some point
  pub is_exit : IsExit point
  pub row : BoxRow
  pub row_there : box_at R point.owner ≡ Some row
  pub user : row.is_user ≡ is_user_atom a
  pub atom : IsAtom a
  pub instance : IsInstance a point.tuple.head
  pub earlier : x < m

abbrev pub AreSolved : Recorded → ℕ → List Term → List ℕ → Type 0
AreSolved R m [] [] = Unit {0}
AreSolved R m [] (x ∷ xs) = ⊥
AreSolved R m (a ∷ atoms) [] = ⊥
AreSolved R m (a ∷ atoms) (x ∷ xs) = IsSolvedBy R m a x × AreSolved R m atoms xs
