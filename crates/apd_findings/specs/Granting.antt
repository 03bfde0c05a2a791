-- Which atoms are true by the store and the record.
use Rattle.std.specs.Prelude.{◌≡◌, ℕ, Bool, true, Some}
use Rattle.apd_term.specs.Term.{Term}
use Rattle.apd_term.specs.Matching.{is_instance}
use Rattle.apd_record.specs.Full.{HasExit}
use Rattle.apd_record.specs.Reading.{point_of}
use Rattle.apd_record.specs.Recorded.{Recorded, box_at}
use Rattle.apd_record.specs.declared.rows.BoxRow.{BoxRow}

-- the atom is an instance of the head of the exit
abbrev pub is_exit_for : Recorded → Term → ℕ → Bool
is_exit_for R a e = is_instance a (point_of R e).tuple.head

-- the box is one of the program's own, and has such an exit
pub record IsAnsweredIn (R : Recorded) (a : Term) (n : ℕ) : Type 0 where
  pub row : BoxRow
  pub there : box_at R n ≡ Some row
  pub user : row.is_user ≡ true
  pub exit : HasExit R n a
