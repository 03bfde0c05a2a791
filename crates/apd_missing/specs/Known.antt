-- What is known of each goal that the diagnosis of a missing answer comes to.
use Rattle.std.specs.Prelude.{◌≡◌, ℕ, ◌<◌, true, Option, Some, None}
use Rattle.apd_term.specs.Term.{Term, IsGround}
use Rattle.apd_term.specs.Substitution.{IsInstance}
use Rattle.apd_arith.specs.Builtins.{builtin_of_atom}
use Rattle.apd_record.specs.declared.rows.BoxRow.{BoxRow}
use Rattle.apd_record.specs.Recorded.{Recorded, box_at}
use Rattle.apd_record.specs.Full.{HasExit}
use Rattle.apd_answers.specs.Fitting.{AllFit}
use Rattle.apd_answers.specs.Store.{Store, SaysYes}
use Rattle.apd_missing.specs.Missing.{Unanswered}

-- the answer is missing in box n: the box is complete, the goal is an atom of the program's without variables and an instance
-- of the call atom, and no exit has it as an instance
pub record IsMissing (R : Recorded) (n : ℕ) (goal : Term) : Type 0 where
  pub row : BoxRow
  pub there : box_at R n ≡ Some row
  pub complete : row.complete ≡ true
  pub of_program : builtin_of_atom goal ≡ None
  pub has_no_variable : IsGround goal
  pub instance : IsInstance goal row.atom
  pub missing : ¬ HasExit R n goal

-- and the store, whose replies fit their questions, says that the goal is true
pub record IsKnown (R : Recorded) (store : Store) (s : Unanswered) : Type 0 where
  pub missing : IsMissing R s.box_no s.goal
  pub says : SaysYes store s.goal
  pub fit : AllFit store

-- there is a next goal, of which as much is known, in a box that was called later
pub record HasNext (R : Recorded) (store : Store) (s : Unanswered) (next : Option Unanswered) : Type 0 where
  pub goal : Unanswered
  pub is : next ≡ Some goal
  pub later : s.box_no < goal.box_no
  pub known : IsKnown R store goal
