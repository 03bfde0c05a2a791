-- What is left of the frames where a goal was solved.
use Rattle.std.specs.Prelude.{◌≡◌, ◌⊎◌, List}
use Rattle.apd_trace.specs.BuiltIn.{Solution, of_program, faulted, failed, solved}
use Rattle.apd_trace.specs.declared.frame.Frame.{Frame}
use Rattle.apd_frames.specs.Kept.{Kept}
use Rattle.apd_term.specs.Term.{Term}
use Rattle.apd_unify.specs.Unifier.{HasNoUnifier}
use Rattle.apd_cells.specs.Stored.{Stored}
use Rattle.apd_trace.specs.BuiltIn.{outcome}
use Rattle.apd_trace.specs.declared.frame.Outcome.{Outcome}
use Rattle.apd_trace.specs.declared.frame.Outcome.TheVariants.{User, Faults, Fails, Succeeds, Equates}
use Rattle.apd_frames.specs.Instances.{IsUnited}
use Rattle.apd_frames.specs.declared.builtin.Solved.{Solved}
use Rattle.apd_frames.specs.declared.builtin.Solved.TheVariants.{Program, Fault, Failed, Entered}

-- what came of the goal, with the frames as they are then
abbrev pub solution_as : Solved → List Frame → Solution
solution_as Program F = of_program
solution_as (Fault e) F = faulted e
solution_as Failed F = failed
solution_as Entered F = solved F

-- where no frame was entered nothing changed
abbrev pub Keeps : Solved → Kept → Kept → Type 0
Keeps Program old new = new ≡ old
Keeps (Fault e) old new = new ≡ old
Keeps Failed old new = new ≡ old
Keeps Entered old new = new.saved ≡ old.saved

-- the outcome equates two terms that have no unifier
pub record HasClash (o : Outcome) : Type 0 where
  pub one : Term
  pub other : Term
  pub is : o ≡ Equates one other
  pub none : HasNoUnifier one other

-- the outcome equates two terms, and they were made equal
pub record HasUnited (old new : Stored) (o : Outcome) : Type 0 where
  pub one : Term
  pub other : Term
  pub is : o ≡ Equates one other
  pub united : IsUnited old new one other

-- what came of a goal by its outcome, and what was done in the store
abbrev pub SettlesBy : Outcome → Solved → Stored → Stored → Type 0
SettlesBy o Program old new = (new ≡ old) × (o ≡ User)
SettlesBy o (Fault e) old new = (new ≡ old) × (o ≡ Faults e)
SettlesBy o Failed old new = (new ≡ old) × ((o ≡ Fails) ⊎ HasClash o)
SettlesBy o Entered old new = ((new ≡ old) × (o ≡ Succeeds)) ⊎ HasUnited old new o

-- the same of the goal
abbrev pub Settles : Solved → Stored → Stored → Term → Type 0
Settles r old new goal = SettlesBy (outcome goal) r old new
