-- What an attempt at a goal came to.
use Rattle.std.specs.Prelude.{◌≡◌, ℕ, List, ◌∷◌, Option, Some, None}
use Rattle.apd_term.specs.Term.{Term}
use Rattle.apd_unify.specs.Unifier.{IsAnswer}
use Rattle.apd_trace.specs.BuiltIn.{Solution, of_program, faulted, failed, solved, built}
use Rattle.apd_trace.specs.Frames.{under}
use Rattle.apd_trace.specs.declared.frame.Called.{Called}
use Rattle.apd_trace.specs.declared.frame.Frame.{Frame}
use Rattle.apd_trace.specs.declared.frame.Outcome.{Outcome}
use Rattle.apd_trace.specs.declared.frame.Outcome.TheVariants.{User, Faults, Fails, Succeeds, Equates}
use Rattle.apd_by_definition.specs.declared.engine.goals.Attempt.{Attempt}
use Rattle.apd_by_definition.specs.declared.engine.goals.Attempt.TheVariants.{Program, Fault, Failed, Entered}
use Rattle.apd_trace.specs.Renaming.{IsBelow}

abbrev pub solution_in : Attempt → Solution
solution_in Program = of_program
solution_in (Fault e) = faulted e
solution_in Failed = failed
solution_in (Entered F) = solved F

abbrev pub IsAttemptBelow : ℕ → Attempt → Type 0
IsAttemptBelow n Program = Unit {0}
IsAttemptBelow n (Fault e) = Unit {0}
IsAttemptBelow n Failed = Unit {0}
IsAttemptBelow n (Entered F) = IsBelow n F

-- the frames under some answer on the two terms
abbrev pub IsUnder : Term → Term → List Frame → Option (List Frame) → Type 0
IsUnder a b F o = (x : Option (List (ℕ × Term))) × IsAnswer a b x × (o ≡ under x F)

-- the frames are entered, or there are none
abbrev pub attempt_of : Option (List Frame) → Attempt
attempt_of None = Failed
attempt_of (Some F) = Entered F

-- an attempt at the goal a, of which this comes
abbrev pub IsAttempt : Outcome → Term → List Frame → Called → ℕ → Attempt → Type 0
IsAttempt User a F g m t = t ≡ Program
IsAttempt (Faults e) a F g m t = t ≡ Fault e
IsAttempt Fails a F g m t = t ≡ Failed
IsAttempt Succeeds a F g m t = t ≡ Entered (built g a m ∷ F)
IsAttempt (Equates l r) a F g m t = (o : Option (List Frame)) × IsUnder l r (built g a m ∷ F) o × (t ≡ attempt_of o)
