-- What can be said: what a line says can be made again, and told.
use Rattle.std.specs.Prelude.{◌≡◌, ℕ, true, false, List, [], ◌∷◌}
use Rattle.apd_causes.specs.declared.run.Ran.{Ran}
use Rattle.apd_clauses.specs.Clauses.{MayRun}
use Rattle.apd_answers.specs.Questions.{Fits}
use Rattle.apd_claims.specs.Forms.{is_shown}
use Rattle.apd_claims.specs.Saying.{is_candidate}
use Rattle.apd_claims.specs.declared.claim.Claim.{Claim}
use Rattle.apd_claims.specs.declared.claim.Claim.TheVariants.{Runs, Ends, Tells}
use Rattle.apd_claims.specs.declared.form.LineForm.{LineForm}
use Rattle.apd_claims.specs.declared.form.LineForm.TheVariants.{End}

-- the first of the lines, if there is one, isn't that of a candidate
abbrev pub BeginsWithNone : List (List ℕ) → Type 0
BeginsWithNone [] = Unit {0}
BeginsWithNone (line ∷ lines) = is_candidate line ≡ false

-- a run that a session may have made
abbrev pub IsShown : Ran → Type 0
IsShown ran = is_shown ran.end ran.ports ran.answers ≡ true

abbrev pub FormIsSayable : LineForm → Type 0
FormIsSayable (End ran) = IsShown ran
FormIsSayable form = Unit {0}

-- the query can be run, the run may have been shown, and the reply fits its question
abbrev pub IsSayable : Claim → Type 0
IsSayable (Runs q) = MayRun q.tuple
IsSayable (Ends ran) = IsShown ran
IsSayable (Tells question reply) = Fits question reply
IsSayable claim = Unit {0}
