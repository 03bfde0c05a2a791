-- What is kept from line to line, and what a line makes of it.
use Rattle.std.specs.Prelude.{ℕ, ◌≡◌, ⊤, Bool, true, false, List, Option, None, Some, IfSome}
use Rattle.std.specs.Str.{bytes_eq}
use Rattle.apd_ops.specs.Table.{Table}
use Rattle.apd_clauses.specs.Clauses.{MayRun}
use Rattle.apd_clauses.specs.declared.clause.Clause.{Clause}
use Rattle.apd_known.specs.Pairs.{MayAsk}
use Rattle.apd_record.specs.Reading.{call_atom}
use Rattle.apd_record.specs.Recorded.{Recorded}
use Rattle.apd_talk.specs.Speech.{Lasting}
use Rattle.apd_text.specs.Dialogues.{atom_text}
use Rattle.apd_check.specs.Checked.{IsJudged, IsJudgedBy, IsRightDescent, after_by, after_claim, found_by}
use Rattle.apd_claims.specs.declared.claim.Claim.{Claim}
use Rattle.apd_claims.specs.declared.claim.Claim.TheVariants.{Runs, Ends}
use Rattle.apd_check.specs.declared.course.LogCourse.{LogCourse}
use Rattle.apd_check.specs.declared.state.LogState.{LogState}
use Rattle.apd_text.specs.declared.check.Why.{Why}

-- the query can be run, and the question may be asked
pub record IsKept (s : LogState) : Type 0 where
  pub runnable : IfSome s.query (λ q. MayRun q.tuple)
  pub asked : IfSome s.waiting (λ a. MayAsk a.question)

-- the line is good and leads to this state, or it isn't and this is why
abbrev pub Leads : List Clause → LogState → Claim → LogState → Option Why → Type 0
Leads program s claim t None = IsJudged program s claim None × (t ≡ after_claim program s claim)
Leads program s claim t (Some w) = IsJudged program s claim (Some w)

-- where so many calls of the last run's chain are known to descend, they do
abbrev pub KnowsDescent : List Clause → LogState → Option ℕ → Type 0
KnowsDescent program s known = IfSome known (IsRightDescent program s)

-- a line tells of a run, or of its end
abbrev pub is_of_run : Claim → Bool
is_of_run (Runs q) = true
is_of_run (Ends ran) = true
is_of_run claim = false

-- the line is good and leads on, and what is known of the chain is so; or it isn't good and this is why
abbrev pub GoesOn : List Clause → LogCourse → Claim → LogCourse → Option Why → Type 0
GoesOn program c claim d None = Leads program c.state claim d.state None × KnowsDescent program d.state d.descent
GoesOn program c claim d (Some w) = Leads program c.state claim d.state (Some w)

-- the line that says this is good, says so many findings and leads to this state; or it isn't good and this is why
abbrev pub Takes : List Clause → LogState → Claim → Option (ℕ → Option Claim) → LogState → ℕ → Option Why → Type 0
Takes program s claim parted t found None = IsJudgedBy program s claim parted None × (t ≡ after_by program s claim parted) × (found ≡ found_by claim parted)
Takes program s claim parted t found (Some w) = IsJudgedBy program s claim parted (Some w)

-- what is kept behind a good line
abbrev pub Stays : List Clause → LogCourse → Option Why → Type 0
Stays program d None = IsKept d.state × KnowsDescent program d.state d.descent
Stays program d (Some w) = ⊤

-- it is the text of the box's call, whatever names come later
abbrev pub IsCallText : Table → List (List ℕ) → Recorded → ℕ → List ℕ → Type 0
IsCallText ops names R box_no text = Lasting names (λ n. text ≡ atom_text ops n (call_atom R box_no))

-- the text may be this one, where one is known
abbrev pub may_be : Option (List ℕ) → List ℕ → Bool
may_be None text = true
may_be (Some wanted) text = bytes_eq wanted text
