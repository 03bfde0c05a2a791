-- What a log that holds says of the program: each finding is a bug where the replies and the trust are true.
use Rattle.std.specs.Prelude.{◌≡◌, ℕ, ◌+◌, List, [], ◌∷◌, Option, None, Some, ⊤, All}
use Rattle.apd_causes.specs.declared.run.Query.{Query}
use Rattle.apd_clauses.specs.declared.clause.Clause.{Clause}
use Rattle.apd_clauses.specs.Clauses.{IsAtom, tuples_of}
use Rattle.apd_record.specs.Recorded.{chain}
use Rattle.apd_answers.specs.Bugs.{IsBug}
use Rattle.apd_answers.specs.Findings.{AllDescendByReplies, Descends, IsByReplies}
use Rattle.apd_answers.specs.Interpretation.{Interpretation}
use Rattle.apd_answers.specs.Store.{Store}
use Rattle.apd_answers.specs.Trust.{AreTrue}
use Rattle.apd_answers.specs.declared.finding.Finding.{Finding}
use Rattle.apd_loop.specs.Loop.{calls_in}
use Rattle.apd_claims.specs.declared.claim.Claim.{Claim}
use Rattle.apd_claims.specs.declared.claim.Claim.TheVariants.{Runs, Finds, Descends as DescendsSo}
use Rattle.apd_check.specs.declared.state.LogState.{LogState}
use Rattle.apd_check.specs.Checked.{after_line, found_on}
use Rattle.apd_claims.specs.Saying.{Said}

module _ (program : List Clause) (m : Interpretation) (known : Store) where
  -- a finding follows from the replies so far, and is a bug where what is known in the end is true
  pub record IsBugFound (s : LogState) (finding : Finding) : Type 0 where
    pub by_replies : IsByReplies (tuples_of program) s.history s.known finding
    pub bug : AreTrue (tuples_of program) m known → IsBug (tuples_of program) s.history m finding

  -- each call of the run's chain is below the one before by the replies so far, and is so where what is known in the end is true
  pub record IsDescentFound (s : LogState) : Type 0 where
    pub by_replies : AllDescendByReplies s.known (calls_in s.history (chain s.history))
    pub descends : AreTrue (tuples_of program) m known → Descends m (calls_in s.history (chain s.history))

  abbrev pub IsRight : LogState → Claim → Type 0
  IsRight s (Finds finding line) = IsBugFound s finding
  IsRight s (DescendsSo calls) = IsDescentFound s
  IsRight s claim = ⊤

  -- the line of a call, parted at some place, says a finding that is a bug
  abbrev pub IsRightSomewhere : LogState → (ℕ → Option Claim) → Type 0
  IsRightSomewhere s parted = (place : ℕ) × (finding : Finding) × (line : ℕ) × (parted place ≡ Some (Finds finding line)) × IsBugFound s finding

  abbrev pub IsRightBy : LogState → Claim → Option (ℕ → Option Claim) → Type 0
  IsRightBy s claim None = IsRight s claim
  IsRightBy s claim (Some parted) = IsRightSomewhere s parted

  abbrev pub AreRight : LogState → List Said → Type 0
  AreRight s [] = ⊤
  AreRight s (x ∷ xs) = IsRightBy s x.claim x.parted × AreRight (after_line program s x) xs

-- the goals of a query are atoms
abbrev pub AsksAtoms : Query → Type 0
AsksAtoms q = All IsAtom q.tuple.body

abbrev pub RunsAtoms : Claim → Type 0
RunsAtoms (Runs q) = AsksAtoms q
RunsAtoms claim = ⊤

abbrev pub AllRunAtoms : List Said → Type 0
AllRunAtoms [] = ⊤
AllRunAtoms (x ∷ xs) = RunsAtoms x.claim × AllRunAtoms xs

-- how many findings are said
abbrev pub findings_in : List Said → ℕ
findings_in [] = 0
findings_in (x ∷ xs) = found_on x + findings_in xs
