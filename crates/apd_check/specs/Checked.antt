-- When a written log holds for a program: each of its lines is good after those before it.
use Rattle.std.specs.Prelude.{ℕ, ◌≡◌, ◌⊎◌, ◌+◌, List, [], ◌∷◌, length, Option, None, Some, ⊤}
use Rattle.apd_causes.specs.declared.run.Query.{Query}
use Rattle.apd_causes.specs.declared.run.Ran.{Ran}
use Rattle.apd_ops.specs.Table.{Table}
use Rattle.apd_read.specs.Reader.{Reader}
use Rattle.apd_clauses.specs.declared.clause.Clause.{Clause}
use Rattle.apd_clauses.specs.Clauses.{clause_at, tuples_of}
use Rattle.apd_trace.specs.Run.{Run, ran_of}
use Rattle.apd_record.specs.Recorded.{Recorded, empty, chain}
use Rattle.apd_recorded.specs.Told.{record_of}
use Rattle.apd_again.specs.Again.{run_again}
use Rattle.apd_answers.specs.Findings.{AllDescendByReplies, IsByReplies}
use Rattle.apd_answers.specs.Questions.{FitsAsked}
use Rattle.apd_answers.specs.Store.{Store, with_pair}
use Rattle.apd_answers.specs.declared.question.Asked.{Asked}
use Rattle.apd_answers.specs.declared.question.Reply.{Reply}
use Rattle.apd_answers.specs.declared.finding.Finding.{Finding}
use Rattle.apd_answers.specs.declared.finding.Finding.TheVariants.{WrongInstance, Uncovered, Violation, Candidates}
use Rattle.apd_known.specs.Pairs.{MayAsk}
use Rattle.apd_loop.specs.Loop.{calls_in}
use Rattle.apd_claims.specs.Saying.{Said, said_in}
use Rattle.apd_claims.specs.declared.claim.Claim.{Claim}
use Rattle.apd_claims.specs.declared.claim.Claim.TheVariants.{Runs, Ends, Tells, Asks, Replies, Finds, Descends, Nothing, Garbled}
use Rattle.apd_check.specs.declared.state.LogState.{LogState}
use Rattle.apd_check.specs.declared.checked.Checked.{Checked}
use Rattle.apd_check.specs.declared.checked.Checked.TheVariants as checked
use Rattle.apd_text.specs.declared.check.Why.{Why}
use Rattle.apd_text.specs.declared.check.Why.TheVariants as why

-- nothing was run or asked yet, and this is known
abbrev pub first_state : Store → LogState
first_state known = record { query = None; history = empty; known = known; waiting = None }

-- P holds, or it doesn't and this is why
abbrev pub Decided : Type 0 → Why → Option Why → Type 0
Decided P reason None = P
Decided P reason (Some w) = (¬ P) × (w ≡ reason)

-- a reply to the question that waits: there is one, and the reply fits it
abbrev pub IsReplyTo : Option Asked → Reply → Option Why → Type 0
IsReplyTo None reply w = w ≡ Some why.NoQuestion
IsReplyTo (Some asked) reply w = Decided (FitsAsked asked reply) why.Unfit w

module _ (program : List Clause) where
  -- the run of a query made again, within as many ports as were shown, and as many answers where these ended it
  abbrev pub made_again : Query → Ran → Run
  made_again q ran = run_again (tuples_of program) q.tuple ran

  -- there is a query, and its run ends so
  abbrev pub EndsSo : Option Query → Ran → Type 0
  EndsSo None ran = ⊥
  EndsSo (Some q) ran = ran_of (made_again q ran) ≡ ran

  -- the clause begins in this line of the program
  abbrev pub IsLineOf : ℕ → ℕ → Type 0
  IsLineOf clause line = (c : Clause) × (clause_at program clause ≡ Some c) × (c.line ≡ line)

  -- of a finding whose clause's line is printed, the clause begins there
  abbrev pub IsPlaced : Finding → ℕ → Type 0
  IsPlaced (WrongInstance clause t) line = IsLineOf clause line
  IsPlaced (Uncovered goal) line = ⊤
  IsPlaced (Violation clause goal caller_no callee_no caller callee) line = IsLineOf clause line
  IsPlaced (Candidates cs) line = ⊤

  -- the finding follows from the replies, and its line is right
  pub record IsRightFinding (s : LogState) (finding : Finding) (line : ℕ) : Type 0 where
    pub by_replies : IsByReplies (tuples_of program) s.history s.known finding
    pub placed : IsPlaced finding line

  -- the calls of the chain are so many, and by the replies each is below the one before
  pub record IsRightDescent (s : LogState) (calls : ℕ) : Type 0 where
    pub count : calls ≡ length (chain s.history)
    pub by_replies : AllDescendByReplies s.known (calls_in s.history (chain s.history))

  -- what a line says is good in this state, or why it isn't
  abbrev pub IsJudged : LogState → Claim → Option Why → Type 0
  IsJudged s (Runs q) w = w ≡ None
  IsJudged s (Ends ran) w = Decided (EndsSo s.query ran) why.End w
  IsJudged s (Tells question reply) w = Decided (MayAsk question) why.Text w
  IsJudged s (Asks asked) w = Decided (MayAsk asked.question) why.Text w
  IsJudged s (Replies reply) w = IsReplyTo s.waiting reply w
  IsJudged s (Finds finding line) w = Decided (IsRightFinding s finding line) why.Finding w
  IsJudged s (Descends calls) w = Decided (IsRightDescent s calls) why.Finding w
  IsJudged s Nothing w = w ≡ None
  IsJudged s Garbled w = w ≡ Some why.Text

  -- the record of the run that ended so
  abbrev pub history_after : Option Query → Ran → Recorded → Recorded
  history_after None ran history = history
  history_after (Some q) ran history = record_of (made_again q ran).passed

  abbrev pub known_after : Store → Option Asked → Reply → Store
  known_after known None reply = known
  known_after known (Some asked) reply = with_pair known asked.question reply

  -- the state behind a line that says this
  abbrev pub after_claim : LogState → Claim → LogState
  after_claim s (Runs q) = record { query = Some q; history = empty; known = s.known; waiting = None }
  after_claim s (Ends ran) = record { query = None; history = history_after s.query ran s.history; known = s.known; waiting = s.waiting }
  after_claim s (Tells question reply) = record { query = s.query; history = s.history; known = with_pair s.known question reply; waiting = None }
  after_claim s (Asks asked) = record { query = s.query; history = s.history; known = s.known; waiting = Some asked }
  after_claim s (Replies reply) = record { query = s.query; history = s.history; known = known_after s.known s.waiting reply; waiting = None }
  after_claim s (Finds finding line) = s
  after_claim s (Descends calls) = s
  after_claim s Nothing = s
  after_claim s Garbled = s

-- how many findings a line says
abbrev pub found_in : Claim → ℕ
found_in (Finds finding line) = 1
found_in (Descends calls) = 1
found_in claim = 0

-- why the line of a call isn't good: none of its parts were terms where that was tried, or no finding is right
abbrev pub reason_for : Claim → Why
reason_for Garbled = why.Text
reason_for claim = why.Finding

module _ (program : List Clause) where
  -- a finding is said, and is right
  abbrev pub IsFound : LogState → Option Claim → Type 0
  IsFound s claim = (finding : Finding) × (line : ℕ) × (claim ≡ Some (Finds finding line)) × IsRightFinding program s finding line

  -- the line of a call says one if it is parted at some place; the words between two calls may stand in their atoms too, and then it
  -- can be read in several ways
  abbrev pub IsFoundIn : LogState → (ℕ → Option Claim) → Type 0
  IsFoundIn s parted = (place : ℕ) × IsFound s (parted place)

  abbrev pub IsJudgedBy : LogState → Claim → Option (ℕ → Option Claim) → Option Why → Type 0
  IsJudgedBy s claim None w = IsJudged program s claim w
  IsJudgedBy s claim (Some parted) w = Decided (IsFoundIn s parted) (reason_for claim) w

  -- a line is good in this state, or why it isn't; that of a call is good where it can be read as a finding that is right
  abbrev pub IsLineJudged : LogState → Said → Option Why → Type 0
  IsLineJudged s x w = IsJudgedBy s x.claim x.parted w

  abbrev pub after_by : LogState → Claim → Option (ℕ → Option Claim) → LogState
  after_by s claim None = after_claim program s claim
  after_by s claim (Some parted) = s

  -- the state behind a line
  abbrev pub after_line : LogState → Said → LogState
  after_line s x = after_by s x.claim x.parted

abbrev pub found_by : Claim → Option (ℕ → Option Claim) → ℕ
found_by claim None = found_in claim
found_by claim (Some parted) = 1

-- how many findings a line says, that of a call one
abbrev pub found_on : Said → ℕ
found_on x = found_by x.claim x.parted

module _ (program : List Clause) where
  -- all is good from here on, where so many findings were met before; or the first that isn't is in this line, for this reason
  abbrev pub IsChecked : LogState → ℕ → List Said → Checked → Type 0
  IsChecked s found [] result = result ≡ checked.Holds found
  IsChecked s found (x ∷ xs) result =
      (IsLineJudged program s x None × IsChecked (after_line program s x) (found + found_on x) xs result)
      ⊎ ((w : Why) × IsLineJudged program s x (Some w) × (result ≡ checked.Fails x.line w))

  -- the state behind all that is said
  abbrev pub after_all : LogState → List Said → LogState
  after_all s [] = s
  after_all s (x ∷ xs) = after_all (after_line program s x) xs

-- what the check of a log's text finds, by the operators that the program leaves and what is known beforehand
abbrev pub IsCheckOf : {names : List (List ℕ)} → List Clause → Table → Reader names → Store → List ℕ → Checked → Type 0
IsCheckOf program ops reader known text result = IsChecked program (first_state known) 0 (said_in reader ops text) result
