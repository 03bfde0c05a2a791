-- When what is said one after another is good.
use Rattle.std.specs.Prelude.{◌≡◌, ⊤, ℕ, ◌+◌, List, [], ◌∷◌, Option, None, Some}
use Rattle.apd_account.specs.Account.{Account, Stage, Idle, Moves, Awaits}
use Rattle.apd_again.specs.Bare.{bare_record}
use Rattle.apd_answers.specs.declared.question.Asked.{Asked}
use Rattle.apd_clauses.specs.declared.clause.Clause.{Clause}
use Rattle.apd_claims.specs.declared.claim.Claim.{Claim}
use Rattle.apd_check.specs.Checked.{IsJudged, after_claim, found_in}
use Rattle.apd_check.specs.declared.state.LogState.{LogState}
use Rattle.apd_written.specs.Claims.{canonical_asked}
use Rattle.apd_upheld.specs.Alike.{AreAlike}
use Rattle.apd_upheld.specs.Fair.{IsInForm}

module _ (program : List Clause) where
  -- each claim is good after those before it
  abbrev pub AreGood : LogState → List Claim → Type 0
  AreGood s [] = ⊤
  AreGood s (c ∷ cs) = IsJudged program s c None × AreGood (after_claim program s c) cs

  abbrev pub after_claims : LogState → List Claim → LogState
  after_claims s [] = s
  after_claims s (c ∷ cs) = after_claims (after_claim program s c) cs

-- how many findings they say
abbrev pub count_found : List Claim → ℕ
count_found [] = 0
count_found (c ∷ cs) = found_in c + count_found cs

-- where a diagnosis waits for a reply, the check waits for one to the same question
abbrev pub WaitsAs : Stage → Option Asked → Type 0
WaitsAs Idle waiting = ⊤
WaitsAs (Moves q) waiting = ⊤
WaitsAs (Awaits asked next) waiting = (waiting ≡ Some (canonical_asked asked)) × IsInForm asked.question

-- the state of a check is what the entries so far tell: the record of the same run, the same replies and trust, and what waits for
-- a reply
pub record Stands (a : Account) (s : LogState) : Type 0 where
  pub query : s.query ≡ None
  pub history : s.history ≡ bare_record a.history
  pub known : AreAlike a.store s.known
  pub waits : WaitsAs a.stage s.waiting
