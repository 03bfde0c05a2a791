-- A text as its lines, and what they say.
use Rattle.std.specs.Prelude.{◌≡◌, ℕ, ⊤, Bool, true, false, List, [], ◌∷◌, ◌++◌, None, Some, nat_eq, codes}
use Rattle.apd_ops.specs.Table.{Table}
use Rattle.apd_read.specs.Reader.{Reader}
use Rattle.apd_talk.specs.Utterance.{Utterance}
use Rattle.apd_text.specs.declared.entry.Entry.{Entry}
use Rattle.apd_claims.specs.declared.claim.Claim.{Claim}
use Rattle.apd_answers.specs.declared.finding.Finding.{Finding}
use Rattle.apd_claims.specs.declared.claim.Claim.TheVariants.{Finds, Nothing}
use Rattle.apd_claims.specs.declared.parting.CallLine.{CallLine}
use Rattle.apd_claims.specs.Parting.{called_in, claim_parted}
use Rattle.apd_claims.specs.declared.form.LineForm.TheVariants.{Candidate}
use Rattle.apd_claims.specs.Forms.{form_in}
use Rattle.apd_claims.specs.Sayable.{BeginsWithNone}
use Rattle.apd_claims.specs.Saying.{begins, claim_at, is_candidate}
use Rattle.apd_written.specs.Claims.{claims_of}

-- no newline stands in it
abbrev pub HasNoBreak : List ℕ → Type 0
HasNoBreak [] = ⊤
HasNoBreak (b ∷ bs) = (nat_eq b 10 ≡ false) × HasNoBreak bs

-- some lines, each with its newline, and a text behind them
abbrev pub lines_before : List (List ℕ) → List ℕ → List ℕ
lines_before [] rest = rest
lines_before (line ∷ lines) rest = line ++ 10 ∷ lines_before lines rest

-- a line of a candidate
pub record IsCandidateLine (line : List ℕ) : Type 0 where
  pub whole : HasNoBreak line
  pub begins_so : is_candidate line ≡ true
  pub form : form_in line ≡ Candidate

abbrev pub AreCandidateLines : List (List ℕ) → Type 0
AreCandidateLines [] = ⊤
AreCandidateLines (line ∷ lines) = IsCandidateLine line × AreCandidateLines lines

module _ {names : List (List ℕ)} (reader : Reader names) (ops : Table) where
  -- a line, and what it says, whatever lines stand before and behind it; it is none of a candidate
  pub record IsSaid (line : List ℕ) (c : Claim) : Type 0 where
    pub whole : HasNoBreak line
    pub alone : is_candidate line ≡ false
    pub says : (in_group : Bool) (lines : List (List ℕ)) → claim_at reader ops in_group line lines ≡ c

  -- a line that says a call isn't below its caller, if it is parted at this place
  pub record IsCallSaid (line : List ℕ) (finding : Finding) (at : ℕ) : Type 0 where
    pub whole : HasNoBreak line
    pub alone : is_candidate line ≡ false
    pub call : CallLine
    pub is : called_in line ≡ Some call
    pub place : ℕ
    pub says : claim_parted reader ops call place ≡ Some (Finds finding at)

  -- a line with those of its candidates, and what it says before any others
  pub record IsSaidWith (line : List ℕ) (candidates : List (List ℕ)) (c : Claim) : Type 0 where
    pub whole : HasNoBreak line
    pub alone : is_candidate line ≡ false
    pub no_call : called_in line ≡ None
    pub opens : begins (codes "candidates: ") line ≡ true
    pub are_candidates : AreCandidateLines candidates
    pub says : (in_group : Bool) (lines : List (List ℕ)) → BeginsWithNone lines → claim_at reader ops in_group line (candidates ++ lines) ≡ c

  -- the text is lines, each with its newline, which say just this: a line says one claim, or nothing, and so does one with its
  -- candidates; that of a call says one of those that it may say
  pub data Says : List ℕ → List Claim → Type 0 where
    no_line : Says [] []
    quiet_line : (line : List ℕ) {rest : List ℕ} {cs : List Claim} → IsSaid line Nothing → Says rest cs → Says (line ++ 10 ∷ rest) cs
    one_line : (line : List ℕ) {rest : List ℕ} {c : Claim} {cs : List Claim} → called_in line ≡ None → IsSaid line c → Says rest cs → Says (line ++ 10 ∷ rest) (c ∷ cs)
    call_line : (line : List ℕ) {rest : List ℕ} {finding : Finding} {at : ℕ} {cs : List Claim} → IsCallSaid line finding at → Says rest cs → Says (line ++ 10 ∷ rest) (Finds finding at ∷ cs)
    some_lines : (line : List ℕ) (candidates : List (List ℕ)) {rest : List ℕ} {c : Claim} {cs : List Claim} → IsSaidWith line candidates c → Says rest cs
        → Says (line ++ 10 ∷ lines_before candidates rest) (c ∷ cs)

-- each utterance's text says what its entry claims
abbrev pub AllSay : {names : List (List ℕ)} → Reader names → Table → List (Utterance Entry) → Type 0
AllSay reader ops [] = ⊤
AllSay reader ops (u ∷ us) = Says reader ops u.text (claims_of u.entry) × AllSay reader ops us
