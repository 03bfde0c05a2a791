-- The lines of a log, one after the other.
use Rattle.std.proofs.Common.{◌≡◌, inl, inr, ◌≤◌, ◌<◌, ◌+◌, Bool, false, ℕ, List, ◌∷◌, length, Option, None, Some, refl, sym, subst, arith}
use Rattle.std.specs.Option.{option_map}
use Rattle.apd_base.specs.declared.limits.TheConstants.{MAX_FILE}
use Rattle.apd_clauses.specs.declared.clause.Clause.{Clause}
use Rattle.apd_console.specs.Lines.{lines_of}
use Rattle.apd_ops.specs.Table.{Table}
use Rattle.apd_read.specs.Reader.{Reader}
use Rattle.apd_term.specs.Growth.{Grown}
use Rattle.apd_talk.specs.Speech.{Lasting}
use Rattle.apd_claims.specs.declared.claim.Claim.{Claim}
use Rattle.apd_claims.specs.declared.claim.Claim.TheVariants.{Runs, Ends, Tells, Asks, Replies, Finds, Descends, Nothing, Garbled}
use Rattle.apd_check.specs.declared.state.LogState.{LogState}
use Rattle.apd_check.specs.declared.checked.Checked.{Checked}
use Rattle.apd_check.specs.declared.checked.Checked.TheVariants.{Fails}
use Rattle.apd_text.specs.declared.check.Why.{Why}
use Rattle.apd_lines.proofs.Growing.{Grown-more}
use Rattle.apd_check.specs.Checked.{IsChecked, IsJudged, IsJudgedBy, after_by, after_claim}
use Rattle.apd_claims.specs.Saying.{claim_at, goes_on, said_from}
use Rattle.apd_claims.specs.Parting.{called_in, claim_parted}
use Rattle.apd_claims.specs.Sayable.{IsSayable}
use Rattle.apd_check.specs.Steps.{IsKept, Leads, Takes}

-- What is kept stays kept.

pub kept-after : (program : List Clause) (s : LogState) (claim : Claim) → IsKept s → IsSayable claim → IsJudged program s claim None → IsKept (after_claim program s claim)
kept-after program s (Runs q) kept may j = record { runnable = may; asked = tt }
kept-after program s (Ends ran) kept may j = record { runnable = tt; asked = kept.asked }
kept-after program s (Tells q r) kept may j = record { runnable = kept.runnable; asked = tt }
kept-after program s (Asks q) kept may j = record { runnable = kept.runnable; asked = j }
kept-after program s (Replies r) kept may j = record { runnable = kept.runnable; asked = tt }
kept-after program s (Finds f line) kept may j = kept
kept-after program s (Descends calls) kept may j = kept
kept-after program s Nothing kept may j = kept
kept-after program s Garbled kept may j = kept

pub kept-next : (program : List Clause) (s t : LogState) (claim : Claim) → IsKept s → IsSayable claim → Leads program s claim t None → IsKept t
kept-next program s t claim kept may leads = subst IsKept (sym leads.1) (kept-after program s claim kept may leads.0)

module _ (program : List Clause) (ops : Table) where
  -- what is found from here on, where so many findings were met before the line with this number
  abbrev pub IsFrom : {n : List (List ℕ)} → Reader n → LogState → ℕ → Bool → ℕ → List (List ℕ) → Checked → Type 0
  IsFrom reader s found in_group number lines r = IsChecked program s found (said_from reader ops in_group number lines) r

  module _ (n : List (List ℕ)) (reader : Reader n) (s : LogState) (found : ℕ) (in_group : Bool) (number : ℕ) (line : List ℕ) (lines : List (List ℕ)) where
    abbrev said_here : Claim
    said_here = claim_at reader ops in_group line lines

    abbrev parted_here : Option (ℕ → Option Claim)
    parted_here = option_map (claim_parted reader ops) (called_in line)

    good-line : (t : LogState) (more : ℕ) (r : Checked) → Takes program s said_here parted_here t more None → IsFrom reader t (found + more) (goes_on in_group line) (number + 1) lines r → IsFrom reader s found in_group number (line ∷ lines) r
    good-line t more r takes h = inl (
      takes.0,
      subst (λ (k : ℕ). IsFrom reader (after_by program s said_here parted_here) (found + k) (goes_on in_group line) (number + 1) lines r) takes.2
          (subst (λ (x : LogState). IsFrom reader x (found + more) (goes_on in_group line) (number + 1) lines r) takes.1 h),
    )

    bad-line : (w : Why) → IsJudgedBy program s said_here parted_here (Some w) → IsFrom reader s found in_group number (line ∷ lines) (Fails number w)
    bad-line w judged = inr (w, judged, refl)

  -- the lines that are left decide
  abbrev pub Decide : List ℕ → LogState → List (List ℕ) → LogState → ℕ → Bool → ℕ → List ℕ → Type 0
  Decide text first names s found in_group number rest =
      Lasting names (λ n. (reader : Reader n) → (r : Checked) → IsFrom reader s found in_group number (lines_of rest) r → IsFrom reader first 0 false 1 (lines_of text) r)

  module _ (text : List ℕ) (first : LogState) where
    pub record Checking (names : List (List ℕ)) (s : LogState) (found : ℕ) (in_group : Bool) (number : ℕ) (rest : List ℕ) : Type 0 where
      pub kept : IsKept s
      pub few : found + 1 ≤ number
      pub count : number + length rest ≤ MAX_FILE + 1
      pub decide : Decide text first names s found in_group number rest

    module _ (names later : List (List ℕ)) (grew : Grown names later) (s t : LogState) (found : ℕ) (in_group : Bool) (number : ℕ) (rest line behind : List ℕ) (more : ℕ) (why : Option Why)
        (before : Checking names s found in_group number rest) (split : lines_of rest ≡ line ∷ lines_of behind) (shorter : length behind < length rest)
        (takes : Lasting later (λ n. (reader : Reader n) → Takes program s (claim_at reader ops in_group line (lines_of behind)) (option_map (claim_parted reader ops) (called_in line)) t more why)) where
      pub Checking-more : why ≡ None → IsKept t → more ≤ 1 → Checking later t (found + more) (goes_on in_group line) (number + 1) behind
      Checking-more is kept one = record {
        kept = kept;
        few = let f = before.few in omega (arith, f, one);
        count = let c = before.count in omega (arith, c, shorter);
        decide = λ n g reader r h.
            before.decide n (Grown-more names later n grew g) reader r
            (subst (λ (ls : List (List ℕ)). IsFrom reader s found in_group number ls r) (sym split)
            (good-line n reader s found in_group number line (lines_of behind) t more r
            (subst (Takes program s (claim_at reader ops in_group line (lines_of behind)) (option_map (claim_parted reader ops) (called_in line)) t more) is (takes n g reader)) h));
      }

      pub Checking-fails : (w : Why) → why ≡ Some w → Lasting later (λ n. (reader : Reader n) → IsFrom reader first 0 false 1 (lines_of text) (Fails number w))
      Checking-fails w is = λ n g reader.
          before.decide n (Grown-more names later n grew g) reader (Fails number w)
          (subst (λ (ls : List (List ℕ)). IsFrom reader s found in_group number ls (Fails number w)) (sym split)
          (bad-line n reader s found in_group number line (lines_of behind) w
          (subst (Takes program s (claim_at reader ops in_group line (lines_of behind)) (option_map (claim_parted reader ops) (called_in line)) t more) is (takes n g reader))))
