-- What is said line by line is checked claim by claim.
use Rattle.std.proofs.Common.{◌≡◌, ℕ, ◌+◌, inl, List, [], ◌∷◌, ◌++◌, refl, sym, ◌∙◌, ap, subst, arith, Bool, true, false, Option, None}
use Rattle.std.specs.Prelude.{codes, ◌&&◌, ◌||◌}
use Rattle.std.specs.Option.{option_map}
use Rattle.apd_console.specs.Lines.{lines_of}
use Rattle.apd_clauses.specs.declared.clause.Clause.{Clause}
use Rattle.apd_answers.specs.declared.finding.Finding.{Finding}
use Rattle.apd_ops.specs.Table.{Table}
use Rattle.apd_read.specs.Reader.{Reader}
use Rattle.apd_claims.specs.declared.claim.Claim.{Claim}
use Rattle.apd_claims.specs.declared.claim.Claim.TheVariants.{Finds, Nothing}
use Rattle.apd_claims.specs.declared.parting.CallLine.{CallLine}
use Rattle.apd_claims.specs.Parting.{called_in, claim_parted}
use Rattle.apd_claims.specs.Saying.{begins, claim_at, claim_by, goes_on, is_candidate, said_from}
use Rattle.apd_check.specs.Checked.{IsJudged, IsJudgedBy, IsRightFinding, after_by, after_claim, found_by, found_in, IsChecked}
use Rattle.apd_check.specs.declared.checked.Checked.TheVariants as checked
use Rattle.apd_check.specs.declared.state.LogState.{LogState}
use Rattle.apd_written.specs.Says.{Says, AreCandidateLines, IsCallSaid, lines_before, no_line, quiet_line, one_line, call_line, some_lines}
use Rattle.apd_written.proofs.NoCalls.{no-call}
use Rattle.apd_written.proofs.Saying.{line-first, candidates-first, begins-none}
use Rattle.apd_upheld.specs.Good.{AreGood, count_found}

module _ {names : List (List ℕ)} (reader : Reader names) (ops : Table) (program : List Clause) where
  -- lines that are good from here on
  abbrev AreFine : LogState → ℕ → Bool → ℕ → List (List ℕ) → ℕ → Type 0
  AreFine s found in_group n lines total = IsChecked program s found (said_from reader ops in_group n lines) (checked.Holds total)

  -- a line that is judged so, and those behind it
  abbrev IsFineBy : LogState → ℕ → Bool → ℕ → List (List ℕ) → ℕ → Claim → Option (ℕ → Option Claim) → Type 0
  IsFineBy s found goes n lines total c parted = IsJudgedBy program s c parted None × AreFine (after_by program s c parted) (found + found_by c parted) goes n lines total

  -- a line that says this, and isn't one of a call
  line-fine : (s : LogState) (found : ℕ) (in_group : Bool) (n : ℕ) (line : List ℕ) (lines : List (List ℕ)) (total : ℕ) (c : Claim) → called_in line ≡ None → claim_at reader ops in_group line lines ≡ c
      → IsJudged program s c None → AreFine (after_claim program s c) (found + found_in c) (goes_on in_group line) (n + 1) lines total → AreFine s found in_group n (line ∷ lines) total
  line-fine s found in_group n line lines total c not e j r =
      let fine : Claim → Option (ℕ → Option Claim) → Type 0 = IsFineBy s found (goes_on in_group line) (n + 1) lines total in
      inl (subst (λ (o : Option CallLine). fine (claim_at reader ops in_group line lines) (option_map (claim_parted reader ops) o)) (sym not) (subst (λ (x : Claim). fine x None) (sym e) (j, r)))

  -- the line of a call that may say this
  call-fine : (s : LogState) (found : ℕ) (in_group : Bool) (n : ℕ) (line : List ℕ) (lines : List (List ℕ)) (total : ℕ) (finding : Finding) (at : ℕ) → IsCallSaid reader ops line finding at
      → IsRightFinding program s finding at → AreFine s (found + 1) (goes_on in_group line) (n + 1) lines total → AreFine s found in_group n (line ∷ lines) total
  call-fine s found in_group n line lines total finding at h j r =
      let fine : Claim → Option (ℕ → Option Claim) → Type 0 = IsFineBy s found (goes_on in_group line) (n + 1) lines total in
      inl (subst (λ (o : Option CallLine). fine (claim_at reader ops in_group line lines) (option_map (claim_parted reader ops) o)) (sym h.is) ((h.place, (finding, at, h.says, j)), r))

  quiet-fine : (s : LogState) (found : ℕ) (in_group : Bool) (n : ℕ) (line : List ℕ) (lines : List (List ℕ)) (total : ℕ) → claim_at reader ops in_group line lines ≡ Nothing
      → AreFine s found (goes_on in_group line) (n + 1) lines total → AreFine s found in_group n (line ∷ lines) total
  quiet-fine s found in_group n line lines total e r =
      line-fine s found in_group n line lines total Nothing (no-call reader ops in_group line lines Nothing tt e) e refl (subst (λ f. AreFine s f (goes_on in_group line) (n + 1) lines total) (omega arith) r)

  -- in a group the lines of candidates say nothing more
  goes-on : (line : List ℕ) → is_candidate line ≡ true → goes_on true line ≡ true
  goes-on line e = by (begins (codes "candidates: ") line) (is_candidate line) e
    where
      by : (a b : Bool) → b ≡ true → (a || (true && b)) ≡ true
      by true b f = refl
      by false b f = f

  candidates-fine : (s : LogState) (found n : ℕ) (candidates lines : List (List ℕ)) (total : ℕ) → AreCandidateLines candidates
      → ((m : ℕ) → AreFine s found true m lines total) → AreFine s found true n (candidates ++ lines) total
  candidates-fine s found n [] lines total h r = r n
  candidates-fine s found n (l ∷ ls) lines total h r =
      quiet-fine s found true n l (ls ++ lines) total (ap (claim_by reader ops true l (ls ++ lines)) h.0.form)
      (subst (λ g. AreFine s found g (n + 1) (ls ++ lines) total) (sym (goes-on l h.0.begins_so)) (candidates-fine s found (n + 1) ls lines total h.1 r))

  opens-group : (in_group : Bool) (line : List ℕ) → begins (codes "candidates: ") line ≡ true → goes_on in_group line ≡ true
  opens-group in_group line e = ap (λ b. b || (in_group && is_candidate line)) e

  -- what is said is good, so the text holds
  pub says-checked : (s : LogState) (found n : ℕ) (in_group : Bool) {text : List ℕ} {cs : List Claim} → Says reader ops text cs → AreGood program s cs
      → AreFine s found in_group n (lines_of text) (found + count_found cs)
  says-checked s found n in_group no_line g = ap checked.Holds (omega arith)
  says-checked s found n in_group (quiet_line line {rest} {cs} h k) g =
      subst (λ ls. AreFine s found in_group n ls (found + count_found cs)) (sym (line-first line rest h.whole))
      (quiet-fine s found in_group n line (lines_of rest) (found + count_found cs) (h.says in_group (lines_of rest)) (says-checked s found (n + 1) (goes_on in_group line) k g))
  says-checked s found n in_group (one_line line {rest} {c} {cs} not h k) g =
      subst (λ ls. AreFine s found in_group n ls (found + count_found (c ∷ cs))) (sym (line-first line rest h.whole))
      (line-fine s found in_group n line (lines_of rest) (found + count_found (c ∷ cs)) c not (h.says in_group (lines_of rest)) g.0
      (subst (λ t. AreFine (after_claim program s c) (found + found_in c) (goes_on in_group line) (n + 1) (lines_of rest) t) (omega arith)
      (says-checked (after_claim program s c) (found + found_in c) (n + 1) (goes_on in_group line) k g.1)))
  says-checked s found n in_group (call_line line {rest} {finding} {at} {cs} h k) g =
      subst (λ ls. AreFine s found in_group n ls (found + count_found (Finds finding at ∷ cs))) (sym (line-first line rest h.whole))
      (call-fine s found in_group n line (lines_of rest) (found + count_found (Finds finding at ∷ cs)) finding at h g.0
      (subst (λ t. AreFine s (found + 1) (goes_on in_group line) (n + 1) (lines_of rest) t) (omega arith)
      (says-checked s (found + 1) (n + 1) (goes_on in_group line) k g.1)))
  says-checked s found n in_group (some_lines line candidates {rest} {c} {cs} h k) g =
      subst (λ ls. AreFine s found in_group n ls (found + count_found (c ∷ cs))) (sym (line-first line (lines_before candidates rest) h.whole ∙ ap (λ ls. line ∷ ls) (candidates-first candidates rest h.are_candidates)))
      (line-fine s found in_group n line (candidates ++ lines_of rest) (found + count_found (c ∷ cs)) c h.no_call (h.says in_group (lines_of rest) (begins-none reader ops k)) g.0
      (subst (λ b. AreFine (after_claim program s c) (found + found_in c) b (n + 1) (candidates ++ lines_of rest) (found + count_found (c ∷ cs))) (sym (opens-group in_group line h.opens))
      (candidates-fine (after_claim program s c) (found + found_in c) (n + 1) candidates (lines_of rest) (found + count_found (c ∷ cs)) h.are_candidates
      (λ m. subst (λ t. AreFine (after_claim program s c) (found + found_in c) true m (lines_of rest) t) (omega arith) (says-checked (after_claim program s c) (found + found_in c) m true k g.1)))))
