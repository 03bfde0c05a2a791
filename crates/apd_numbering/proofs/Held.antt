-- Line by line: a log that holds, and says what has kept names, holds under any names that have these.
use Rattle.std.proofs.Common.{◌≡◌, ℕ, ◌+◌, inl, inr, Bool, true, false, List, [], ◌∷◌, length, take, drop, refl, sym, ◌∙◌, ap, subst, Option, None, Some}
use Rattle.std.specs.Prelude.{if◌then◌else◌}
use Rattle.std.specs.Bool.{then_some}
use Rattle.std.specs.Option.{option_and_then, option_map}
use Rattle.apd_answers.specs.Findings.{IsByReplies}
use Rattle.apd_answers.specs.declared.finding.Finding.{Finding}
use Rattle.apd_answers.specs.declared.finding.Finding.TheVariants as findings
use Rattle.apd_check.specs.Checked.{IsChecked, IsFound, IsFoundIn, IsJudged, IsJudgedBy, IsRightFinding, after_by, after_claim, found_by, found_in}
use Rattle.apd_check.specs.declared.checked.Checked.TheVariants as checked
use Rattle.apd_check.specs.declared.state.LogState.{LogState}
use Rattle.apd_claims.specs.Claims.{call_entry, called, is_text, written}
use Rattle.apd_claims.specs.Forms.{form_in, with_newline}
use Rattle.apd_claims.specs.Parting.{called_by, claim_parted, claim_with, is_callers}
use Rattle.apd_claims.specs.Reading.{term_in}
use Rattle.apd_claims.specs.Saying.{claim_by, goes_on, said_from}
use Rattle.apd_claims.specs.declared.claim.Claim.{Claim}
use Rattle.apd_claims.specs.declared.claim.Claim.TheVariants.{Finds, Garbled}
use Rattle.apd_claims.specs.declared.form.Calling.{Calling}
use Rattle.apd_claims.specs.declared.form.LineForm.{LineForm}
use Rattle.apd_claims.specs.declared.form.LineForm.TheVariants.{Query, End, Symptom, Framed, Call, Candidates, Candidate, Descent, Other, Unread}
use Rattle.apd_claims.specs.declared.parting.CallLine.{CallLine}
use Rattle.apd_clauses.specs.Clauses.{tuples_of}
use Rattle.apd_clauses.specs.declared.clause.Clause.{Clause}
use Rattle.apd_ops.specs.Table.{IsTable, Table}
use Rattle.apd_parts.specs.Parts.{Led, box_first, if_some}
use Rattle.apd_read.specs.Reader.{Reader}
use Rattle.apd_term.specs.Named.{AllTuplesNamed, IsNamed}
use Rattle.apd_term.specs.Term.{Term}
use Rattle.apd_term.proofs.Named.{IsNamed-canonical}
use Rattle.apd_text.specs.declared.check.Why.TheVariants as why
use Rattle.apd_numbering.specs.Claims.{renumbered_claim, renumbered_state}
use Rattle.apd_numbering.specs.Kept.{CallIsKept}
use Rattle.apd_numbering.specs.Lists.{BeginAlike, HasAll, HasFewOperators}
use Rattle.apd_numbering.specs.Said.{AllSaidNamed, ClaimIsNamed, IsNamedBy}
use Rattle.apd_numbering.proofs.Exchanged.{Between}
use Rattle.apd_numbering.proofs.Holding.{IsNoCall, form-holds}
use Rattle.apd_numbering.proofs.Judged.{after-renumbered, found-renumbered, found_in-renumbered, judged-renumbered}
use Rattle.apd_numbering.proofs.KeptMore.{call-kept}
use Rattle.apd_numbering.proofs.NamedStates.{StateIsNamed, after-named, call_atom-named}
use Rattle.apd_numbering.proofs.Said.{with-alike}

-- what a call's line says when it is parted was read of its two atoms
record IsOfAtoms (c : Calling) (number : ℕ) (o v : Option Term) (f : Finding) : Type 0 where
  callee : Term
  caller : Term
  callee_is : o ≡ Some callee
  caller_is : v ≡ Some caller
  is : f ≡ findings.Violation c.clause c.goal c.caller number caller callee

of_atoms : (ops : Table) (names : List (List ℕ)) (whole : List ℕ) (c : Calling) (number : ℕ) (x : Bool) (o v : Option Term) (f : Finding) (line : ℕ)
    → (if x then option_and_then (written ops names whole) (if_some o (λ q. option_map (call_entry c number q) v) None) else None) ≡ Some (Finds f line) → IsOfAtoms c number o v f
of_atoms ops names whole c number false o v f line e = absurd cc
of_atoms ops names whole c number true None v f line e = absurd cc
of_atoms ops names whole c number true (Some q) None f line e = absurd cc
of_atoms ops names whole c number true (Some q) (Some p) f line e = by (is_text ops names whole (call_entry c number q p)) e
  where
    by : (y : Bool) → then_some y (Finds (findings.Violation c.clause c.goal c.caller number p q) c.line) ≡ Some (Finds f line) → IsOfAtoms c number (Some q) (Some p) f
    by false h = absurd cc
    by true h = let same : f ≡ findings.Violation c.clause c.goal c.caller number p q = cc in record { callee = q; caller = p; callee_is = refl; caller_is = refl; is = same }

-- the state and the count behind a line are the other's, renumbered
record Step (n : ℕ) (r : ℕ → ℕ) (program : List Clause) (t : LogState) (c : Claim) (f : Option (ℕ → Option Claim)) (d : Claim) (g : Option (ℕ → Option Claim)) : Type 0 where
  judged : IsJudgedBy program (renumbered_state r t) d g None
  behind : after_by program (renumbered_state r t) d g ≡ renumbered_state r (after_by program t c f)
  count : found_by d g ≡ found_by c f
  named : StateIsNamed n (after_by program t c f)

module _ (n : ℕ) (names others : List (List ℕ)) (a : BeginAlike n names others) (b : Between n names others) (has : HasAll names others) (ops : Table) (few : HasFewOperators n ops) (table : IsTable ops) (r : Reader names) (s : Reader others)
    (program : List Clause) (first : AllTuplesNamed n (tuples_of program)) (clauses : AllTuplesNamed (length names) (tuples_of program)) where
  -- a call that was found has the atoms of boxes
  found-kept : (t : LogState) → StateIsNamed (length names) t → (c : Calling) (number : ℕ) (o v : Option Term) (f : Finding) (line : ℕ) → IsOfAtoms c number o v f → IsRightFinding program t f line
      → (q p : Term) → o ≡ Some q → v ≡ Some p → IsNamed (length names) q × IsNamed (length names) p
  found-kept t named c number o v f line k right q p i j =
      let h = subst (IsByReplies (tuples_of program) t.history t.known) k.is right.by_replies in
      let callee : k.callee ≡ q = cc (k.callee_is, i) in
      let caller : k.caller ≡ p = cc (k.caller_is, j) in (
        subst (IsNamed (length names)) (h.call.callees ∙ callee) (IsNamed-canonical (length names) _ (call_atom-named (length names) t.history number named.boxes)),
        subst (IsNamed (length names)) (h.call.callers ∙ caller) (IsNamed-canonical (length names) _ (call_atom-named (length names) t.history c.caller named.boxes)),
      )

  call-holds : (t : LogState) → StateIsNamed (length names) t → (x : CallLine) (place : ℕ) (f : Finding) (line : ℕ) → IsRightFinding program t f line → (o : Option Led)
      → option_and_then (claim_with r ops x (take place x.text)) o ≡ Some (Finds f line)
      → option_and_then (claim_with s ops x (take place x.text)) o ≡ option_map (renumbered_claim b.numbering.to) (option_and_then (claim_with r ops x (take place x.text)) o)
  call-holds t named x place f line right None e = absurd cc
  call-holds t named x place f line right (Some l) e =
      let front : List ℕ = take place x.text in
      let k = of_atoms ops names x.whole x.calling l.number (is_callers ops names l.rest (called r ops x.calling front l)) (term_in r ops front) (term_in r ops l.rest) f line e in
      let i : CallIsKept r ops front l = found-kept t named x.calling l.number (term_in r ops front) (term_in r ops l.rest) f line k right in
      with-alike n names others a b ops few table r s x front l i (call-kept n names others a has ops few table r s front l i)

  found-holds : (t : LogState) → StateIsNamed (length names) t → (x : CallLine) → IsFoundIn program t (claim_parted r ops x) → IsFoundIn program (renumbered_state b.numbering.to t) (claim_parted s ops x)
  found-holds t named x h =
      let k = h.1 in
      let same : claim_parted s ops x h.0 ≡ option_map (renumbered_claim b.numbering.to) (claim_parted r ops x h.0) = call-holds t named x h.0 k.0 k.1 k.3 (box_first (drop h.0 x.text)) k.2 in
      (h.0, subst (IsFound program (renumbered_state b.numbering.to t)) (sym same) (found-renumbered n program first b.numbering t (claim_parted r ops x h.0) k))

  -- a line that isn't of a call
  plain-step : (t : LogState) → StateIsNamed (length names) t → (c d : Claim) → d ≡ renumbered_claim b.numbering.to c → IsJudged program t c None → ClaimIsNamed (length names) c → Step (length names) b.numbering.to program t c None d None
  plain-step t named c d e j i = record {
    judged = subst (λ k. IsJudged program (renumbered_state b.numbering.to t) k None) (sym e) (judged-renumbered n program first b.numbering t c None j);
    behind = ap (after_claim program (renumbered_state b.numbering.to t)) e ∙ after-renumbered n program first b.numbering t c;
    count = ap found_in e ∙ found_in-renumbered b.numbering.to c;
    named = after-named (length names) program t c clauses named i;
  }

  good : (t : LogState) (c : Claim) → IsJudged program t c None → c ≡ Garbled → ⊥
  good t c j e = let h : None ≡ Some why.Text = subst (λ k. IsJudged program t k None) e j in absurd cc

  step-of : (t : LogState) → StateIsNamed (length names) t → (in_group : Bool) (line : List ℕ) (lines : List (List ℕ)) (form : LineForm) → IsNoCall form
      → IsJudged program t (claim_by r ops in_group line lines form) None → ClaimIsNamed (length names) (claim_by r ops in_group line lines form)
      → Step (length names) b.numbering.to program t (claim_by r ops in_group line lines form) None (claim_by s ops in_group line lines form) None
  step-of t named in_group line lines form plain j i =
      plain-step t named (claim_by r ops in_group line lines form) (claim_by s ops in_group line lines form)
      (form-holds n names others a b has ops few table r s in_group line lines form plain (good t (claim_by r ops in_group line lines form) j) i) j i

  line-step : (t : LogState) → StateIsNamed (length names) t → (in_group : Bool) (line : List ℕ) (lines : List (List ℕ)) (form : LineForm)
      → IsJudgedBy program t (claim_by r ops in_group line lines form) (option_map (claim_parted r ops) (called_by line form)) None
      → IsNamedBy (length names) (claim_by r ops in_group line lines form) (option_map (claim_parted r ops) (called_by line form))
      → Step (length names) b.numbering.to program t (claim_by r ops in_group line lines form) (option_map (claim_parted r ops) (called_by line form))
      (claim_by s ops in_group line lines form) (option_map (claim_parted s ops) (called_by line form))
  line-step t named in_group line lines (Query goals) j i = step-of t named in_group line lines (Query goals) tt j i
  line-step t named in_group line lines (End ran) j i = step-of t named in_group line lines (End ran) tt j i
  line-step t named in_group line lines (Symptom said text) j i = step-of t named in_group line lines (Symptom said text) tt j i
  line-step t named in_group line lines (Framed frame text) j i = step-of t named in_group line lines (Framed frame text) tt j i
  line-step t named in_group line lines (Call c text) j i =
      record { judged = found-holds t named (record { calling = c; text = text; whole = with_newline line }) j; behind = refl; count = refl; named = named }
  line-step t named in_group line lines Candidates j i = step-of t named in_group line lines Candidates tt j i
  line-step t named in_group line lines Candidate j i = step-of t named in_group line lines Candidate tt j i
  line-step t named in_group line lines (Descent calls) j i = step-of t named in_group line lines (Descent calls) tt j i
  line-step t named in_group line lines Other j i = step-of t named in_group line lines Other tt j i
  line-step t named in_group line lines Unread j i = step-of t named in_group line lines Unread tt j i

  pub lines-hold : (t : LogState) → StateIsNamed (length names) t → (in_group : Bool) (number : ℕ) (lines : List (List ℕ)) (found count : ℕ) → AllSaidNamed (length names) (said_from r ops in_group number lines)
      → IsChecked program t found (said_from r ops in_group number lines) (checked.Holds count) → IsChecked program (renumbered_state b.numbering.to t) found (said_from s ops in_group number lines) (checked.Holds count)
  lines-hold t named in_group number [] found count i h = h
  lines-hold t named in_group number (line ∷ lines) found count i (inr h) = (let e : checked.Holds count ≡ checked.Fails number h.0 = h.2 in absurd cc)
  lines-hold t named in_group number (line ∷ lines) found count i (inl h) =
      let k = line-step t named in_group line lines (form_in line) h.0 i.0 in
      let c : Claim = claim_by r ops in_group line lines (form_in line) in
      let f : Option (ℕ → Option Claim) = option_map (claim_parted r ops) (called_by line (form_in line)) in
      let rest = lines-hold (after_by program t c f) k.named (goes_on in_group line) (number + 1) lines (found + found_by c f) count i.1 h.1 in
      inl (
        k.judged,
        subst (λ u. IsChecked program u (found + found_by (claim_by s ops in_group line lines (form_in line)) (option_map (claim_parted s ops) (called_by line (form_in line)))) (said_from s ops (goes_on in_group line) (number + 1) lines) (checked.Holds count)) (sym k.behind)
            (subst (λ m. IsChecked program (renumbered_state b.numbering.to (after_by program t c f)) (found + m) (said_from s ops (goes_on in_group line) (number + 1) lines) (checked.Holds count)) (sym k.count) rest),
      )
