-- The lines of candidates say them.
use Rattle.std.proofs.Common.{◌≡◌, ℕ, suc, ◌+◌, List, [], ◌∷◌, ◌++◌, length, length-append, map, refl, sym, ◌∙◌, ap, subst, append_assoc, append-nil, arith, Bool, Some, None}
use Rattle.std.specs.Prelude.{codes, if◌then◌else◌, flat_map}
use Rattle.std.specs.Fmt.{decimal}
use Rattle.std.specs.List.{AllByRecursion}
use Rattle.std.specs.Option.{option_map, option_and_then}
use Rattle.apd_term.specs.declared.instance.Instance.{Instance}
use Rattle.apd_term.specs.declared.tuple.Tuple.{Tuple}
use Rattle.apd_ops.specs.Table.{Table, IsTable}
use Rattle.apd_read.specs.Reader.{Reader}
use Rattle.apd_answers.specs.declared.finding.Finding.TheVariants.{Candidates}
use Rattle.apd_text.specs.ClauseTerms.{clause_term}
use Rattle.apd_text.specs.Dialogues.{candidate_text, clause_text, finding_text}
use Rattle.apd_text.specs.Entries.{text_of}
use Rattle.apd_text.specs.declared.entry.Entry.TheVariants as entry
use Rattle.apd_write.specs.Writing.{written}
use Rattle.apd_reading_back.specs.Law.{AreNames}
use Rattle.apd_claims.specs.declared.claim.Claim.TheVariants.{Finds}
use Rattle.apd_claims.specs.declared.form.LineForm.TheVariants as forms
use Rattle.apd_claims.specs.Claims.{claim_as}
use Rattle.apd_claims.specs.Forms.{form_in, with_newline}
use Rattle.apd_claims.specs.Parting.{called_by}
use Rattle.apd_parts.specs.Parts.{if_some}
use Rattle.apd_claims.specs.Reading.{as_clause}
use Rattle.apd_claims.specs.Sayable.{BeginsWithNone}
use Rattle.apd_claims.specs.Saying.{candidates_text, claim_by, group_claim, group_entry, group_text, instance_at, instance_in, instance_with, instances_in}
use Rattle.apd_written.specs.Claims.{canonical_instance, claims_of}
use Rattle.apd_written.specs.Says.{Says, AreCandidateLines, IsSaidWith, lines_before, no_line, some_lines}
use Rattle.apd_written.specs.Texts.{IsInstanceTellable, IsShort}
use Rattle.apd_written.proofs.Saying.{break-append}
use Rattle.apd_written.proofs.Breaks.{codes-break, decimal-break}
use Rattle.apd_written.proofs.Parts.{as-short, behind-two, drop-front, led-high}
use Rattle.apd_written.proofs.Entries.{claim-back}
use Rattle.apd_written.proofs.Questions.{canonical_tuple-again}
use Rattle.apd_written.proofs.Clauses.{clause-read, clause-back, clause-break}

-- the lines without their ends
abbrev candidate_rest : Table → List (List ℕ) → Instance → List ℕ
candidate_rest ops names c = decimal c.clause ++ (codes ": " ++ clause_text ops names c.tuple)

abbrev candidate_line : Table → List (List ℕ) → Instance → List ℕ
candidate_line ops names c = codes "candidate: clause " ++ candidate_rest ops names c

abbrev count_line : ℕ → List ℕ
count_line n = codes "candidates: " ++ decimal n

module _ (ops : Table) (names : List (List ℕ)) where
  abbrev candidate_lines : List Instance → List (List ℕ)
  candidate_lines cs = map (candidate_line ops names) cs

  candidate_text-is : (c : Instance) → candidate_text ops names c ≡ candidate_line ops names c ++ 10 ∷ []
  candidate_text-is c =
      let d = decimal c.clause in
      let x = clause_text ops names c.tuple in
      append_assoc (codes "candidate: clause " ++ d ++ codes ": ") x (10 ∷ [])
      ∙ append_assoc (codes "candidate: clause " ++ d) (codes ": ") (x ++ 10 ∷ [])
      ∙ append_assoc (codes "candidate: clause ") d (codes ": " ++ (x ++ 10 ∷ []))
      ∙ sym (ap (λ t. codes "candidate: clause " ++ t) (append_assoc d (58 ∷ 32 ∷ x) (10 ∷ [])))

  texts-are : (cs : List Instance) → flat_map (candidate_text ops names) cs ≡ lines_before (candidate_lines cs) []
  texts-are [] = refl
  texts-are (c ∷ cs) =
      ap (λ t. t ++ flat_map (candidate_text ops names) cs) (candidate_text-is c)
      ∙ append_assoc (candidate_line ops names c) (10 ∷ []) (flat_map (candidate_text ops names) cs)
      ∙ ap (λ t. candidate_line ops names c ++ 10 ∷ t) (texts-are cs)

  group-is : (cs : List Instance) (line : ℕ) → text_of ops names (entry.Found (Candidates cs) line) ≡ count_line (length cs) ++ 10 ∷ lines_before (candidate_lines cs) []
  unfolding text_of finding_text
  group-is cs line =
      append_assoc (codes "candidates: " ++ decimal (length cs)) (codes "\n") (flat_map (candidate_text ops names) cs)
      ∙ ap (λ t. (codes "candidates: " ++ decimal (length cs)) ++ 10 ∷ t) (texts-are cs)

  -- in canonical form they have the same lines
  line-again : (c : Instance) → candidate_line ops names (canonical_instance c) ≡ candidate_line ops names c
  line-again c = ap (λ (u : Tuple). codes "candidate: clause " ++ (decimal c.clause ++ (codes ": " ++ written ops names (clause_term u) 1200))) (canonical_tuple-again c.tuple)

  lines-again : (cs : List Instance) → candidate_lines (map canonical_instance cs) ≡ candidate_lines cs
  lines-again [] = refl
  lines-again (c ∷ cs) = ap (λ l. l ∷ candidate_lines (map canonical_instance cs)) (line-again c) ∙ ap (λ ls. candidate_line ops names c ∷ ls) (lines-again cs)

  length-again : (cs : List Instance) → length (map canonical_instance cs) ≡ length cs
  length-again [] = refl
  length-again (c ∷ cs) = ap suc (length-again cs)

  -- the text of these lines, before any others
  others-behind : (lines : List (List ℕ)) → BeginsWithNone lines → candidates_text lines ≡ []
  others-behind [] h = refl
  others-behind (l ∷ ls) h = ap (λ (b : Bool). if b then with_newline l ++ candidates_text ls else []) h

  candidates-behind : (cs : List Instance) (lines : List (List ℕ)) → BeginsWithNone lines → candidates_text (candidate_lines cs ++ lines) ≡ lines_before (candidate_lines cs) []
  candidates-behind [] lines h = others-behind lines h
  candidates-behind (c ∷ cs) lines h =
      append_assoc (candidate_line ops names c) (10 ∷ []) (candidates_text (candidate_lines cs ++ lines))
      ∙ ap (λ t. candidate_line ops names c ++ 10 ∷ t) (candidates-behind cs lines h)

candidate-form : (rest : List ℕ) → form_in (codes "candidate: clause " ++ rest) ≡ forms.Candidate
unfolding form_in
candidate-form rest = refl

count-form : (rest : List ℕ) → form_in (codes "candidates: " ++ rest) ≡ forms.Candidates
unfolding form_in
count-form rest = refl

-- a line of a text of lines that is short is short
lines-short : (line : List ℕ) (rest : List ℕ) → IsShort (line ++ 10 ∷ rest) → IsShort line × IsShort rest
lines-short line rest short =
    let whole : length (line ++ 10 ∷ rest) ≡ length line + length (10 ∷ rest) = length-append line (10 ∷ rest) in
    let behind : length (10 ∷ rest) ≡ suc (length rest) = refl in
    (omega (arith, short, whole), omega (arith, short, whole, behind))

module _ {names : List (List ℕ)} (reader : Reader names) (ops : Table) (table : IsTable ops) (all : AreNames names) where
  instance-back : (c : Instance) → IsInstanceTellable ops names c → IsShort (candidate_line ops names c) → instance_in reader ops (candidate_line ops names c) ≡ Some (canonical_instance c)
  instance-back c t short =
      let x = clause_text ops names c.tuple in
      let x_short : IsShort (as_clause x) = as-short x
      (drop-front 2 (codes ": ") x (drop-front 2 (decimal c.clause) (codes ": " ++ x) (behind-two (codes "candidate: clause ") (candidate_rest ops names c) 16 refl short))) in
      ap (option_and_then (instance_at reader ops)) (led-high 58 (codes " ") c.clause x t.few (omega arith))
      ∙ ap (option_map (instance_with c.clause)) (clause-read reader ops table all c.tuple t.clause x_short)
      ∙ ap (λ (u : Tuple). Some (record { clause = c.clause; tuple = u })) (clause-back reader ops table all c.tuple t.clause)

  others-none : (cs : List Instance) (lines : List (List ℕ)) → BeginsWithNone lines → instances_in reader ops cs lines ≡ Some cs
  others-none cs [] h = refl
  others-none cs (l ∷ ls) h = ap (λ (b : Bool). if b then if_some (instance_in reader ops l) (λ c. instances_in reader ops (cs ++ c ∷ []) ls) None else Some cs) h

  instances-back : (before cs : List Instance) (lines : List (List ℕ)) → AllByRecursion (IsInstanceTellable ops names) cs → IsShort (lines_before (candidate_lines ops names cs) []) → BeginsWithNone lines
      → instances_in reader ops before (candidate_lines ops names cs ++ lines) ≡ Some (before ++ map canonical_instance cs)
  instances-back before [] lines t short h = others-none before lines h ∙ ap Some (sym (append-nil before))
  instances-back before (c ∷ cs) lines t short h =
      let s = lines-short (candidate_line ops names c) (lines_before (candidate_lines ops names cs) []) short in
      ap (λ o. if_some o (λ x. instances_in reader ops (before ++ x ∷ []) (candidate_lines ops names cs ++ lines)) None) (instance-back c t.0 s.0)
      ∙ instances-back (before ++ canonical_instance c ∷ []) cs lines t.1 s.1 h
      ∙ ap Some (append_assoc before (canonical_instance c ∷ []) (map canonical_instance cs))

  are-candidates : (cs : List Instance) → AllByRecursion (IsInstanceTellable ops names) cs → AreCandidateLines (candidate_lines ops names cs)
  are-candidates [] t = tt
  are-candidates (c ∷ cs) t = (
    record {
      whole = break-append (codes "candidate: clause ") (candidate_rest ops names c) (codes-break (codes "candidate: clause ") refl)
          (break-append (decimal c.clause) (codes ": " ++ clause_text ops names c.tuple) (decimal-break c.clause) (refl, (refl, clause-break reader ops table all c.tuple t.0.clause)));
      begins_so = refl;
      form = candidate-form (candidate_rest ops names c);
    },
    are-candidates cs t.1,
  )

  module _ (cs : List Instance) (t : AllByRecursion (IsInstanceTellable ops names) cs) where
    abbrev found : List Instance
    found = map canonical_instance cs

    group-claim-is : (lines : List (List ℕ)) → BeginsWithNone lines → IsShort (lines_before (candidate_lines ops names cs) [])
        → group_claim reader ops (count_line (length cs)) (candidate_lines ops names cs ++ lines) ≡ Finds (Candidates found) 0
    group-claim-is lines h short =
        let text = group_text (count_line (length cs)) (candidate_lines ops names cs ++ lines) in
        let same : text_of ops names (group_entry found) ≡ text =
        group-is ops names found 0
        ∙ ap (λ n. count_line n ++ 10 ∷ lines_before (candidate_lines ops names found) []) (length-again ops names cs)
        ∙ ap (λ ls. count_line (length cs) ++ 10 ∷ lines_before ls []) (lines-again ops names cs)
        ∙ sym (append_assoc (count_line (length cs)) (10 ∷ []) (candidates_text (candidate_lines ops names cs ++ lines)) ∙ ap (λ r. count_line (length cs) ++ 10 ∷ r) (candidates-behind ops names cs lines h)) in
        ap (λ o. claim_as ops names text (option_map group_entry o)) (instances-back [] cs lines t short h)
        ∙ claim-back ops names text (group_entry found) same

    group-said : IsShort (lines_before (candidate_lines ops names cs) []) → IsSaidWith reader ops (count_line (length cs)) (candidate_lines ops names cs) (Finds (Candidates found) 0)
    group-said short = record {
      whole = break-append (codes "candidates: ") (decimal (length cs)) (codes-break (codes "candidates: ") refl) (decimal-break (length cs));
      alone = refl;
      no_call = ap (called_by (count_line (length cs))) (count-form (decimal (length cs)));
      opens = refl;
      are_candidates = are-candidates cs t;
      says = λ in_group lines h.
          ap (claim_by reader ops in_group (count_line (length cs)) (candidate_lines ops names cs ++ lines)) (count-form (decimal (length cs)))
          ∙ group-claim-is lines h short;
    }

    pub candidates-says : (line : ℕ) → IsShort (text_of ops names (entry.Found (Candidates cs) line)) → Says reader ops (text_of ops names (entry.Found (Candidates cs) line)) (claims_of (entry.Found (Candidates cs) line))
    candidates-says line short =
        let s = lines-short (count_line (length cs)) (lines_before (candidate_lines ops names cs) []) (subst IsShort (group-is ops names cs line) short) in
        subst (λ x. Says reader ops x (Finds (Candidates found) 0 ∷ [])) (sym (group-is ops names cs line))
        (some_lines (count_line (length cs)) (candidate_lines ops names cs) (group-said s.1) no_line)
