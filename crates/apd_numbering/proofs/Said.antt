-- The lines of a log whose names are kept say by the one reader what they say by the other, renumbered.
use Rattle.std.proofs.Common.{◌≡◌, ℕ, suc, ◌+◌, not, Bool, true, false, List, [], ◌∷◌, ◌++◌, length, take, drop, refl, sym, ◌∙◌, ap, subst, Option, None, Some}
use Rattle.std.specs.Prelude.{if◌then◌else◌, codes, IfSome}
use Rattle.std.specs.List.{AllByRecursion}
use Rattle.std.specs.Option.{option_and_then, option_map, option_or}
use Rattle.std.specs.Str.{bytes_eq}
use Rattle.std.proofs.lemmas.List.{map-append}
use mathlib.Core.Path.{fun_ext}
use Rattle.apd_answers.specs.declared.finding.Finding.TheVariants as findings
use Rattle.apd_causes.specs.declared.reading.Read.{Read}
use Rattle.apd_claims.specs.Claims.{call_between, call_entry, call_in, called, entry_for, is_operator, is_operator_read, may_end, or_garbled, query_claim, told, written}
use Rattle.apd_claims.specs.Forms.{form_in, with_newline}
use Rattle.apd_claims.specs.Parting.{called_by, claim_parted, claim_with, is_callers}
use Rattle.apd_claims.specs.Reading.{as_clause, reading, term_in}
use Rattle.apd_claims.specs.Saying.{claim_by, goes_on, group_entry, group_text, instance_at, instance_in, instance_with, instances_in, is_candidate, said_from}
use Rattle.apd_claims.specs.declared.claim.Claim.TheVariants.{Garbled}
use Rattle.apd_claims.specs.declared.form.Calling.{Calling}
use Rattle.apd_claims.specs.declared.form.LineForm.{LineForm}
use Rattle.apd_claims.specs.declared.form.LineForm.TheVariants.{Query, End, Symptom, Framed, Call, Candidates, Candidate, Descent, Other, Unread}
use Rattle.apd_claims.specs.declared.form.LineFrame.{LineFrame}
use Rattle.apd_claims.specs.declared.parting.CallLine.{CallLine}
use Rattle.apd_ops.specs.Table.{IsTable, Table}
use Rattle.apd_parts.specs.Parts.{Boxed, Led, box_first, boxed_in, boxed_where, if_some}
use Rattle.apd_parts.specs.declared.boxes.Quote.TheVariants.{Outside}
use Rattle.apd_read.specs.Reader.{Reader}
use Rattle.apd_term.specs.Named.{IsNamed}
use Rattle.apd_term.specs.Term.{Term, Terms, list_of, predicate_of}
use Rattle.apd_term.specs.declared.instance.Instance.{Instance}
use Rattle.apd_text.specs.declared.entry.Entry.{Entry}
use Rattle.apd_numbering.specs.Claims.{AreSaidAs, ArePartedAs, renumbered_claim}
use Rattle.apd_numbering.specs.Kept.{CallIsKept, FormIsKept, LineIsKept, TextIsKept, candidate_in}
use Rattle.apd_numbering.specs.Lists.{BeginAlike, HasFewOperators}
use Rattle.apd_numbering.specs.Renumbering.{renumbered, renumbered_instance}
use Rattle.apd_numbering.specs.Replies.{renumbered_instances}
use Rattle.apd_numbering.proofs.Boxes.{IsPlace, boxed-place, where-place}
use Rattle.apd_numbering.proofs.Entered.{EntriesTwins, claim_as-twins, descent_entry, entry-twins, finding_entry, garbled-twins, no_entry, question_entry, reply_entry, some_entry, then-twins, tuple_in-renumbered, tuple_in-shared}
use Rattle.apd_numbering.proofs.Exchanged.{Between}
use Rattle.apd_numbering.proofs.Queries.{query-renumbered}
use Rattle.apd_numbering.proofs.Readings.{treats-alike}
use Rattle.apd_numbering.proofs.Tests.{or-map}
use Rattle.apd_numbering.proofs.Texts.{TupleIsShared, atom_text-renumbered}
use Rattle.apd_numbering.proofs.TextsRead.{ReadAlike, TermsAlike, TermsTwins, both_terms, kept-reading, no_term, none_alike, none_read, read_alike, reading-twins, term-twins, terms_alike}
use Rattle.apd_numbering.proofs.TwinPlaces.{TreatsAlike}
use Rattle.apd_numbering.proofs.Twins.{AllTwins, AreOfOneText, AreTwins, compound_twin, integer_twin, more_twin, none_twin, variable_twin}
use Rattle.apd_numbering.proofs.Written.{twins-renumbered}

count-same : (one : ℕ → ℕ → Type 0) {ts us : Terms} → AllTwins one ts us → length (list_of us) ≡ length (list_of ts)
count-same one none_twin = refl
count-same one (more_twin h hs) = ap suc (count-same one hs)

operator-same : (one : ℕ → ℕ → Type 0) (ops : Table) → TreatsAlike one ops → {t u : Term} → AreTwins one t u → is_operator ops (predicate_of u) ≡ is_operator ops (predicate_of t)
operator-same one ops fair (variable_twin v) = refl
operator-same one ops fair (integer_twin i) = refl
operator-same one ops fair (compound_twin f g h hs) = rw (count-same one hs, fair.prefixes f.0 g.0 h, fair.infixes f.0 g.0 h) refl

operator_read-same : (one : ℕ → ℕ → Type 0) (ops : Table) → TreatsAlike one ops → {o u : Option Term} → TermsTwins one o u → is_operator_read ops u ≡ is_operator_read ops o
operator_read-same one ops fair no_term = refl
operator_read-same one ops fair (both_terms t u h) = operator-same one ops fair h

-- the terms of what was read
terms-of : (names others : List (List ℕ)) (r : ℕ → ℕ) {o u : Option Read} → ReadAlike names others r o u → TermsAlike names others r (option_map (λ (p : Read). p.term) o) (option_map (λ (p : Read). p.term) u)
terms-of names others r none_read = none_alike
terms-of names others r (read_alike p q e f i) = subst (λ t. TermsAlike names others r (Some p.term) (Some t)) (sym e) (terms_alike p.term i)

data InstanceAlike (names others : List (List ℕ)) (r : ℕ → ℕ) : Option Instance → Option Instance → Type 0 where
  no_instance : InstanceAlike names others r None None
  one_instance : (c : Instance) → TupleIsShared names others r c.tuple → InstanceAlike names others r (Some c) (Some (renumbered_instance r c))

pub data InstancesAlike (names others : List (List ℕ)) (r : ℕ → ℕ) : Option (List Instance) → Option (List Instance) → Type 0 where
  no_instances : InstancesAlike names others r None None
  all_instances : (cs : List Instance) → AllByRecursion (λ (c : Instance). TupleIsShared names others r c.tuple) cs → InstancesAlike names others r (Some cs) (Some (renumbered_instances r cs))

pub shared-push : (names others : List (List ℕ)) (r : ℕ → ℕ) (cs : List Instance) (c : Instance) → AllByRecursion (λ (c : Instance). TupleIsShared names others r c.tuple) cs → TupleIsShared names others r c.tuple
    → AllByRecursion (λ (c : Instance). TupleIsShared names others r c.tuple) (cs ++ c ∷ [])
shared-push names others r [] c all i = (i, tt)
shared-push names others r (d ∷ cs) c all i = (all.0, shared-push names others r cs c all.1 i)

module _ (n : ℕ) (names others : List (List ℕ)) (a : BeginAlike n names others) (b : Between n names others) (ops : Table) (few : HasFewOperators n ops) (table : IsTable ops) (r : Reader names) (s : Reader others) where
  reading-alike : (text : List ℕ) → TextIsKept r ops text → TextIsKept s ops text → ReadAlike names others b.numbering.to (reading r ops text) (reading s ops text)
  reading-alike text i j = kept-reading n names others b (reading-twins n names others a ops few table r s text) i j

  term-alike : (text : List ℕ) → TextIsKept r ops (as_clause text) → TextIsKept s ops (as_clause text) → TermsAlike names others b.numbering.to (term_in r ops text) (term_in s ops text)
  term-alike text i j = terms-of names others b.numbering.to (reading-alike (as_clause text) i j)

  -- Queries and symptoms.

  run-alike : {o u : Option Read} → ReadAlike names others b.numbering.to o u → if_some u query_claim Garbled ≡ renumbered_claim b.numbering.to (if_some o query_claim Garbled)
  run-alike none_read = refl
  run-alike (read_alike p q e f i) = query-renumbered n b.numbering p q e f

  symptom-alike : (said : Bool) {o u : Option Term} → TermsAlike names others b.numbering.to o u → if_some u (told said) Garbled ≡ renumbered_claim b.numbering.to (if_some o (told said) Garbled)
  symptom-alike said none_alike = refl
  symptom-alike true (terms_alike t i) = refl
  symptom-alike false (terms_alike t i) = refl

  -- Texts in a frame.

  frame-alike : (frame : LineFrame) {o u : Option Term} → TermsAlike names others b.numbering.to o u → EntriesTwins names others b.numbering.to (option_and_then (entry_for frame) o) (option_and_then (entry_for frame) u)
  frame-alike frame none_alike = no_entry
  frame-alike frame (terms_alike t i) = entry-twins n names others a b ops few frame t i

  -- Calls.

  pair-alike : (c : Calling) (number : ℕ) {o u v w : Option Term} → TermsTwins (AreOfOneText names others) o u → TermsTwins (AreOfOneText names others) v w
      → ((q p : Term) → o ≡ Some q → v ≡ Some p → IsNamed (length names) q × IsNamed (length names) p) → ((q p : Term) → u ≡ Some q → w ≡ Some p → IsNamed (length others) q × IsNamed (length others) p)
      → EntriesTwins names others b.numbering.to (if_some o (λ q. option_map (call_entry c number q) v) None) (if_some u (λ q. option_map (call_entry c number q) w) None)
  pair-alike c number no_term k i j = no_entry
  pair-alike c number (both_terms q q' h) no_term i j = no_entry
  pair-alike c number (both_terms q q' h) (both_terms p p' k) i j =
      let m = i q p refl refl in
      let o = j q' p' refl refl in
      let first = twins-renumbered n names others b h m.0 o.0 in
      let second = twins-renumbered n names others b k m.1 o.1 in
      subst (λ t. EntriesTwins names others b.numbering.to (Some (call_entry c number q p)) (Some (call_entry c number t p'))) (sym first.0)
      (subst (λ t. EntriesTwins names others b.numbering.to (Some (call_entry c number q p)) (Some (call_entry c number (renumbered b.numbering.to q) t))) (sym second.0)
      (some_entry (finding_entry (findings.Violation c.clause c.goal c.caller number p q) c.line (second.1, first.1))))

  called-alike : (c : Calling) (front : List ℕ) (l : Led) → CallIsKept r ops front l → CallIsKept s ops front l → EntriesTwins names others b.numbering.to (called r ops c front l) (called s ops c front l)
  called-alike c front l i j = pair-alike c l.number (term-twins n names others a ops few table r s front) (term-twins n names others a ops few table r s l.rest) i j

  callers-alike : (text : List ℕ) {o u : Option Entry} → EntriesTwins names others b.numbering.to o u → is_callers ops others text u ≡ is_callers ops names text o
  callers-alike text no_entry = refl
  callers-alike text (some_entry (question_entry number q i)) = refl
  callers-alike text (some_entry (reply_entry reply left by_reference i)) = refl
  callers-alike text (some_entry (finding_entry (findings.WrongInstance clause t) line i)) = refl
  callers-alike text (some_entry (finding_entry (findings.Uncovered goal) line i)) = refl
  callers-alike text (some_entry (finding_entry (findings.Violation clause goal caller callee p q) line i)) = ap (λ t. bytes_eq t text) (atom_text-renumbered n names others a b ops few p i.0)
  callers-alike text (some_entry (finding_entry (findings.Candidates cs) line i)) = refl
  callers-alike text (some_entry (descent_entry calls)) = refl

  may_end-same : (word : List ℕ) → may_end s ops word ≡ may_end r ops word
  may_end-same [] = refl
  may_end-same (c ∷ word) = ap not (operator_read-same (AreOfOneText names others) ops (treats-alike n names others a ops few) (term-twins n names others a ops few table r s (c ∷ word)))

  between-alike : (whole : List ℕ) (c : Calling) (text : List ℕ) → FormIsKept r ops (Call c text) → FormIsKept s ops (Call c text) → (o : Option Boxed) → ((p : Boxed) → o ≡ Some p → IsPlace text p)
      → option_and_then (call_between s ops whole c) o ≡ option_map (renumbered_claim b.numbering.to) (option_and_then (call_between r ops whole c) o)
  between-alike whole c text i j None place = refl
  between-alike whole c text i j (Some p) place =
      let k = place p refl in
      then-twins n names others a b ops few whole
      (called-alike c p.front p.led (subst (λ front. CallIsKept r ops front p.led) (sym k.front) (i k.place p.led k.behind)) (subst (λ front. CallIsKept s ops front p.led) (sym k.front) (j k.place p.led k.behind)))

  call_in-alike : (whole : List ℕ) (c : Calling) (text : List ℕ) → FormIsKept r ops (Call c text) → FormIsKept s ops (Call c text)
      → call_in s ops whole c text ≡ option_map (renumbered_claim b.numbering.to) (call_in r ops whole c text)
  call_in-alike whole c text i j =
      let test : may_end s ops ≡ may_end r ops = fun_ext may_end-same in
      ap (λ f. option_or (option_and_then (call_between s ops whole c) (boxed_in Outside text)) (option_and_then (call_between s ops whole c) (boxed_where f Outside [] text))) test
      ∙ ap (λ o. option_or o (option_and_then (call_between s ops whole c) (boxed_where (may_end r ops) Outside [] text))) (between-alike whole c text i j (boxed_in Outside text) (boxed-place Outside text))
      ∙ ap (λ o. option_or (option_map (renumbered_claim b.numbering.to) (option_and_then (call_between r ops whole c) (boxed_in Outside text))) o)
      (between-alike whole c text i j (boxed_where (may_end r ops) Outside [] text) (where-place (may_end r ops) Outside [] text))
      ∙ or-map (renumbered_claim b.numbering.to) (option_and_then (call_between r ops whole c) (boxed_in Outside text)) (option_and_then (call_between r ops whole c) (boxed_where (may_end r ops) Outside [] text))

  pub with-alike : (x : CallLine) (front : List ℕ) (l : Led) → CallIsKept r ops front l → CallIsKept s ops front l → claim_with s ops x front l ≡ option_map (renumbered_claim b.numbering.to) (claim_with r ops x front l)
  with-alike x front l i j =
      let entry = called-alike x.calling front l i j in
      ap (λ c. if c then option_and_then (written ops others x.whole) (called s ops x.calling front l) else None) (callers-alike l.rest entry)
      ∙ by (is_callers ops names l.rest (called r ops x.calling front l)) (then-twins n names others a b ops few x.whole entry)
    where
      by : (c : Bool) → option_and_then (written ops others x.whole) (called s ops x.calling front l) ≡ option_map (renumbered_claim b.numbering.to) (option_and_then (written ops names x.whole) (called r ops x.calling front l))
          → (if c then option_and_then (written ops others x.whole) (called s ops x.calling front l) else None)
          ≡ option_map (renumbered_claim b.numbering.to) (if c then option_and_then (written ops names x.whole) (called r ops x.calling front l) else None)
      by true e = e
      by false e = refl

  parted-alike : (x : CallLine) → FormIsKept r ops (Call x.calling x.text) → FormIsKept s ops (Call x.calling x.text) → (place : ℕ) → claim_parted s ops x place ≡ option_map (renumbered_claim b.numbering.to) (claim_parted r ops x place)
  parted-alike x i j place = by (box_first (drop place x.text)) (λ l e. with-alike x (take place x.text) l (i place l e) (j place l e))
    where
      by : (o : Option Led) → ((l : Led) → o ≡ Some l → claim_with s ops x (take place x.text) l ≡ option_map (renumbered_claim b.numbering.to) (claim_with r ops x (take place x.text) l))
          → option_and_then (claim_with s ops x (take place x.text)) o ≡ option_map (renumbered_claim b.numbering.to) (option_and_then (claim_with r ops x (take place x.text)) o)
      by None h = refl
      by (Some l) h = h l refl

  -- Candidates.

  instance-alike : (o : Option Led) → IfSome o (λ l. TextIsKept r ops (as_clause l.rest)) → IfSome o (λ l. TextIsKept s ops (as_clause l.rest))
      → InstanceAlike names others b.numbering.to (option_and_then (instance_at r ops) o) (option_and_then (instance_at s ops) o)
  instance-alike None i j = no_instance
  instance-alike (Some l) i j = by (term-alike l.rest i j)
    where
      by : {o u : Option Term} → TermsAlike names others b.numbering.to o u → InstanceAlike names others b.numbering.to (option_map (instance_with l.number) o) (option_map (instance_with l.number) u)
      by none_alike = no_instance
      by (terms_alike t k) =
          subst (λ c. InstanceAlike names others b.numbering.to (Some (instance_with l.number t)) (Some (record { clause = l.number; tuple = c }))) (sym (tuple_in-renumbered n b.numbering t))
          (one_instance (instance_with l.number t) (tuple_in-shared names others b.numbering.to t k))

  instances-alike : (lines : List (List ℕ)) → AllByRecursion (LineIsKept r ops) lines → AllByRecursion (LineIsKept s ops) lines
      → (cs : List Instance) → AllByRecursion (λ (c : Instance). TupleIsShared names others b.numbering.to c.tuple) cs
      → InstancesAlike names others b.numbering.to (instances_in r ops cs lines) (instances_in s ops (renumbered_instances b.numbering.to cs) lines)
  instances-alike [] i j cs all = all_instances cs all
  instances-alike (line ∷ lines) i j cs all = by (instances-alike lines i.1 j.1) (is_candidate line)
    where
      further : ((ds : List Instance) → AllByRecursion (λ (c : Instance). TupleIsShared names others b.numbering.to c.tuple) ds → InstancesAlike names others b.numbering.to (instances_in r ops ds lines) (instances_in s ops (renumbered_instances b.numbering.to ds) lines))
          → {o u : Option Instance} → InstanceAlike names others b.numbering.to o u
          → InstancesAlike names others b.numbering.to (if_some o (λ c. instances_in r ops (cs ++ c ∷ []) lines) None) (if_some u (λ c. instances_in s ops (renumbered_instances b.numbering.to cs ++ c ∷ []) lines) None)
      further h no_instance = no_instances
      further h (one_instance c k) =
          subst (λ ds. InstancesAlike names others b.numbering.to (instances_in r ops (cs ++ c ∷ []) lines) (instances_in s ops ds lines)) (map-append (renumbered_instance b.numbering.to) cs (c ∷ []))
          (h (cs ++ c ∷ []) (shared-push names others b.numbering.to cs c all k))

      by : ((ds : List Instance) → AllByRecursion (λ (c : Instance). TupleIsShared names others b.numbering.to c.tuple) ds → InstancesAlike names others b.numbering.to (instances_in r ops ds lines) (instances_in s ops (renumbered_instances b.numbering.to ds) lines))
          → (c : Bool) → InstancesAlike names others b.numbering.to (if c then if_some (instance_in r ops line) (λ c. instances_in r ops (cs ++ c ∷ []) lines) None else Some cs)
          (if c then if_some (instance_in s ops line) (λ c. instances_in s ops (renumbered_instances b.numbering.to cs ++ c ∷ []) lines) None else Some (renumbered_instances b.numbering.to cs))
      by h true = further h (instance-alike (candidate_in line) i.0.candidate j.0.candidate)
      by h false = all_instances cs all

  pub group-alike : {o u : Option (List Instance)} → InstancesAlike names others b.numbering.to o u → EntriesTwins names others b.numbering.to (option_map group_entry o) (option_map group_entry u)
  group-alike no_instances = no_entry
  group-alike (all_instances cs all) = some_entry (finding_entry (findings.Candidates cs) 0 all)

  -- Lines.

  form-alike : (in_group : Bool) (line : List ℕ) (lines : List (List ℕ)) → AllByRecursion (LineIsKept r ops) lines → AllByRecursion (LineIsKept s ops) lines → (form : LineForm) → FormIsKept r ops form → FormIsKept s ops form
      → claim_by s ops in_group line lines form ≡ renumbered_claim b.numbering.to (claim_by r ops in_group line lines form)
  form-alike in_group line lines i j (Query goals) k m = run-alike (reading-alike (codes "?- " ++ as_clause goals) k m)
  form-alike in_group line lines i j (End ran) k m = refl
  form-alike in_group line lines i j (Symptom is_true text) k m = symptom-alike is_true (term-alike text k m)
  form-alike in_group line lines i j (Framed frame text) k m = claim_as-twins n names others a b ops few (with_newline line) (frame-alike frame (term-alike text k m))
  form-alike in_group line lines i j (Call c text) k m =
      ap or_garbled (call_in-alike (with_newline line) c text k m) ∙ garbled-twins n names others a b ops few (call_in r ops (with_newline line) c text)
  form-alike in_group line lines i j Candidates k m = claim_as-twins n names others a b ops few (group_text line lines) (group-alike (instances-alike lines i j [] tt))
  form-alike true line lines i j Candidate k m = refl
  form-alike false line lines i j Candidate k m = refl
  form-alike in_group line lines i j (Descent calls) k m = claim_as-twins n names others a b ops few (with_newline line) (some_entry (descent_entry calls))
  form-alike in_group line lines i j Other k m = refl
  form-alike in_group line lines i j Unread k m = refl

  places-alike : (line : List ℕ) (form : LineForm) → FormIsKept r ops form → FormIsKept s ops form
      → ArePartedAs b.numbering.to (option_map (claim_parted r ops) (called_by line form)) (option_map (claim_parted s ops) (called_by line form))
  places-alike line (Query goals) k m = tt
  places-alike line (End ran) k m = tt
  places-alike line (Symptom is_true text) k m = tt
  places-alike line (Framed frame text) k m = tt
  places-alike line (Call c text) k m = parted-alike (record { calling = c; text = text; whole = with_newline line }) k m
  places-alike line Candidates k m = tt
  places-alike line Candidate k m = tt
  places-alike line (Descent calls) k m = tt
  places-alike line Other k m = tt
  places-alike line Unread k m = tt

  pub said-alike : (in_group : Bool) (number : ℕ) (lines : List (List ℕ)) → AllByRecursion (LineIsKept r ops) lines → AllByRecursion (LineIsKept s ops) lines
      → AreSaidAs b.numbering.to (said_from r ops in_group number lines) (said_from s ops in_group number lines)
  said-alike in_group number [] i j = tt
  said-alike in_group number (line ∷ lines) i j = (
    record {
      line = refl;
      claim = form-alike in_group line lines i.1 j.1 (form_in line) i.0.form j.0.form;
      parted = places-alike line (form_in line) i.0.form j.0.form;
    },
    said-alike (goes_on in_group line) (number + 1) lines i.1 j.1,
  )
