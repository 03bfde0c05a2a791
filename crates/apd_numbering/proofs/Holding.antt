-- A log that holds, and says what has kept names, holds under any names that have these.
use Rattle.std.proofs.Common.{◌≡◌, ℕ, ◌≤◌, Bool, true, false, List, [], ◌∷◌, ◌++◌, length, refl, sym, ◌∙◌, ap, subst, arith, Option, None, Some, append_assoc, length-append}
use Rattle.std.specs.Prelude.{if◌then◌else◌, codes, ⊤}
use Rattle.std.specs.Bool.{then_some}
use Rattle.std.specs.List.{AllByRecursion}
use Rattle.std.specs.Option.{option_and_then, option_map}
use Rattle.std.proofs.lemmas.List.{append-nil, map-append}
use Rattle.apd_answers.specs.declared.finding.Finding.TheVariants as findings
use Rattle.apd_answers.specs.declared.question.Question.TheVariants as asks
use Rattle.apd_answers.specs.declared.question.Reply.{Reply}
use Rattle.apd_causes.specs.declared.reading.Read.{Read}
use Rattle.apd_claims.specs.Claims.{asked, claim_as, claim_of, entry_for, is_text, or_garbled, query_claim, replied, reply_in, told, tuple_in}
use Rattle.apd_claims.specs.Forms.{with_newline}
use Rattle.apd_claims.specs.Reading.{as_clause}
use Rattle.apd_claims.specs.Saying.{claim_by, group_entry, group_text, instance_at, instance_in, instance_with, instances_in, is_candidate}
use Rattle.apd_claims.specs.declared.claim.Claim.TheVariants.{Garbled}
use Rattle.apd_claims.specs.declared.form.LineForm.{LineForm}
use Rattle.apd_claims.specs.declared.form.LineForm.TheVariants.{Query, End, Symptom, Framed, Call, Candidates, Candidate, Descent, Other, Unread}
use Rattle.apd_claims.specs.declared.form.LineFrame.{LineFrame}
use Rattle.apd_claims.specs.declared.form.LineFrame.TheVariants.{Truth, Cover, Order, Reply as Answer, Instance as OfClause, Uncovered}
use Rattle.apd_claims.specs.declared.form.NumberedQuestion.{NumberedQuestion}
use Rattle.apd_ops.specs.Table.{IsTable, Table}
use Rattle.apd_parts.specs.Parts.{Led, if_some}
use Rattle.apd_read.specs.Reader.{Reader}
use Rattle.apd_term.specs.Named.{IsNamed, TupleIsNamed}
use Rattle.apd_term.specs.Term.{Term}
use Rattle.apd_term.specs.declared.instance.Instance.{Instance}
use Rattle.apd_term.proofs.FirstNames.{length-standard_names}
use Rattle.apd_text.specs.declared.entry.Entry.{Entry}
use Rattle.apd_text.specs.declared.entry.Entry.TheVariants as entries
use Rattle.apd_numbering.specs.Claims.{renumbered_claim}
use Rattle.apd_numbering.specs.Kept.{candidate_in}
use Rattle.apd_numbering.specs.Lists.{BeginAlike, HasAll, HasFewOperators}
use Rattle.apd_numbering.specs.Renumbering.{renumbered, renumbered_instance}
use Rattle.apd_numbering.specs.Replies.{renumbered_instances}
use Rattle.apd_numbering.specs.Said.{ClaimIsNamed}
use Rattle.apd_numbering.proofs.Entered.{EntriesTwins, asked-twins, claim_as-twins, descent_entry, entry-twins, no_entry, some_entry, tuple_in-renumbered, tuple_in-shared}
use Rattle.apd_numbering.proofs.Exchanged.{Between}
use Rattle.apd_numbering.proofs.KeptMore.{twins-kept}
use Rattle.apd_numbering.proofs.NamedBack.{canonical-back, canonical_tuple-back, query-back, reply_in-back, tuple_in-back}
use Rattle.apd_numbering.proofs.Queries.{query-renumbered}
use Rattle.apd_numbering.proofs.Said.{InstancesAlike, all_instances, group-alike, no_instances, shared-push}
use Rattle.apd_numbering.proofs.Texts.{TupleIsShared}
use Rattle.apd_numbering.proofs.TextsRead.{TermsTwins, TextsTwins, both_reads, both_terms, neither_reads, no_term, reading-twins, term-twins}
use Rattle.apd_numbering.proofs.Twins.{AreOfOneText, AreTwins, compound_twin, integer_twin, more_twin, none_twin, variable_twin}
use Rattle.apd_numbering.proofs.Written.{IsShared, twins-renumbered}

-- the line isn't that of a call
abbrev pub IsNoCall : LineForm → Type 0
IsNoCall (Query goals) = ⊤
IsNoCall (End ran) = ⊤
IsNoCall (Symptom is_true text) = ⊤
IsNoCall (Framed frame text) = ⊤
IsNoCall (Call c text) = ⊥
IsNoCall Candidates = ⊤
IsNoCall Candidate = ⊤
IsNoCall (Descent calls) = ⊤
IsNoCall Other = ⊤
IsNoCall Unread = ⊤

all-middle : {A : Type 0} (P : A → Type 0) (xs : List A) (x : A) (more : List A) → AllByRecursion P ((xs ++ x ∷ []) ++ more) → P x
all-middle P [] x more h = h.0
all-middle P (y ∷ xs) x more h = all-middle P xs x more h.1

module _ (n : ℕ) (names others : List (List ℕ)) (a : BeginAlike n names others) (b : Between n names others) (has : HasAll names others) (ops : Table) (few : HasFewOperators n ops) (table : IsTable ops) (r : Reader names) (s : Reader others) where
  many : 132 ≤ length names
  many =
      let grown = ap (length {A = List ℕ}) a.names_grown.1 in
      omega (arith, b.numbering.standard, length-standard_names, grown, a.count, length-append a.first a.names_grown.0)

  kept : {t u : Term} → AreTwins (AreOfOneText names others) t u → IsNamed (length names) t → (u ≡ renumbered b.numbering.to t) × IsShared names others b.numbering.to t
  kept h i = twins-renumbered n names others b h i (twins-kept names others has h i)

  -- What is written of an entry is what it says.

  known-claim : (whole : List ℕ) (e : Entry) → (claim_as ops names whole (Some e) ≡ Garbled → ⊥) → ClaimIsNamed (length names) (claim_as ops names whole (Some e)) → ClaimIsNamed (length names) (claim_of e)
  known-claim whole e good i = by (is_text ops names whole e) good i
    where
      by : (c : Bool) → (or_garbled (then_some c (claim_of e)) ≡ Garbled → ⊥) → ClaimIsNamed (length names) (or_garbled (then_some c (claim_of e))) → ClaimIsNamed (length names) (claim_of e)
      by true h j = j
      by false h j = absurd (h refl)

  kept-entry : (frame : LineFrame) {t u : Term} → AreTwins (AreOfOneText names others) t u → IsNamed (length names) t → EntriesTwins names others b.numbering.to (entry_for frame t) (entry_for frame u)
  kept-entry frame {t} h i =
      let k = kept h i in
      subst (λ v. EntriesTwins names others b.numbering.to (entry_for frame t) (entry_for frame v)) (sym k.0) (entry-twins n names others a b ops few frame t k.1)

  order-entry : (place : NumberedQuestion) (whole : List ℕ) {t u : Term} → AreTwins (AreOfOneText names others) t u → (claim_as ops names whole (entry_for (Order place) t) ≡ Garbled → ⊥)
      → ClaimIsNamed (length names) (claim_as ops names whole (entry_for (Order place) t)) → EntriesTwins names others b.numbering.to (entry_for (Order place) t) (entry_for (Order place) u)
  order-entry place whole (variable_twin v) good i = no_entry
  order-entry place whole (integer_twin z) good i = no_entry
  order-entry place whole (compound_twin f g h none_twin) good i = no_entry
  order-entry place whole (compound_twin f g h (more_twin j none_twin)) good i = no_entry
  order-entry place whole (compound_twin f g h (more_twin {t = q} {u = x} j (more_twin {t = p} {u = y} k none_twin))) good i =
      let c = known-claim whole (asked place (asks.Below q p)) good i in
      let first = kept j (canonical-back (length names) q c.0) in
      let second = kept k (canonical-back (length names) p c.1) in
      subst (λ z. EntriesTwins names others b.numbering.to (Some (asked place (asks.Below q p))) (Some (asked place (asks.Below z y)))) (sym first.0)
      (subst (λ z. EntriesTwins names others b.numbering.to (Some (asked place (asks.Below q p))) (Some (asked place (asks.Below (renumbered b.numbering.to q) z)))) (sym second.0)
      (some_entry (asked-twins n names others a b ops few place (asks.Below q p) (first.1, second.1))))
  order-entry place whole (compound_twin f g h (more_twin j (more_twin k (more_twin l m)))) good i = no_entry

  answer-named : (whole : List ℕ) (left : Option ℕ) (by_reference : Bool) (t : Term) (o : Option Reply) → reply_in t ≡ o → (claim_as ops names whole (option_map (replied left by_reference) o) ≡ Garbled → ⊥)
      → ClaimIsNamed (length names) (claim_as ops names whole (option_map (replied left by_reference) o)) → IsNamed (length names) t
  answer-named whole left by_reference t None e good i = absurd (good refl)
  answer-named whole left by_reference t (Some reply) e good i = reply_in-back (length names) many t reply e (known-claim whole (replied left by_reference reply) good i)

  frame-holds : (frame : LineFrame) (whole : List ℕ) {o u : Option Term} → TermsTwins (AreOfOneText names others) o u → (claim_as ops names whole (option_and_then (entry_for frame) o) ≡ Garbled → ⊥)
      → ClaimIsNamed (length names) (claim_as ops names whole (option_and_then (entry_for frame) o)) → EntriesTwins names others b.numbering.to (option_and_then (entry_for frame) o) (option_and_then (entry_for frame) u)
  frame-holds frame whole no_term good i = no_entry
  frame-holds (Truth place) whole (both_terms t u h) good i = kept-entry (Truth place) h (canonical-back (length names) t (known-claim whole (asked place (asks.True t)) good i))
  frame-holds (Cover place) whole (both_terms t u h) good i =
      kept-entry (Cover place) h (tuple_in-back (length names) many t (canonical_tuple-back (length names) (tuple_in t) (known-claim whole (asked place (asks.Covers (tuple_in t))) good i)))
  frame-holds (Order place) whole (both_terms t u h) good i = order-entry place whole h good i
  frame-holds (Answer left by_reference) whole (both_terms t u h) good i = kept-entry (Answer left by_reference) h (answer-named whole left by_reference t (reply_in t) refl good i)
  frame-holds (OfClause clause line) whole (both_terms t u h) good i =
      kept-entry (OfClause clause line) h (tuple_in-back (length names) many t (known-claim whole (entries.Found (findings.WrongInstance clause (tuple_in t)) line) good i))
  frame-holds Uncovered whole (both_terms t u h) good i = kept-entry Uncovered h (known-claim whole (entries.Found (findings.Uncovered t) 0) good i)

  -- Candidates.

  abbrev AreNamedInstances : List Instance → Type 0
  AreNamedInstances cs = AllByRecursion (λ (c : Instance). TupleIsNamed (length names) c.tuple) cs

  abbrev AreSharedInstances : List Instance → Type 0
  AreSharedInstances cs = AllByRecursion (λ (c : Instance). TupleIsShared names others b.numbering.to c.tuple) cs

  -- those that were read begin with those that were there
  instances-begin : (lines : List (List ℕ)) (cs all : List Instance) → instances_in r ops cs lines ≡ Some all → (more : List Instance) × (all ≡ cs ++ more)
  instances-begin [] cs all e = let same : cs ≡ all = cc in ([], sym same ∙ sym (append-nil cs))
  instances-begin (line ∷ lines) cs all e = by (is_candidate line) (instance_in r ops line) (λ c h. instances-begin lines (cs ++ c ∷ []) all h) e
    where
      by : (x : Bool) (o : Option Instance) → ((c : Instance) → instances_in r ops (cs ++ c ∷ []) lines ≡ Some all → (more : List Instance) × (all ≡ (cs ++ c ∷ []) ++ more))
          → (if x then if_some o (λ c. instances_in r ops (cs ++ c ∷ []) lines) None else Some cs) ≡ Some all → (more : List Instance) × (all ≡ cs ++ more)
      by true None h k = absurd cc
      by true (Some c) h k = let m = h c k in (c ∷ m.0, m.1 ∙ append_assoc cs (c ∷ []) m.0)
      by false o h k = let same : cs ≡ all = cc in ([], sym same ∙ sym (append-nil cs))

  abbrev Further : List (List ℕ) → List Instance → Type 0
  Further lines all = (cs : List Instance) → AreSharedInstances cs → instances_in r ops cs lines ≡ Some all → InstancesAlike names others b.numbering.to (instances_in r ops cs lines) (instances_in s ops (renumbered_instances b.numbering.to cs) lines)

  instances-read : (number : ℕ) (lines : List (List ℕ)) (cs all : List Instance) → AreSharedInstances cs → AreNamedInstances all → Further lines all → {o u : Option Term} → TermsTwins (AreOfOneText names others) o u
      → if_some (option_map (instance_with number) o) (λ c. instances_in r ops (cs ++ c ∷ []) lines) None ≡ Some all
      → InstancesAlike names others b.numbering.to (if_some (option_map (instance_with number) o) (λ c. instances_in r ops (cs ++ c ∷ []) lines) None)
      (if_some (option_map (instance_with number) u) (λ c. instances_in s ops (renumbered_instances b.numbering.to cs ++ c ∷ []) lines) None)
  instances-read number lines cs all shared named further no_term e = no_instances
  instances-read number lines cs all shared named further (both_terms t u h) e =
      let c : Instance = instance_with number t in
      let m = instances-begin lines (cs ++ c ∷ []) all e in
      let i : IsNamed (length names) t = tuple_in-back (length names) many t (all-middle (λ (d : Instance). TupleIsNamed (length names) d.tuple) cs c m.0 (subst AreNamedInstances m.1 named)) in
      let k = kept h i in
      let one : TupleIsShared names others b.numbering.to c.tuple = tuple_in-shared names others b.numbering.to t k.1 in
      let rest = further (cs ++ c ∷ []) (shared-push names others b.numbering.to cs c shared one) e in
      let same : instance_with number u ≡ renumbered_instance b.numbering.to c =
      ap (instance_with number) k.0 ∙ ap (λ v. record { clause = number; tuple = v }) (tuple_in-renumbered n b.numbering t) in
      subst (λ d. InstancesAlike names others b.numbering.to (instances_in r ops (cs ++ c ∷ []) lines) (instances_in s ops (renumbered_instances b.numbering.to cs ++ d ∷ []) lines)) (sym same)
      (subst (λ ds. InstancesAlike names others b.numbering.to (instances_in r ops (cs ++ c ∷ []) lines) (instances_in s ops ds lines)) (map-append (renumbered_instance b.numbering.to) cs (c ∷ [])) rest)

  instances-at : (lines : List (List ℕ)) (cs all : List Instance) → AreSharedInstances cs → AreNamedInstances all → Further lines all → (o : Option Led)
      → if_some (option_and_then (instance_at r ops) o) (λ c. instances_in r ops (cs ++ c ∷ []) lines) None ≡ Some all
      → InstancesAlike names others b.numbering.to (if_some (option_and_then (instance_at r ops) o) (λ c. instances_in r ops (cs ++ c ∷ []) lines) None)
      (if_some (option_and_then (instance_at s ops) o) (λ c. instances_in s ops (renumbered_instances b.numbering.to cs ++ c ∷ []) lines) None)
  instances-at lines cs all shared named further None e = no_instances
  instances-at lines cs all shared named further (Some l) e = instances-read l.number lines cs all shared named further (term-twins n names others a ops few table r s l.rest) e

  instances-hold : (lines : List (List ℕ)) (all : List Instance) → AreNamedInstances all → Further lines all
  instances-hold [] all named cs shared e = all_instances cs shared
  instances-hold (line ∷ lines) all named cs shared e = by (is_candidate line) (instances-at lines cs all shared named (instances-hold lines all named) (candidate_in line)) e
    where
      by : (x : Bool)
          → (if_some (instance_in r ops line) (λ c. instances_in r ops (cs ++ c ∷ []) lines) None ≡ Some all
          → InstancesAlike names others b.numbering.to (if_some (instance_in r ops line) (λ c. instances_in r ops (cs ++ c ∷ []) lines) None)
          (if_some (instance_in s ops line) (λ c. instances_in s ops (renumbered_instances b.numbering.to cs ++ c ∷ []) lines) None))
          → (if x then if_some (instance_in r ops line) (λ c. instances_in r ops (cs ++ c ∷ []) lines) None else Some cs) ≡ Some all
          → InstancesAlike names others b.numbering.to (if x then if_some (instance_in r ops line) (λ c. instances_in r ops (cs ++ c ∷ []) lines) None else Some cs)
          (if x then if_some (instance_in s ops line) (λ c. instances_in s ops (renumbered_instances b.numbering.to cs ++ c ∷ []) lines) None else Some (renumbered_instances b.numbering.to cs))
      by true h k = h k
      by false h k = all_instances cs shared

  group-holds : (whole : List ℕ) (lines : List (List ℕ)) (o : Option (List Instance)) → instances_in r ops [] lines ≡ o → (claim_as ops names whole (option_map group_entry o) ≡ Garbled → ⊥)
      → ClaimIsNamed (length names) (claim_as ops names whole (option_map group_entry o)) → InstancesAlike names others b.numbering.to (instances_in r ops [] lines) (instances_in s ops [] lines)
  group-holds whole lines None e good i = absurd (good refl)
  group-holds whole lines (Some all) e good i = instances-hold lines all (known-claim whole (group_entry all) good i) [] tt e

  -- Lines, but those of calls.

  run-holds : {o u : Option Read} → TextsTwins (AreOfOneText names others) o u → (if_some o query_claim Garbled ≡ Garbled → ⊥) → ClaimIsNamed (length names) (if_some o query_claim Garbled)
      → if_some u query_claim Garbled ≡ renumbered_claim b.numbering.to (if_some o query_claim Garbled)
  run-holds neither_reads good i = refl
  run-holds (both_reads p q h) good i = query-renumbered n b.numbering p q (kept h.term (query-back (length names) many p good i)).0 h.vars

  symptom-holds : (said : Bool) {o u : Option Term} → TermsTwins (AreOfOneText names others) o u → ClaimIsNamed (length names) (if_some o (told said) Garbled)
      → if_some u (told said) Garbled ≡ renumbered_claim b.numbering.to (if_some o (told said) Garbled)
  symptom-holds said no_term i = refl
  symptom-holds true (both_terms t u h) i = ap (told true) (kept h i.0).0
  symptom-holds false (both_terms t u h) i = ap (told false) (kept h i.0).0

  pub form-holds : (in_group : Bool) (line : List ℕ) (lines : List (List ℕ)) (form : LineForm) → IsNoCall form → (claim_by r ops in_group line lines form ≡ Garbled → ⊥)
      → ClaimIsNamed (length names) (claim_by r ops in_group line lines form) → claim_by s ops in_group line lines form ≡ renumbered_claim b.numbering.to (claim_by r ops in_group line lines form)
  form-holds in_group line lines (Query goals) plain good i = run-holds (reading-twins n names others a ops few table r s (codes "?- " ++ as_clause goals)) good i
  form-holds in_group line lines (End ran) plain good i = refl
  form-holds in_group line lines (Symptom said text) plain good i = symptom-holds said (term-twins n names others a ops few table r s text) i
  form-holds in_group line lines (Framed frame text) plain good i =
      claim_as-twins n names others a b ops few (with_newline line) (frame-holds frame (with_newline line) (term-twins n names others a ops few table r s text) good i)
  form-holds in_group line lines (Call c text) plain good i = absurd plain
  form-holds in_group line lines Candidates plain good i =
      claim_as-twins n names others a b ops few (group_text line lines) (group-alike n names others a b ops few table r s (group-holds (group_text line lines) lines (instances_in r ops [] lines) refl good i))
  form-holds true line lines Candidate plain good i = refl
  form-holds false line lines Candidate plain good i = refl
  form-holds in_group line lines (Descent calls) plain good i = claim_as-twins n names others a b ops few (with_newline line) (some_entry (descent_entry calls))
  form-holds in_group line lines Other plain good i = refl
  form-holds in_group line lines Unread plain good i = refl
