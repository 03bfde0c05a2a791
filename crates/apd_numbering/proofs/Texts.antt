-- What is asked, replied and found is printed under other names as it was, with its names renumbered.
use Rattle.std.proofs.Common.{◌≡◌, ℕ, ◌<◌, ◌≤◌, List, [], ◌∷◌, ◌++◌, map, refl, sym, ◌∙◌, ap, arith}
use Rattle.std.specs.Prelude.{codes, flat_map}
use Rattle.std.specs.List.{AllByRecursion}
use Rattle.std.proofs.lemmas.List.{length-map}
use Rattle.apd_term.specs.Canonical.{canonical, by_appearance, place_of}
use Rattle.apd_term.specs.Names.{text_of_name}
use Rattle.apd_term.specs.Term.{Term, Terms, variable, integer, compound, none, more, apply, apply_all, variables}
use Rattle.apd_term.specs.Tuple.{canonical_tuple, variables_of_tuple}
use Rattle.apd_term.specs.declared.instance.Instance.{Instance}
use Rattle.apd_term.specs.declared.standard.TheConstants.{NIL, CELL, COMMA, NECK}
use Rattle.apd_term.specs.declared.term.NameId.{NameId}
use Rattle.apd_term.specs.declared.tuple.Tuple.{Tuple}
use Rattle.apd_term.proofs.FirstNames.{length-standard_names}
use Rattle.apd_ops.specs.Table.{Table}
use Rattle.apd_ops.specs.declared.op.TheConstants.{MOST_PRIORITY}
use Rattle.apd_write.specs.Writing.{written}
use Rattle.apd_answers.specs.declared.finding.Finding.{Finding}
use Rattle.apd_answers.specs.declared.finding.Finding.TheVariants.{WrongInstance, Uncovered, Violation, Candidates}
use Rattle.apd_answers.specs.declared.question.Question.{Question}
use Rattle.apd_answers.specs.declared.question.Question.TheVariants.{True, Covers, Below}
use Rattle.apd_answers.specs.declared.question.Reply.{Reply}
use Rattle.apd_answers.specs.declared.question.Reply.TheVariants.{Yes, No, Values, Unknown}
use Rattle.apd_text.specs.ClauseTerms.{pair, conjunction, with_body, clause_term}
use Rattle.apd_term.specs.Listed.{list_term}
use Rattle.apd_text.specs.Dialogues.{atom_text, clause_text, asked_text, reply_text, candidate_text, finding_text}
use Rattle.apd_numbering.specs.Lists.{BeginAlike, HasFewOperators}
use Rattle.apd_numbering.specs.Renumbering.{renumbered, renumbered_instance, renumbered_list, renumbered_name, renumbered_tuple}
use Rattle.apd_numbering.specs.Replies.{renumbered_finding, renumbered_instances, renumbered_question, renumbered_reply}
use Rattle.apd_numbering.proofs.Exchanged.{Between}
use Rattle.apd_numbering.proofs.Readings.{first-in}
use Rattle.apd_numbering.proofs.Terms.{renumbered-canonical, renumbered_tuple-canonical}
use Rattle.apd_numbering.proofs.Written.{IsShared, AreShared, written-renumbered}

module _ (names others : List (List ℕ)) (r : ℕ → ℕ) where
  abbrev pub AllShared : List Term → Type 0
  AllShared ts = AllByRecursion (IsShared names others r) ts

  abbrev pub TupleIsShared : Tuple → Type 0
  TupleIsShared t = IsShared names others r t.head × AllShared t.body

  abbrev pub QuestionIsShared : Question → Type 0
  QuestionIsShared (True a) = IsShared names others r a
  QuestionIsShared (Covers t) = TupleIsShared t
  QuestionIsShared (Below q p) = IsShared names others r q × IsShared names others r p

  abbrev pub ReplyIsShared : Reply → Type 0
  ReplyIsShared Yes = Unit {0}
  ReplyIsShared No = Unit {0}
  ReplyIsShared (Values values) = AllShared values
  ReplyIsShared Unknown = Unit {0}

  abbrev pub FindingIsShared : Finding → Type 0
  FindingIsShared (WrongInstance clause t) = TupleIsShared t
  FindingIsShared (Uncovered goal) = IsShared names others r goal
  FindingIsShared (Violation clause goal caller callee p q) = IsShared names others r p × IsShared names others r q
  FindingIsShared (Candidates cs) = AllByRecursion (λ (c : Instance). TupleIsShared c.tuple) cs

  mutual
    shared-apply : (s : ℕ → Term) → ((v : ℕ) → IsShared names others r (s v)) → (t : Term) → IsShared names others r t → IsShared names others r (apply s t)
    shared-apply s h (variable v) shared = h v
    shared-apply s h (integer i) shared = tt
    shared-apply s h (compound f ts) shared = (shared.0, shared_all-apply s h ts shared.1)

    shared_all-apply : (s : ℕ → Term) → ((v : ℕ) → IsShared names others r (s v)) → (ts : Terms) → AreShared names others r ts → AreShared names others r (apply_all s ts)
    shared_all-apply s h none shared = tt
    shared_all-apply s h (more t ts) shared = (shared-apply s h t shared.0, shared_all-apply s h ts shared.1)

  pub shared-canonical : (t : Term) → IsShared names others r t → IsShared names others r (canonical t)
  shared-canonical t shared = shared-apply (λ v. variable (place_of (by_appearance (variables t)) v)) (λ v. tt) t shared

  shared_list-apply : (s : ℕ → Term) → ((v : ℕ) → IsShared names others r (s v)) → (ts : List Term) → AllShared ts → AllShared (map (apply s) ts)
  shared_list-apply s h [] shared = tt
  shared_list-apply s h (t ∷ ts) shared = (shared-apply s h t shared.0, shared_list-apply s h ts shared.1)

  pub shared_tuple-canonical : (t : Tuple) → TupleIsShared t → TupleIsShared (canonical_tuple t)
  shared_tuple-canonical t shared =
      let s : ℕ → Term = λ v. variable (place_of (by_appearance (variables_of_tuple t)) v) in
      (shared-apply s (λ v. tt) t.head shared.0, shared_list-apply s (λ v. tt) t.body shared.1)

module _ (n : ℕ) (names others : List (List ℕ)) (a : BeginAlike n names others) (b : Between n names others) (ops : Table) (few : HasFewOperators n ops) where
  few-standard : 132 ≤ n
  few-standard = omega (arith, b.numbering.standard, length-standard_names)

  -- Standard names.

  standard-stays : (c : ℕ) → c < 132 → b.numbering.to c ≡ c
  standard-stays c l = b.numbering.stays c (omega (arith, few-standard))

  standard-shared : (f : NameId) → f.0 < 132 → text_of_name others (renumbered_name b.numbering.to f) ≡ text_of_name names f
  standard-shared f l =
      let within : f.0 < n = omega (arith, few-standard) in
      ap (λ k. text_of_name others (record { 0 = k })) (standard-stays f.0 l)
      ∙ (first-in n names others a others a.others_grown f.0 within).0 ∙ sym (first-in n names others a names a.names_grown f.0 within).0

  pair-renumbered : (f : NameId) (t u : Term) → f.0 < 132 → renumbered b.numbering.to (pair f t u) ≡ pair f (renumbered b.numbering.to t) (renumbered b.numbering.to u)
  pair-renumbered f t u l = ap (λ k. compound (record { 0 = k }) (more (renumbered b.numbering.to t) (more (renumbered b.numbering.to u) none))) (standard-stays f.0 l)

  pair-shared : (f : NameId) (t u : Term) → f.0 < 132 → IsShared names others b.numbering.to t → IsShared names others b.numbering.to u → IsShared names others b.numbering.to (pair f t u)
  pair-shared f t u l i j = (standard-shared f l, (i, (j, tt)))

  conjunction-renumbered : (t : Term) (ts : List Term) → renumbered b.numbering.to (conjunction t ts) ≡ conjunction (renumbered b.numbering.to t) (renumbered_list b.numbering.to ts)
  conjunction-renumbered t [] = refl
  conjunction-renumbered t (u ∷ ts) = pair-renumbered COMMA t (conjunction u ts) (omega arith) ∙ ap (pair COMMA (renumbered b.numbering.to t)) (conjunction-renumbered u ts)

  conjunction-shared : (t : Term) (ts : List Term) → IsShared names others b.numbering.to t → AllShared names others b.numbering.to ts → IsShared names others b.numbering.to (conjunction t ts)
  conjunction-shared t [] i j = i
  conjunction-shared t (u ∷ ts) i j = pair-shared COMMA t (conjunction u ts) (omega arith) i (conjunction-shared u ts j.0 j.1)

  body-renumbered : (t : Term) (ts : List Term) → renumbered b.numbering.to (with_body t ts) ≡ with_body (renumbered b.numbering.to t) (renumbered_list b.numbering.to ts)
  body-renumbered t [] = refl
  body-renumbered t (u ∷ ts) = pair-renumbered NECK t (conjunction u ts) (omega arith) ∙ ap (pair NECK (renumbered b.numbering.to t)) (conjunction-renumbered u ts)

  body-shared : (t : Term) (ts : List Term) → IsShared names others b.numbering.to t → AllShared names others b.numbering.to ts → IsShared names others b.numbering.to (with_body t ts)
  body-shared t [] i j = i
  body-shared t (u ∷ ts) i j = pair-shared NECK t (conjunction u ts) (omega arith) i (conjunction-shared u ts j.0 j.1)

  list-renumbered : (ts : List Term) → renumbered b.numbering.to (list_term ts) ≡ list_term (renumbered_list b.numbering.to ts)
  list-renumbered [] = ap (λ k. compound (record { 0 = k }) none) (standard-stays NIL.0 (omega arith))
  list-renumbered (t ∷ ts) = pair-renumbered CELL t (list_term ts) (omega arith) ∙ ap (pair CELL (renumbered b.numbering.to t)) (list-renumbered ts)

  list-shared : (ts : List Term) → AllShared names others b.numbering.to ts → IsShared names others b.numbering.to (list_term ts)
  list-shared [] i = (standard-shared NIL (omega arith), tt)
  list-shared (t ∷ ts) i = pair-shared CELL t (list_term ts) (omega arith) i.0 (list-shared ts i.1)

  -- Texts.

  pub atom_text-renumbered : (t : Term) → IsShared names others b.numbering.to t → atom_text ops others (renumbered b.numbering.to t) ≡ atom_text ops names t
  atom_text-renumbered t i =
      ap (λ u. written ops others u 999) (sym (renumbered-canonical b.numbering.to t)) ∙ written-renumbered n b.numbering ops few names others (canonical t) 999 (shared-canonical names others b.numbering.to t i)

  pub clause_text-renumbered : (t : Tuple) → TupleIsShared names others b.numbering.to t → clause_text ops others (renumbered_tuple b.numbering.to t) ≡ clause_text ops names t
  clause_text-renumbered t i =
      let c : Tuple = canonical_tuple t in
      let j = shared_tuple-canonical names others b.numbering.to t i in
      ap (λ (u : Tuple). written ops others (clause_term u) MOST_PRIORITY) (sym (renumbered_tuple-canonical b.numbering.to t))
      ∙ ap (λ u. written ops others u MOST_PRIORITY) (sym (body-renumbered c.head c.body))
      ∙ written-renumbered n b.numbering ops few names others (clause_term c) MOST_PRIORITY (body-shared c.head c.body j.0 j.1)

  pub asked_text-renumbered : (q : Question) → QuestionIsShared names others b.numbering.to q → asked_text ops others (renumbered_question b.numbering.to q) ≡ asked_text ops names q
  unfolding asked_text
  asked_text-renumbered (True t) i = ap (λ text. codes "true? " ++ text) (atom_text-renumbered t i)
  asked_text-renumbered (Covers t) i = ap (λ text. codes "covers? " ++ text) (clause_text-renumbered t i)
  asked_text-renumbered (Below q p) i = rw (atom_text-renumbered q i.0, atom_text-renumbered p i.1) refl

  pub reply_text-renumbered : (reply : Reply) → ReplyIsShared names others b.numbering.to reply → reply_text ops others (renumbered_reply b.numbering.to reply) ≡ reply_text ops names reply
  unfolding reply_text
  reply_text-renumbered Yes i = refl
  reply_text-renumbered No i = refl
  reply_text-renumbered (Values values) i =
      ap (λ text. codes "yes(" ++ text ++ codes ")") (ap (atom_text ops others) (sym (list-renumbered values)) ∙ atom_text-renumbered (list_term values) (list-shared values i))
  reply_text-renumbered Unknown i = refl

  candidates-renumbered : (cs : List Instance) → AllByRecursion (λ (c : Instance). TupleIsShared names others b.numbering.to c.tuple) cs
      → flat_map (candidate_text ops others) (renumbered_instances b.numbering.to cs) ≡ flat_map (candidate_text ops names) cs
  candidates-renumbered [] i = refl
  candidates-renumbered (c ∷ cs) i = rw (clause_text-renumbered c.tuple i.0, candidates-renumbered cs i.1) refl

  pub finding_text-renumbered : (f : Finding) (line : ℕ) → FindingIsShared names others b.numbering.to f → finding_text ops others (renumbered_finding b.numbering.to f) line ≡ finding_text ops names f line
  unfolding finding_text
  finding_text-renumbered (WrongInstance clause t) line i = rw (clause_text-renumbered t i) refl
  finding_text-renumbered (Uncovered goal) line i = rw (atom_text-renumbered goal i) refl
  finding_text-renumbered (Violation clause goal caller callee p q) line i = rw (atom_text-renumbered p i.0, atom_text-renumbered q i.1) refl
  finding_text-renumbered (Candidates cs) line i = rw (length-map cs (renumbered_instance b.numbering.to), candidates-renumbered cs i) refl
