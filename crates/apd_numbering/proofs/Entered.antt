-- What is read as the text of an entry under other names is the entry, renumbered, and is written as it was.
use Rattle.std.proofs.Common.{◌≡◌, ℕ, ◌<◌, Bool, true, false, List, [], ◌∷◌, ◌++◌, refl, sym, ◌∙◌, ap, subst, arith, Option, None, Some}
use Rattle.std.specs.Prelude.{◌==◌, if◌then◌else◌, codes, IfSome}
use Rattle.std.specs.Bool.{then_some}
use Rattle.std.specs.Fmt.{decimal}
use Rattle.std.specs.Option.{option_and_then, option_map, option_or}
use Rattle.std.specs.Str.{bytes_eq}
use Rattle.apd_answers.specs.Questions.{canonical_question}
use Rattle.apd_answers.specs.declared.finding.Finding.{Finding}
use Rattle.apd_answers.specs.declared.finding.Finding.TheVariants as findings
use Rattle.apd_answers.specs.declared.question.Asked.{Asked}
use Rattle.apd_answers.specs.declared.question.Question.{Question}
use Rattle.apd_answers.specs.declared.question.Question.TheVariants as asks
use Rattle.apd_answers.specs.declared.question.Reply.{Reply}
use Rattle.apd_answers.specs.declared.question.Reply.TheVariants.{Yes, No, Values, Unknown}
use Rattle.apd_claims.specs.Claims.{asked, claim_as, claim_of, entry_for, fact, goals_in, is_text, or_garbled, pair_in, replied, reply_in, tuple_in, written}
use Rattle.apd_claims.specs.declared.claim.Claim.{Claim}
use Rattle.apd_claims.specs.declared.form.LineFrame.{LineFrame}
use Rattle.apd_claims.specs.declared.form.LineFrame.TheVariants.{Truth, Cover, Order, Reply as Answer, Instance, Uncovered}
use Rattle.apd_claims.specs.declared.form.NumberedQuestion.{NumberedQuestion}
use Rattle.apd_clauses.specs.Kinds.{◌∕◌}
use Rattle.apd_clauses.specs.Predicates.{is_pred}
use Rattle.apd_known.specs.Told.{is_word, truth_told, values_of, values_told}
use Rattle.apd_ops.specs.Table.{Table}
use Rattle.apd_term.specs.Listed.{listed, listed_in}
use Rattle.apd_term.specs.Term.{Term, Terms, variable, integer, compound, none, more, arguments, list_of, predicate_of}
use Rattle.apd_term.specs.declared.standard.TheConstants.{CELL, COMMA, NECK, NIL, NO, UNKNOWN, YES}
use Rattle.apd_term.specs.declared.term.NameId.{NameId}
use Rattle.apd_text.specs.Dialogues.{giver_text, left_text, suspects_text}
use Rattle.apd_text.specs.Entries.{text_of}
use Rattle.apd_text.specs.declared.entry.Entry.{Entry}
use Rattle.apd_text.specs.declared.entry.Entry.TheVariants as entries
use Rattle.apd_numbering.specs.Claims.{renumbered_claim}
use Rattle.apd_numbering.specs.Lists.{BeginAlike, HasFewOperators}
use Rattle.apd_numbering.specs.Renumbering.{Renumbering, renumbered, renumbered_list, renumbered_tuple}
use Rattle.apd_numbering.specs.Replies.{renumbered_asked, renumbered_finding, renumbered_question, renumbered_reply}
use Rattle.apd_numbering.proofs.Exchanged.{Between}
use Rattle.apd_numbering.proofs.OfPredicates.{is_standard-renumbered}
use Rattle.apd_numbering.proofs.Replied.{question-renumbered}
use Rattle.apd_numbering.proofs.Terms.{arguments-renumbered, predicate-renumbered}
use Rattle.apd_numbering.proofs.Tests.{listed-renumbered, test-standard}
use Rattle.apd_numbering.proofs.Texts.{AllShared, FindingIsShared, QuestionIsShared, ReplyIsShared, TupleIsShared, asked_text-renumbered, finding_text-renumbered, reply_text-renumbered, shared-canonical, shared_tuple-canonical}
use Rattle.apd_numbering.proofs.Written.{IsShared, AreShared}

-- Terms that are parts of an entry.

module _ (n : ℕ) (x : Renumbering n) where
  goals_in-renumbered : (t : Term) → goals_in (renumbered x.to t) ≡ renumbered_list x.to (goals_in t)
  goals_in-renumbered (variable v) = refl
  goals_in-renumbered (integer i) = refl
  goals_in-renumbered (compound f none) = refl
  goals_in-renumbered (compound f (more a none)) = refl
  goals_in-renumbered (compound f (more a (more b none))) =
      ap (λ c. if c then renumbered x.to a ∷ goals_in (renumbered x.to b) else renumbered x.to (compound f (more a (more b none))) ∷ []) (test-standard n x f.0 COMMA.0 (omega arith))
      ∙ by (f.0 == COMMA.0) (goals_in-renumbered b)
    where
      by : (c : Bool) → goals_in (renumbered x.to b) ≡ renumbered_list x.to (goals_in b)
          → (if c then renumbered x.to a ∷ goals_in (renumbered x.to b) else renumbered x.to (compound f (more a (more b none))) ∷ []) ≡ renumbered_list x.to (if c then a ∷ goals_in b else compound f (more a (more b none)) ∷ [])
      by true e = ap (λ ts. renumbered x.to a ∷ ts) e
      by false e = refl
  goals_in-renumbered (compound f (more a (more b (more c ts)))) = refl

  pub tuple_in-renumbered : (t : Term) → tuple_in (renumbered x.to t) ≡ renumbered_tuple x.to (tuple_in t)
  tuple_in-renumbered (variable v) = refl
  tuple_in-renumbered (integer i) = refl
  tuple_in-renumbered (compound f none) = refl
  tuple_in-renumbered (compound f (more a none)) = refl
  tuple_in-renumbered (compound f (more a (more b none))) =
      ap (λ c. if c then record { head = renumbered x.to a; body = goals_in (renumbered x.to b) } else fact (renumbered x.to (compound f (more a (more b none))))) (test-standard n x f.0 NECK.0 (omega arith))
      ∙ by (f.0 == NECK.0)
    where
      by : (c : Bool) → (if c then record { head = renumbered x.to a; body = goals_in (renumbered x.to b) } else fact (renumbered x.to (compound f (more a (more b none)))))
          ≡ renumbered_tuple x.to (if c then record { head = a; body = goals_in b } else fact (compound f (more a (more b none))))
      by true = ap (λ ts. record { head = renumbered x.to a; body = ts }) (goals_in-renumbered b)
      by false = refl
  tuple_in-renumbered (compound f (more a (more b (more c ts)))) = refl

  pair_in-renumbered : (t : Term) → pair_in (renumbered x.to t) ≡ option_map (renumbered_question x.to) (pair_in t)
  pair_in-renumbered (variable v) = refl
  pair_in-renumbered (integer i) = refl
  pair_in-renumbered (compound f none) = refl
  pair_in-renumbered (compound f (more a none)) = refl
  pair_in-renumbered (compound f (more a (more b none))) = refl
  pair_in-renumbered (compound f (more a (more b (more c ts)))) = refl

  word-renumbered : (t : Term) (word : NameId) → word.0 < 132 → is_word (renumbered x.to t) word ≡ is_word t word
  word-renumbered t word l = ap (λ o. is_pred o (word ∕ 0)) (predicate-renumbered x.to t) ∙ is_standard-renumbered n x (predicate_of t) (word ∕ 0) l

  values_of-renumbered : (ts : List Term) → values_of (renumbered_list x.to ts) ≡ option_map (renumbered_reply x.to) (values_of ts)
  values_of-renumbered [] = refl
  values_of-renumbered (t ∷ []) = ap (option_map Values) (listed-renumbered n x t) ∙ by (listed t)
    where
      by : (o : Option (List Term)) → option_map Values (option_map (renumbered_list x.to) o) ≡ option_map (renumbered_reply x.to) (option_map Values o)
      by None = refl
      by (Some ts) = refl
  values_of-renumbered (t ∷ u ∷ ts) = refl

  truth-renumbered : (t : Term) → truth_told (renumbered x.to t) ≡ option_map (renumbered_reply x.to) (truth_told t)
  truth-renumbered t =
      rw (word-renumbered t UNKNOWN (omega arith), word-renumbered t YES (omega arith), word-renumbered t NO (omega arith)) (by (is_word t UNKNOWN) (is_word t YES) (is_word t NO))
    where
      by : (a b c : Bool) → (if a then Some Unknown else (if b then Some Yes else (if c then Some No else None))) ≡ option_map (renumbered_reply x.to) (if a then Some Unknown else (if b then Some Yes else (if c then Some No else None)))
      by true b c = refl
      by false true c = refl
      by false false true = refl
      by false false false = refl

  values-renumbered : (t : Term) → values_told (renumbered x.to t) ≡ option_map (renumbered_reply x.to) (values_told t)
  values-renumbered t =
      ap (λ b. if b then Some No else (if is_pred (predicate_of (renumbered x.to t)) (YES ∕ 1) then values_of (arguments (renumbered x.to t)) else None)) (word-renumbered t NO (omega arith))
      ∙ ap (λ b. if is_word t NO then Some No else (if b then values_of (arguments (renumbered x.to t)) else None))
      (ap (λ o. is_pred o (YES ∕ 1)) (predicate-renumbered x.to t) ∙ is_standard-renumbered n x (predicate_of t) (YES ∕ 1) (omega arith))
      ∙ ap (λ o. if is_word t NO then Some No else (if is_pred (predicate_of t) (YES ∕ 1) then o else None)) (ap values_of (arguments-renumbered x.to t) ∙ values_of-renumbered (arguments t))
      ∙ by (is_word t NO) (is_pred (predicate_of t) (YES ∕ 1)) (values_of (arguments t))
    where
      by : (a b : Bool) (o : Option Reply) → (if a then Some No else (if b then option_map (renumbered_reply x.to) o else None)) ≡ option_map (renumbered_reply x.to) (if a then Some No else (if b then o else None))
      by true b o = refl
      by false true o = refl
      by false false o = refl

  reply_in-renumbered : (t : Term) → reply_in (renumbered x.to t) ≡ option_map (renumbered_reply x.to) (reply_in t)
  reply_in-renumbered t = rw (truth-renumbered t, values-renumbered t) (by (truth_told t) (values_told t))
    where
      by : (o u : Option Reply) → option_or (option_map (renumbered_reply x.to) o) (option_map (renumbered_reply x.to) u) ≡ option_map (renumbered_reply x.to) (option_or o u)
      by None u = refl
      by (Some reply) u = refl

-- Their names.

module _ (names others : List (List ℕ)) (r : ℕ → ℕ) where
  goals_in-shared : (t : Term) → IsShared names others r t → AllShared names others r (goals_in t)
  goals_in-shared (variable v) i = (i, tt)
  goals_in-shared (integer z) i = (i, tt)
  goals_in-shared (compound f none) i = (i, tt)
  goals_in-shared (compound f (more a none)) i = (i, tt)
  goals_in-shared (compound f (more a (more b none))) i = by (f.0 == COMMA.0) (goals_in-shared b i.1.1.0)
    where
      by : (c : Bool) → AllShared names others r (goals_in b) → AllShared names others r (if c then a ∷ goals_in b else compound f (more a (more b none)) ∷ [])
      by true j = (i.1.0, j)
      by false j = (i, tt)
  goals_in-shared (compound f (more a (more b (more c ts)))) i = (i, tt)

  pub tuple_in-shared : (t : Term) → IsShared names others r t → TupleIsShared names others r (tuple_in t)
  tuple_in-shared (variable v) i = (i, tt)
  tuple_in-shared (integer z) i = (i, tt)
  tuple_in-shared (compound f none) i = (i, tt)
  tuple_in-shared (compound f (more a none)) i = (i, tt)
  tuple_in-shared (compound f (more a (more b none))) i = by (f.0 == NECK.0)
    where
      by : (c : Bool) → TupleIsShared names others r (if c then record { head = a; body = goals_in b } else fact (compound f (more a (more b none))))
      by true = (i.1.0, goals_in-shared b i.1.1.0)
      by false = (i, tt)
  tuple_in-shared (compound f (more a (more b (more c ts)))) i = (i, tt)

  pair_in-shared : (t : Term) → IsShared names others r t → IfSome (pair_in t) (QuestionIsShared names others r)
  pair_in-shared (variable v) i = tt
  pair_in-shared (integer z) i = tt
  pair_in-shared (compound f none) i = tt
  pair_in-shared (compound f (more a none)) i = tt
  pair_in-shared (compound f (more a (more b none))) i = (i.1.0, i.1.1.0)
  pair_in-shared (compound f (more a (more b (more c ts)))) i = tt

  mutual
    listed-shared : (t : Term) → IsShared names others r t → IfSome (listed t) (AllShared names others r)
    listed-shared (variable v) i = tt
    listed-shared (integer z) i = tt
    listed-shared (compound f ts) i = listed_in-shared f ts i.1

    listed_in-shared : (f : NameId) (ts : Terms) → AreShared names others r ts → IfSome (listed_in f ts) (AllShared names others r)
    listed_in-shared f none i = by (f.0 == NIL.0)
      where
        by : (c : Bool) → IfSome (if c then Some [] else None) (AllShared names others r)
        by true = tt
        by false = tt
    listed_in-shared f (more t none) i = tt
    listed_in-shared f (more t (more u none)) i = by (f.0 == CELL.0) (listed u) (listed-shared u i.1.0)
      where
        by : (c : Bool) (o : Option (List Term)) → IfSome o (AllShared names others r) → IfSome (if c then option_map (λ ts. t ∷ ts) o else None) (AllShared names others r)
        by true None j = tt
        by true (Some ts) j = (i.0, j)
        by false o j = tt
    listed_in-shared f (more t (more u (more w ts))) i = tt

  all-listed : (ts : Terms) → AreShared names others r ts → AllShared names others r (list_of ts)
  all-listed none i = tt
  all-listed (more t ts) i = (i.0, all-listed ts i.1)

  arguments-shared : (t : Term) → IsShared names others r t → AllShared names others r (arguments t)
  arguments-shared (variable v) i = tt
  arguments-shared (integer z) i = tt
  arguments-shared (compound f ts) i = all-listed ts i.1

  values_of-shared : (ts : List Term) → AllShared names others r ts → IfSome (values_of ts) (ReplyIsShared names others r)
  values_of-shared [] i = tt
  values_of-shared (t ∷ []) i = by (listed t) (listed-shared t i.0)
    where
      by : (o : Option (List Term)) → IfSome o (AllShared names others r) → IfSome (option_map Values o) (ReplyIsShared names others r)
      by None j = tt
      by (Some ts) j = j
  values_of-shared (t ∷ u ∷ ts) i = tt

  reply_in-shared : (t : Term) → IsShared names others r t → IfSome (reply_in t) (ReplyIsShared names others r)
  reply_in-shared t i = or (truth_told t) (values_told t) (truth (is_word t UNKNOWN) (is_word t YES) (is_word t NO)) (values (is_word t NO) (is_pred (predicate_of t) (YES ∕ 1)) (values_of (arguments t)) (values_of-shared (arguments t) (arguments-shared t i)))
    where
      or : (o u : Option Reply) → IfSome o (ReplyIsShared names others r) → IfSome u (ReplyIsShared names others r) → IfSome (option_or o u) (ReplyIsShared names others r)
      or None u j k = k
      or (Some reply) u j k = j

      truth : (a b c : Bool) → IfSome (if a then Some Unknown else (if b then Some Yes else (if c then Some No else None))) (ReplyIsShared names others r)
      truth true b c = tt
      truth false true c = tt
      truth false false true = tt
      truth false false false = tt

      values : (a b : Bool) (o : Option Reply) → IfSome o (ReplyIsShared names others r) → IfSome (if a then Some No else (if b then o else None)) (ReplyIsShared names others r)
      values true b o j = tt
      values false true o j = j
      values false false o j = tt

-- Entries.

-- the one entry is the other, renumbered
pub data EntryTwins (names others : List (List ℕ)) (r : ℕ → ℕ) : Entry → Entry → Type 0 where
  question_entry : (number : ℕ) (q : Asked) → QuestionIsShared names others r q.question → EntryTwins names others r (entries.Question number q) (entries.Question number (renumbered_asked r q))
  reply_entry : (reply : Reply) (left : Option ℕ) (by_reference : Bool) → ReplyIsShared names others r reply
      → EntryTwins names others r (entries.Replied reply left by_reference) (entries.Replied (renumbered_reply r reply) left by_reference)
  finding_entry : (f : Finding) (line : ℕ) → FindingIsShared names others r f → EntryTwins names others r (entries.Found f line) (entries.Found (renumbered_finding r f) line)
  descent_entry : (calls : ℕ) → EntryTwins names others r (entries.AllDescend calls) (entries.AllDescend calls)

pub data EntriesTwins (names others : List (List ℕ)) (r : ℕ → ℕ) : Option Entry → Option Entry → Type 0 where
  no_entry : EntriesTwins names others r None None
  some_entry : {e f : Entry} → EntryTwins names others r e f → EntriesTwins names others r (Some e) (Some f)

module _ (n : ℕ) (names others : List (List ℕ)) (a : BeginAlike n names others) (b : Between n names others) (ops : Table) (few : HasFewOperators n ops) where
  text-twins : {e f : Entry} → EntryTwins names others b.numbering.to e f → text_of ops others f ≡ text_of ops names e
  unfolding text_of
  text-twins (question_entry number q i) =
      ap (λ text. codes "question " ++ decimal number ++ codes ": " ++ text ++ suspects_text q.suspects ++ codes "\n") (asked_text-renumbered n names others a b ops few q.question i)
  text-twins (reply_entry reply left by_reference i) =
      ap (λ text. codes "reply: " ++ text ++ left_text left ++ giver_text by_reference ++ codes "\n") (reply_text-renumbered n names others a b ops few reply i)
  text-twins (finding_entry f line i) = finding_text-renumbered n names others a b ops few f line i
  text-twins (descent_entry calls) = refl

  claim-twins : {e f : Entry} → EntryTwins names others b.numbering.to e f → claim_of f ≡ renumbered_claim b.numbering.to (claim_of e)
  claim-twins (question_entry number q i) = refl
  claim-twins (reply_entry reply left by_reference i) = refl
  claim-twins (finding_entry f line i) = refl
  claim-twins (descent_entry calls) = refl

  pub written-twins : (text : List ℕ) {e f : Entry} → EntryTwins names others b.numbering.to e f → written ops others text f ≡ option_map (renumbered_claim b.numbering.to) (written ops names text e)
  written-twins text {e} {f} h =
      ap (λ t. then_some (bytes_eq t text) (claim_of f)) (text-twins h) ∙ ap (λ c. then_some (is_text ops names text e) c) (claim-twins h) ∙ by (is_text ops names text e)
    where
      by : (c : Bool) → then_some c (renumbered_claim b.numbering.to (claim_of e)) ≡ option_map (renumbered_claim b.numbering.to) (then_some c (claim_of e))
      by true = refl
      by false = refl

  pub then-twins : (text : List ℕ) {o u : Option Entry} → EntriesTwins names others b.numbering.to o u
      → option_and_then (written ops others text) u ≡ option_map (renumbered_claim b.numbering.to) (option_and_then (written ops names text) o)
  then-twins text no_entry = refl
  then-twins text (some_entry h) = written-twins text h

  pub garbled-twins : (o : Option Claim) → or_garbled (option_map (renumbered_claim b.numbering.to) o) ≡ renumbered_claim b.numbering.to (or_garbled o)
  garbled-twins None = refl
  garbled-twins (Some c) = refl

  pub claim_as-twins : (text : List ℕ) {o u : Option Entry} → EntriesTwins names others b.numbering.to o u → claim_as ops others text u ≡ renumbered_claim b.numbering.to (claim_as ops names text o)
  claim_as-twins text {o} h = ap or_garbled (then-twins text h) ∙ garbled-twins (option_and_then (written ops names text) o)

  -- The entry in whose text a term stands.

  canonical-shared : (q : Question) → QuestionIsShared names others b.numbering.to q → QuestionIsShared names others b.numbering.to (canonical_question q)
  canonical-shared (asks.True t) i = shared-canonical names others b.numbering.to t i
  canonical-shared (asks.Covers t) i = shared_tuple-canonical names others b.numbering.to t i
  canonical-shared (asks.Below q p) i = (shared-canonical names others b.numbering.to q i.0, shared-canonical names others b.numbering.to p i.1)

  pub asked-twins : (place : NumberedQuestion) (q : Question) → QuestionIsShared names others b.numbering.to q → EntryTwins names others b.numbering.to (asked place q) (asked place (renumbered_question b.numbering.to q))
  asked-twins place q i =
      subst (λ p. EntryTwins names others b.numbering.to (asked place q) (entries.Question place.number (record { question = p; suspects = place.suspects }))) (sym (question-renumbered b.numbering.to q))
      (question_entry place.number (record { question = canonical_question q; suspects = place.suspects }) (canonical-shared q i))

  order-twins : (place : NumberedQuestion) (o : Option Question) → IfSome o (QuestionIsShared names others b.numbering.to)
      → EntriesTwins names others b.numbering.to (option_map (asked place) o) (option_map (asked place) (option_map (renumbered_question b.numbering.to) o))
  order-twins place None i = no_entry
  order-twins place (Some q) i = some_entry (asked-twins place q i)

  answer-twins : (left : Option ℕ) (by_reference : Bool) (o : Option Reply) → IfSome o (ReplyIsShared names others b.numbering.to)
      → EntriesTwins names others b.numbering.to (option_map (replied left by_reference) o) (option_map (replied left by_reference) (option_map (renumbered_reply b.numbering.to) o))
  answer-twins left by_reference None i = no_entry
  answer-twins left by_reference (Some reply) i = some_entry (reply_entry reply left by_reference i)

  pub entry-twins : (frame : LineFrame) (t : Term) → IsShared names others b.numbering.to t → EntriesTwins names others b.numbering.to (entry_for frame t) (entry_for frame (renumbered b.numbering.to t))
  entry-twins (Truth place) t i = some_entry (asked-twins place (asks.True t) i)
  entry-twins (Cover place) t i =
      subst (λ u. EntriesTwins names others b.numbering.to (entry_for (Cover place) t) (Some (asked place (asks.Covers u)))) (sym (tuple_in-renumbered n b.numbering t))
      (some_entry (asked-twins place (asks.Covers (tuple_in t)) (tuple_in-shared names others b.numbering.to t i)))
  entry-twins (Order place) t i =
      subst (λ o. EntriesTwins names others b.numbering.to (entry_for (Order place) t) (option_map (asked place) o)) (sym (pair_in-renumbered n b.numbering t))
      (order-twins place (pair_in t) (pair_in-shared names others b.numbering.to t i))
  entry-twins (Answer left by_reference) t i =
      subst (λ o. EntriesTwins names others b.numbering.to (entry_for (Answer left by_reference) t) (option_map (replied left by_reference) o)) (sym (reply_in-renumbered n b.numbering t))
      (answer-twins left by_reference (reply_in t) (reply_in-shared names others b.numbering.to t i))
  entry-twins (Instance clause line) t i =
      subst (λ u. EntriesTwins names others b.numbering.to (entry_for (Instance clause line) t) (Some (entries.Found (findings.WrongInstance clause u) line))) (sym (tuple_in-renumbered n b.numbering t))
      (some_entry (finding_entry (findings.WrongInstance clause (tuple_in t)) line (tuple_in-shared names others b.numbering.to t i)))
  entry-twins Uncovered t i = some_entry (finding_entry (findings.Uncovered t) 0 i)
