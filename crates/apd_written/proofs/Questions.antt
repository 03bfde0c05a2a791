-- The line of a question says the question in canonical form.
use Rattle.std.proofs.Common.{◌≡◌, ℕ, ◌+◌, ◌<◌, ◌^◌, List, [], ◌∷◌, ◌++◌, length, length-append, refl, sym, ◌∙◌, ap, append_assoc, append-nil, arith, Option, Some, None}
use Rattle.std.specs.Prelude.{codes}
use Rattle.std.specs.Fmt.{decimal}
use Rattle.apd_term.specs.Canonical.{canonical}
use Rattle.apd_term.specs.Term.{Term}
use Rattle.apd_term.specs.Tuple.{canonical_tuple}
use Rattle.apd_term.specs.declared.tuple.Tuple.{Tuple}
use Rattle.apd_term.proofs.Variants.{canonical-canonical}
use Rattle.apd_term.proofs.Tuples.{AreTupleVariants_from_instances, IsTupleInstance-canonical, canonical_is_instance}
use Rattle.apd_ops.specs.Table.{Table, IsTable}
use Rattle.apd_read.specs.Reader.{Reader}
use Rattle.apd_answers.specs.Questions.{canonical_question}
use Rattle.apd_answers.specs.declared.question.Asked.{Asked}
use Rattle.apd_answers.specs.declared.question.Question.{Question}
use Rattle.apd_answers.specs.declared.question.Question.TheVariants as asks
use Rattle.apd_text.specs.ClauseTerms.{clause_term}
use Rattle.apd_text.specs.Dialogues.{atom_text, clause_text, asked_text, suspects_text}
use Rattle.apd_text.specs.Lines.{goal_text}
use Rattle.apd_text.specs.Entries.{text_of}
use Rattle.apd_text.specs.declared.entry.Entry.TheVariants as entry
use Rattle.apd_write.specs.Writing.{written}
use Rattle.apd_reading_back.specs.Law.{AreNames}
use Rattle.apd_claims.specs.declared.form.LineForm.TheVariants.{Framed, Unread}
use Rattle.apd_claims.specs.declared.form.LineFrame.{LineFrame}
use Rattle.apd_claims.specs.declared.form.LineFrame.TheVariants.{Truth, Cover}
use Rattle.apd_claims.specs.declared.form.NumberedQuestion.{NumberedQuestion}
use Rattle.apd_claims.specs.Claims.{asked as asked_entry, entry_for}
use Rattle.apd_claims.specs.Forms.{asked_form, counted_form, form_in, kind_form}
use Rattle.apd_parts.specs.Parts.{counted, if_some, uncounted}
use Rattle.apd_claims.specs.Reading.{term_in}
use Rattle.apd_written.specs.Claims.{canonical_asked, claims_of}
use Rattle.apd_written.specs.Says.{HasNoBreak, Says}
use Rattle.apd_written.specs.Texts.{IsFewLeft, IsTellable, IsClauseTellable, IsLineShort, IsShort}
use Rattle.apd_written.proofs.Saying.{break-append}
use Rattle.apd_written.proofs.Breaks.{codes-break, decimal-break, written-break}
use Rattle.apd_written.proofs.Parts.{behind-short, counted-back, cut-at, decimal-has_no_high, has_no-by, number-back}
use Rattle.apd_written.proofs.Entries.{IsFramed, framed-says}
use Rattle.apd_written.proofs.Symptoms.{atom-read}
use Rattle.apd_written.proofs.Clauses.{clause-read, clause-back, clause-break}

pub canonical_tuple-again : (t : Tuple) → canonical_tuple (canonical_tuple t) ≡ canonical_tuple t
canonical_tuple-again t = AreTupleVariants_from_instances (canonical_tuple t) t (IsTupleInstance-canonical t) (canonical_is_instance t)

-- a question in canonical form
pub form-again : (q : Question) → canonical_question (canonical_question q) ≡ canonical_question q
form-again (asks.True a) = ap asks.True (canonical-canonical a)
form-again (asks.Covers t) = ap asks.Covers (canonical_tuple-again t)
form-again (asks.Below q p) = ap (λ z. asks.Below z (canonical (canonical p))) (canonical-canonical q) ∙ ap (asks.Below (canonical q)) (canonical-canonical p)

-- a question and its canonical form have one text
asked-again : (ops : Table) (names : List (List ℕ)) (q : Question) → asked_text ops names (canonical_question q) ≡ asked_text ops names q
unfolding asked_text
asked-again ops names (asks.True a) = ap (λ x. codes "true? " ++ goal_text ops names x) (canonical-canonical a)
asked-again ops names (asks.Covers t) = ap (λ (u : Tuple). codes "covers? " ++ written ops names (clause_term u) 1200) (canonical_tuple-again t)
asked-again ops names (asks.Below q p) =
    ap (λ x. codes "below? " ++ goal_text ops names x ++ codes ", " ++ goal_text ops names (canonical (canonical p))) (canonical-canonical q) ∙ ap (λ x. codes "below? " ++ goal_text ops names (canonical q) ++ codes ", " ++ goal_text ops names x) (canonical-canonical p)

abbrev counted_text : List ℕ → Option ℕ → List ℕ
counted_text text suspects = text ++ suspects_text suspects

-- the line without its end
abbrev question_line : Table → List (List ℕ) → ℕ → Question → Option ℕ → List ℕ
question_line ops names n q suspects = codes "question " ++ (decimal n ++ (58 ∷ 32 ∷ counted_text (asked_text ops names q) suspects))

text_is : (ops : Table) (names : List (List ℕ)) (n : ℕ) (x : Asked) → text_of ops names (entry.Question n x) ≡ question_line ops names n x.question x.suspects ++ 10 ∷ []
unfolding text_of
text_is ops names n x =
    let d = decimal n in
    let a = asked_text ops names x.question in
    let s = suspects_text x.suspects in
    append_assoc (codes "question " ++ d ++ codes ": " ++ a) s (10 ∷ [])
    ∙ append_assoc (codes "question " ++ d ++ codes ": ") a (s ++ 10 ∷ [])
    ∙ append_assoc (codes "question " ++ d) (codes ": ") (a ++ (s ++ 10 ∷ []))
    ∙ append_assoc (codes "question ") d (58 ∷ 32 ∷ (a ++ (s ++ 10 ∷ [])))
    ∙ sym (ap (λ t. codes "question " ++ t) (append_assoc d (58 ∷ 32 ∷ (a ++ s)) (10 ∷ []) ∙ ap (λ t. d ++ (58 ∷ 32 ∷ t)) (append_assoc a s (10 ∷ []))))

counted_as : (text : List ℕ) (suspects : Option ℕ) → IsFewLeft suspects → counted (codes " suspects]") text ≡ uncounted text → counted (codes " suspects]") (counted_text text suspects) ≡ record { text = text; number = suspects }
counted_as text None l u = ap (counted (codes " suspects]")) (append-nil text) ∙ u
counted_as text (Some n) l u = ap (λ t. counted (codes " suspects]") (text ++ t)) (append_assoc (codes " [") (decimal n) (codes " suspects]")) ∙ counted-back (codes "suspects]") text n (has_no-by 91 (codes "suspects]") refl) l

suspects-break : (s : Option ℕ) → IsFewLeft s → HasNoBreak (suspects_text s)
suspects-break None k = tt
suspects-break (Some m) k = break-append (codes " [" ++ decimal m) (codes " suspects]") (break-append (codes " [") (decimal m) (codes-break (codes " [") refl) (decimal-break m)) (codes-break (codes " suspects]") refl)

place_of : ℕ → Option ℕ → NumberedQuestion
place_of n suspects = record { number = n; suspects = suspects }

module _ {names : List (List ℕ)} (reader : Reader names) (ops : Table) where
  -- a question that is read from its own text
  pub record IsReadable (q : Question) : Type 0 where
    pub frame : NumberedQuestion → LineFrame
    pub text : List ℕ
    pub term : Term
    pub kind : (place : NumberedQuestion) → kind_form place (asked_text ops names q) ≡ Framed (frame place) text
    pub read : term_in reader ops text ≡ Some term
    pub as_asked : (place : NumberedQuestion) → entry_for (frame place) term ≡ Some (asked_entry place (canonical_question q))
    pub line : HasNoBreak (asked_text ops names q)

  module _ (n : ℕ) (x : Asked) (few : n < 2 ^ 64) (l : IsFewLeft x.suspects) (u : counted (codes " suspects]") (asked_text ops names x.question) ≡ uncounted (asked_text ops names x.question)) (r : IsReadable x.question) where
    abbrev line : List ℕ
    line = question_line ops names n x.question x.suspects

    form : form_in line ≡ Framed (r.frame (place_of n x.suspects)) r.text
    unfolding form_in place_of
    form =
        ap (λ o. if_some o asked_form Unread) (cut-at 58 (32 ∷ []) (decimal n) (counted_text (asked_text ops names x.question) x.suspects) (decimal-has_no_high 58 n (omega arith) few))
        ∙ ap (λ o. if_some o (λ k. counted_form k (counted (codes " suspects]") (counted_text (asked_text ops names x.question) x.suspects))) Unread) (number-back 18446744073709551616 n (omega (arith, few)) few)
        ∙ ap (counted_form n) (counted_as (asked_text ops names x.question) x.suspects l u)
        ∙ r.kind (place_of n x.suspects)

    entry_is : asked_entry (place_of n x.suspects) (canonical_question x.question) ≡ entry.Question n (canonical_asked x)
    unfolding place_of
    entry_is = ap (λ q. entry.Question n (record { question = q; suspects = x.suspects })) (form-again x.question)

    same_text : text_of ops names (entry.Question n (canonical_asked x)) ≡ line ++ 10 ∷ []
    same_text = text_is ops names n (canonical_asked x) ∙ ap (λ a. (codes "question " ++ (decimal n ++ (58 ∷ 32 ∷ counted_text a x.suspects))) ++ 10 ∷ []) (asked-again ops names x.question)

    framed : IsFramed reader ops line (entry.Question n (canonical_asked x))
    framed = record {
      frame = r.frame (place_of n x.suspects);
      text = r.text;
      term = r.term;
      form = form;
      read = r.read;
      entry = r.as_asked (place_of n x.suspects) ∙ ap Some entry_is;
      same = same_text;
      whole = break-append (codes "question ") (decimal n ++ (58 ∷ 32 ∷ counted_text (asked_text ops names x.question) x.suspects)) (codes-break (codes "question ") refl)
          (break-append (decimal n) (58 ∷ 32 ∷ counted_text (asked_text ops names x.question) x.suspects) (decimal-break n) (refl, (refl, break-append (asked_text ops names x.question) (suspects_text x.suspects) r.line (suspects-break x.suspects l))));
      alone = refl;
    }

    pub question-says : Says reader ops (text_of ops names (entry.Question n x)) (claims_of (entry.Question n x))
    question-says = framed-says reader ops line (text_of ops names (entry.Question n x)) (entry.Question n (canonical_asked x)) framed (text_is ops names n x)

  -- the text of what is asked stands in the line
  pub asked-short : (n : ℕ) (x : Asked) → IsShort (text_of ops names (entry.Question n x)) → IsLineShort (asked_text ops names x.question)
  asked-short n x short =
      let a = asked_text ops names x.question in
      let s = suspects_text x.suspects in
      let d = decimal n in
      let one : length (text_of ops names (entry.Question n x)) ≡ length (question_line ops names n x.question x.suspects ++ 10 ∷ []) = ap (length {A = ℕ}) (text_is ops names n x) in
      let two : length (question_line ops names n x.question x.suspects ++ 10 ∷ []) ≡ length (question_line ops names n x.question x.suspects) + 1 = length-append (question_line ops names n x.question x.suspects) (10 ∷ []) in
      let three : length (codes "question " ++ (d ++ (58 ∷ 32 ∷ (a ++ s)))) ≡ 9 + length (d ++ (58 ∷ 32 ∷ (a ++ s))) = length-append (codes "question ") (d ++ (58 ∷ 32 ∷ (a ++ s))) in
      let four : length (d ++ (58 ∷ 32 ∷ (a ++ s))) ≡ length d + length (58 ∷ 32 ∷ (a ++ s)) = length-append d (58 ∷ 32 ∷ (a ++ s)) in
      let five : length (58 ∷ 32 ∷ (a ++ s)) ≡ 2 + length (a ++ s) = length-append (58 ∷ 32 ∷ []) (a ++ s) in
      let six : length (a ++ s) ≡ length a + length s = length-append a s in
      omega (arith, short, one, two, three, four, five, six)

  module _ (table : IsTable ops) (all : AreNames names) where
    pub truth_readable : (a : Term) → IsTellable ops names a → IsLineShort (asked_text ops names (asks.True a)) → IsReadable (asks.True a)
    unfolding asked_text
    truth_readable a t short = record {
      frame = Truth;
      text = atom_text ops names a;
      term = canonical a;
      kind = λ place. refl;
      read = atom-read reader ops table all a t (behind-short (codes "true? ") (atom_text ops names a) 4 refl (omega (arith, short)));
      as_asked = λ place. refl;
      line = break-append (codes "true? ") (atom_text ops names a) (codes-break (codes "true? ") refl) (written-break ops names (canonical a) 999);
    }

    pub cover_readable : (t : Tuple) → IsClauseTellable ops names t → IsLineShort (asked_text ops names (asks.Covers t)) → IsReadable (asks.Covers t)
    unfolding asked_text
    cover_readable t c short = record {
      frame = Cover;
      text = clause_text ops names t;
      term = clause_term (canonical_tuple t);
      kind = λ place. refl;
      read = clause-read reader ops table all t c (behind-short (codes "covers? ") (clause_text ops names t) 6 refl (omega (arith, short)));
      as_asked = λ place. ap (λ (u : Tuple). Some (asked_entry place (asks.Covers u))) (clause-back reader ops table all t c);
      line = break-append (codes "covers? ") (clause_text ops names t) (codes-break (codes "covers? ") refl) (clause-break reader ops table all t c);
    }
