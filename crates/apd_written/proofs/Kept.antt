-- The lines of what is known say nothing: each begins with the name of a statement and a parenthesis.
use Rattle.std.proofs.Common.{◌≡◌, ℕ, List, [], ◌∷◌, ◌++◌, refl, sym, ◌∙◌, ap, subst, append_assoc, arith}
use Rattle.std.specs.Prelude.{codes, flat_map, if◌then◌else◌, false}
use Rattle.apd_term.specs.declared.term.NameId.{NameId}
use Rattle.apd_term.specs.declared.term.Pred.{Pred}
use Rattle.apd_term.specs.declared.standard.TheConstants.{BELOW, CELL, COVERS, CURLY, TRUE, TRUSTED}
use Rattle.apd_term.specs.Names.{text_of_name}
use Rattle.apd_term.specs.StandardNames.{standard_names}
use Rattle.apd_term.specs.Term.{Term, compound, none, more}
use Rattle.apd_ops.specs.Table.{Table, IsNoOperator, infix_in}
use Rattle.apd_read.specs.Reader.{Reader}
use Rattle.apd_write.specs.Writing.{Part, arguments_text, function, is_same_name, list_text, one_text, rest_text, two_text, written}
use Rattle.apd_answers.specs.declared.question.Question.{Question}
use Rattle.apd_answers.specs.declared.question.Question.TheVariants as asks
use Rattle.apd_answers.specs.declared.question.Reply.{Reply}
use Rattle.apd_answers.specs.declared.store.Pair.{Pair}
use Rattle.apd_kept.specs.Kept.{known_text, line_of, pair_line, pair_term, trust_line, trust_term}
use Rattle.apd_text.specs.Entries.{text_of}
use Rattle.apd_text.specs.declared.entry.Entry.TheVariants.{Known}
use Rattle.apd_reading_back.specs.Law.{AreNames}
use Rattle.apd_reading_back.proofs.Read.{standard_text}
use Rattle.apd_claims.specs.Forms.{form_in}
use Rattle.apd_claims.specs.Saying.{is_candidate}
use Rattle.apd_written.specs.Says.{Says, no_line, quiet_line}
use Rattle.apd_written.specs.Uttered.{AreNoOperators, IsKnownText}
use Rattle.apd_written.proofs.Saying.{break-append, says-append}
use Rattle.apd_written.proofs.Breaks.{codes-break, written-break}
use Rattle.apd_written.proofs.Notes.{IsQuiet}
use Rattle.apd_written.proofs.Quiet.{other-said}

standard_true : text_of_name standard_names TRUE ≡ codes "true"
unfolding standard_names
standard_true = refl

standard_covers : text_of_name standard_names COVERS ≡ codes "covers"
unfolding standard_names
standard_covers = refl

standard_below : text_of_name standard_names BELOW ≡ codes "below"
unfolding standard_names
standard_below = refl

standard_trusted : text_of_name standard_names TRUSTED ≡ codes "trusted"
unfolding standard_names
standard_trusted = refl

true_quiet : IsQuiet (codes "true(")
unfolding form_in
true_quiet rest = (refl, refl)

covers_quiet : IsQuiet (codes "covers(")
unfolding form_in
covers_quiet rest = (refl, refl)

below_quiet : IsQuiet (codes "below(")
unfolding form_in
below_quiet rest = (refl, refl)

trusted_quiet : IsQuiet (codes "trusted(")
unfolding form_in
trusted_quiet rest = (refl, refl)

module _ (ops : Table) (names : List (List ℕ)) (all : AreNames names) where
  -- how the text of a term begins
  record Begins (front : List ℕ) (t : Term) : Type 0 where
    rest : List ℕ
    is : written ops names t 1200 ≡ front ++ rest

  abbrev part_of : Term → Part
  part_of t = record { term = t; text = written ops names t; rest = rest_text ops names t }

  -- a name that is no operator, with its arguments
  of_one : (f : NameId) (a : Term) (bytes : List ℕ) → is_same_name f CURLY ≡ false → IsNoOperator ops f → text_of_name names f ≡ bytes → written ops names (compound f (more a none)) 1200 ≡ function bytes (part_of a ∷ [])
  of_one f a bytes c apart e =
      ap (λ m. one_text ops m f (text_of_name names f) 1200 (part_of a)) apart.0
      ∙ ap (λ b. if b then codes "{" ++ written ops names a 1200 ++ codes "}" else function (text_of_name names f) (part_of a ∷ [])) c
      ∙ ap (λ n. function n (part_of a ∷ [])) e

  of_two : (f : NameId) (a b : Term) (bytes : List ℕ) → is_same_name f CELL ≡ false → IsNoOperator ops f → text_of_name names f ≡ bytes
      → written ops names (compound f (more a (more b none))) 1200 ≡ function bytes (part_of a ∷ part_of b ∷ [])
  of_two f a b bytes c apart e =
      ap (λ x. if x then codes "[" ++ list_text (part_of a) (part_of b) else two_text ops (infix_in ops f.0) f (text_of_name names f) 1200 (part_of a) (part_of b)) c
      ∙ ap (λ m. two_text ops m f (text_of_name names f) 1200 (part_of a) (part_of b)) apart.1
      ∙ ap (λ n. function n (part_of a ∷ part_of b ∷ [])) e

  of_three : (f : NameId) (a b c : Term) (bytes : List ℕ) → text_of_name names f ≡ bytes → written ops names (compound f (more a (more b (more c none)))) 1200 ≡ function bytes (part_of a ∷ part_of b ∷ part_of c ∷ [])
  of_three f a b c bytes e = ap (λ n. function n (part_of a ∷ part_of b ∷ part_of c ∷ [])) e

  trusts : (a : Term) → AreNoOperators ops → Begins (codes "trusted(") (compound TRUSTED (more a none))
  trusts a apart = record {
    rest = arguments_text (part_of a ∷ []) ++ codes ")";
    is = of_one TRUSTED a (codes "trusted") refl apart.of_trusted (standard_text names TRUSTED (codes "trusted") all.standard (omega arith) standard_trusted);
  }

  truths : (a r : Term) → AreNoOperators ops → Begins (codes "true(") (compound TRUE (more a (more r none)))
  truths a r apart = record {
    rest = arguments_text (part_of a ∷ part_of r ∷ []) ++ codes ")";
    is = of_two TRUE a r (codes "true") refl apart.of_true (standard_text names TRUE (codes "true") all.standard (omega arith) standard_true);
  }

  covering : (a r : Term) → AreNoOperators ops → Begins (codes "covers(") (compound COVERS (more a (more r none)))
  covering a r apart = record {
    rest = arguments_text (part_of a ∷ part_of r ∷ []) ++ codes ")";
    is = of_two COVERS a r (codes "covers") refl apart.of_covers (standard_text names COVERS (codes "covers") all.standard (omega arith) standard_covers);
  }

  orders : (q p r : Term) → Begins (codes "below(") (compound BELOW (more q (more p (more r none))))
  orders q p r = record {
    rest = arguments_text (part_of q ∷ part_of p ∷ part_of r ∷ []) ++ codes ")";
    is = of_three BELOW q p r (codes "below") (standard_text names BELOW (codes "below") all.standard (omega arith) standard_below);
  }

module _ {names : List (List ℕ)} (reader : Reader names) (ops : Table) (all : AreNames names) where
  -- the line of a statement
  statement-says : (front : List ℕ) (t : Term) → IsQuiet front → Begins ops names all front t → Says reader ops (line_of ops names t) []
  statement-says front t q b =
      let w = written ops names t 1200 in
      let line = w ++ codes " ." in
      let same : line ≡ front ++ (b.rest ++ codes " .") = ap (λ x. x ++ codes " .") b.is ∙ append_assoc front b.rest (codes " .") in
      subst (λ x. Says reader ops x []) (append_assoc w (codes " .") (10 ∷ []))
      (quiet_line line
      (other-said reader ops line (break-append w (codes " .") (written-break ops names t 1200) (refl, (refl, tt))) (ap form_in same ∙ (q (b.rest ++ codes " .")).0) (ap is_candidate same ∙ (q (b.rest ++ codes " .")).1))
      no_line)

  pair-says : AreNoOperators ops → (q : Question) (r : Reply) → Says reader ops (pair_line ops names (record { question = q; reply = r })) []
  pair-says apart (asks.True a) r = statement-says (codes "true(") (pair_term (record { question = asks.True a; reply = r })) true_quiet (truths ops names all _ _ apart)
  pair-says apart (asks.Covers t) r = statement-says (codes "covers(") (pair_term (record { question = asks.Covers t; reply = r })) covers_quiet (covering ops names all _ _ apart)
  pair-says apart (asks.Below q p) r = statement-says (codes "below(") (pair_term (record { question = asks.Below q p; reply = r })) below_quiet (orders ops names all _ _ _)

  pairs-say : AreNoOperators ops → (ps : List Pair) → Says reader ops (flat_map (pair_line ops names) ps) []
  pairs-say apart [] = no_line
  pairs-say apart (p ∷ ps) = says-append reader ops (pair-says apart p.question p.reply) (pairs-say apart ps)

  trust-says : AreNoOperators ops → (ps : List Pred) → Says reader ops (flat_map (trust_line ops names) ps) []
  trust-says apart [] = no_line
  trust-says apart (p ∷ ps) = says-append reader ops (statement-says (codes "trusted(") (trust_term p) trusted_quiet (trusts ops names all _ apart)) (trust-says apart ps)

  form-says : Says reader ops (codes "form(2) .\n") []
  unfolding form_in
  form-says = quiet_line (codes "form(2) .") (other-said reader ops (codes "form(2) .") (codes-break (codes "form(2) .") refl) refl refl) no_line

  pub known-says : (text : List ℕ) → IsKnownText ops names text → AreNoOperators ops → Says reader ops (text_of ops names (Known text)) []
  unfolding known_text text_of
  known-says text k apart =
      let store = k.0 in
      subst (λ x. Says reader ops x []) (sym k.1)
      (says-append reader ops (says-append reader ops form-says (trust-says apart store.trusted)) (pairs-say apart store.pairs))
