-- The line of a question about two calls says the question: their two atoms are read as the arguments of one term.
use Rattle.std.proofs.Common.{◌≡◌, ℕ, ◌+◌, ◌<◌, max, List, [], ◌∷◌, ◌++◌, length, length-append, refl, sym, ◌∙◌, ap, subst, append_assoc, append-nil, arith, Bool, true, false, Option}
use Rattle.std.specs.Prelude.{codes, slice_get}
use Rattle.apd_term.specs.Canonical.{canonical}
use Rattle.apd_term.specs.Names.{text_of_name}
use Rattle.apd_term.specs.StandardNames.{standard_names}
use Rattle.apd_term.proofs.FirstNames.{length-standard_names}
use Rattle.apd_term.specs.Term.{Term, compound, none, more, variables}
use Rattle.apd_term.specs.declared.standard.TheConstants.{BELOW, COMMA}
use Rattle.apd_ops.specs.Table.{Table, IsTable}
use Rattle.apd_read.specs.declared.lexeme.Lexeme.{Lexeme}
use Rattle.apd_read.specs.declared.lexeme.Sort.{Sort}
use Rattle.apd_read.specs.declared.lexeme.Sort.TheVariants.{Comma, Close, Open}
use Rattle.apd_read.specs.declared.phrase.Phrase.{Phrase}
use Rattle.apd_read.specs.declared.places.Inside.TheVariants.{Clause, Args}
use Rattle.apd_read.specs.declared.places.Begin.TheVariants as begin
use Rattle.apd_read.specs.Phrases.{call, raised}
use Rattle.apd_read.specs.Places.{begin_by, begins}
use Rattle.apd_read.specs.Reading.{Operand, one_operand}
use Rattle.apd_read.specs.Clause.{item_begins, then_bracket, no_element, then_element, filled}
use Rattle.apd_read.specs.Reader.{Reader}
use Rattle.apd_write.specs.NameTexts.{function_text, is_bare}
use Rattle.apd_write.specs.Writing.{written}
use Rattle.apd_answers.specs.declared.question.Question.TheVariants as asks
use Rattle.apd_text.specs.Dialogues.{asked_text}
use Rattle.apd_reading_back.specs.Law.{AreNames, ReadsAs}
use Rattle.apd_reading_back.specs.Levels.{levels}
use Rattle.apd_reading_back.specs.Queries.{AreReadable}
use Rattle.apd_reading_back.proofs.Words.{Word, Blank, Token, name_sort, StandAt, spelled, variables_in, lexed}
use Rattle.apd_reading_back.proofs.Laid
use Rattle.apd_reading_back.proofs.Laid.{IsName, parenthesized}
use Rattle.apd_reading_back.proofs.Begun.{begins_by, call_begins, goes_by}
use Rattle.apd_reading_back.proofs.Chained.{AreKept, AreChained, whole_chained, joined, behind_blank, before, opened, named_word}
use Rattle.apd_reading_back.proofs.Scanned.{Scanned, scan_whole, joined_at}
use Rattle.apd_reading_back.proofs.Shown.{phrase, raised_as, both_spell, both_vars, closed_spells, closed_vars}
use Rattle.apd_reading_back.proofs.ShownTerms.{term_shown}
use Rattle.apd_reading_back.proofs.Texts.{no_variable, bytes_of_name}
use Rattle.apd_reading_back.proofs.Utf8Names.{has_utf8}
use Rattle.apd_term.proofs.Utf8Texts.{utf8_text}
use Rattle.apd_reading_back.proofs.Read.{kept_names, stop, words_read_back, standard_text}
use Rattle.apd_reading_back.proofs.Lexed.{lexed_stand}
use Rattle.apd_claims.specs.declared.form.LineFrame.TheVariants.{Order}
use Rattle.apd_claims.specs.Reading.{as_clause}
use Rattle.apd_written.specs.Texts.{IsLineShort, IsShort, order_term, order_text}
use Rattle.apd_written.proofs.Saying.{break-append}
use Rattle.apd_written.proofs.Breaks.{codes-break, written-break}
use Rattle.apd_written.proofs.Questions.{IsReadable}
use Rattle.apd_written.proofs.ReadBack.{term-read}

standard_below : text_of_name standard_names BELOW ≡ codes "below"
unfolding standard_names
standard_below = refl

abbrev lexeme : Sort → Bool → ℕ → Lexeme
lexeme s spaced start = record { sort = s; spaced = spaced; start = start }

-- the words of two arguments, with a blank behind the comma
abbrev two_words : List Word → List Word → List Word
two_words us vs = us ++ Token Comma ∷ Blank ∷ vs

module _ (ops : Table) (names : List (List ℕ)) (table : IsTable ops) (kept : AreKept names) where
  two_chained : {a b : Phrase} (us vs : List Word) → Laid.Whole ops names 999 a us → Laid.Whole ops names 999 b vs → IsName names BELOW
      → AreChained names (Token (name_sort names BELOW) ∷ parenthesized (two_words us vs))
  two_chained us vs w x k =
      let last : AreChained names (Token Close ∷ []) = opened ops names kept (Token Close) [] tt refl tt in
      let second : AreChained names (vs ++ Token Close ∷ []) = whole_chained ops names kept x (Token Close ∷ []) refl last in
      let comma : AreChained names (Token Comma ∷ Blank ∷ (vs ++ Token Close ∷ [])) = opened ops names kept (Token Comma) (Blank ∷ (vs ++ Token Close ∷ [])) tt refl (behind_blank ops names kept (vs ++ Token Close ∷ []) second) in
      let first : AreChained names (two_words us vs ++ Token Close ∷ []) = joined ops names kept us (Token Comma ∷ Blank ∷ vs) (Token Close ∷ []) (whole_chained ops names kept w (Token Comma ∷ Blank ∷ (vs ++ Token Close ∷ [])) refl comma) in
      before ops names kept (Token (name_sort names BELOW)) (Token Open ∷ (two_words us vs ++ Token Close ∷ [])) (named_word names BELOW k) refl (opened ops names kept (Token Open) (two_words us vs ++ Token Close ∷ []) tt refl first)

  scan_two : (ls : List Lexeme) {a b : Phrase} (us vs : List Word) → Laid.Whole ops names 999 a us → Laid.Whole ops names 999 b vs → (rest : List Word)
      → StandAt ls 0 true ((Token (name_sort names BELOW) ∷ parenthesized (two_words us vs)) ++ rest) → Scanned ops ls Clause 0 [] 1200 (call BELOW (a ∷ b ∷ [])) rest
  scan_two ls {a} {b} us vs w x rest h =
      let begun : begins ops ls 0 ≡ begin.Opens (Args BELOW) 2 =
      begins_by ops ls 0 (lexeme (name_sort names BELOW) true h.0) h.1
      ∙ ap (λ (o : Option Lexeme). begin_by ops (name_sort names BELOW) o (slice_get ls 2)) h.2.1
      ∙ call_begins ops BELOW (is_bare (text_of_name names BELOW)) h.2.0 (slice_get ls 2) in
      let inside = joined_at ops names ls table 2 false (two_words us vs) (Token Close ∷ []) rest h.2.2 in
      let apart = joined_at ops names ls table 2 false us (Token Comma ∷ Blank ∷ vs) (Token Close ∷ rest) inside in
      let q = scan_whole ops names ls table w (Args BELOW) 2 [] 2 false (Token Comma ∷ Blank ∷ (vs ++ Token Close ∷ rest)) (omega arith) item_begins apart tt in
      let more = then_element a no_element q.scans (goes_by ops (Args BELOW) ls q.next (lexeme Comma false q.behind.0) q.behind.1) q.reads (omega arith) in
      let r = scan_whole ops names ls table x (Args BELOW) (q.next + 1) [] (q.next + 1) true (Token Close ∷ rest) (omega arith) item_begins q.behind.2 tt in
      let fills = filled b more r.scans (goes_by ops (Args BELOW) ls r.next (lexeme Close false r.behind.0) r.behind.1) r.reads in
      record {
        pieces = Operand (call BELOW (a ∷ b ∷ [])) ∷ [];
        next = r.next + 1;
        reads = one_operand;
        scans = then_bracket (Args BELOW) 2 (call BELOW (a ∷ b ∷ [])) item_begins begun fills;
        behind = r.behind.2;
      }

-- canonical behind one name is canonical behind another
order_form : (q p : Term) → canonical (compound COMMA (more q (more p none))) ≡ compound COMMA (more q (more p none)) → canonical (order_term q p) ≡ order_term q p
order_form q p e = ap with_below e
  where
    with_below : Term → Term
    with_below (compound f ts) = compound BELOW ts
    with_below t = t

pub orders_read_back : (ops : Table) (names : List (List ℕ)) (q p : Term) → IsTable ops → AreNames names → AreReadable ops names q (p ∷ []) → ReadsAs ops names (as_clause (order_text ops names q p)) (order_term q p)
orders_read_back ops names q p table all c =
    let kept = kept_names names all in
    let n = max (levels ops q 999) (levels ops p 999) in
    let shallow : n + 1 < 1000 = c.shallow in
    let g = c.goals_are.0 in
    let h = c.goals_are.1.0 in
    let s = ((term_shown ops names table kept q g.named (has_utf8 names kept.utf8 q) g.in_range).at 999 (omega (arith, shallow))).whole in
    let r = ((term_shown ops names table kept p h.named (has_utf8 names kept.utf8 p) h.in_range).at 999 (omega (arith, shallow))).whole in
    let name : text_of_name names BELOW ≡ codes "below" = standard_text names BELOW (codes "below") all.standard (omega arith) standard_below in
    let k : IsName names BELOW = record { kept = many; utf8 = utf8_text names BELOW all.utf8 } in
    let us = s.words in
    let vs = r.words in
    let ws : List Word = Token (name_sort names BELOW) ∷ parenthesized (two_words us vs) in
    let ls = lexed names 0 true (ws ++ stop) in
    let raised_so : call BELOW (phrase q (levels ops q 999) ∷ phrase p (levels ops p 999) ∷ []) ≡ phrase (order_term q p) (n + 1) =
    ap (λ i. raised (max (levels ops q 999) i) (order_term q p)) (no_higher (levels ops p 999)) ∙ raised_as (order_term q p) n shallow in
    let scanned = subst (λ (x : Phrase). Scanned ops ls Clause 0 [] 1200 x stop) raised_so (scan_two ops names table kept ls us vs s.whole r.whole stop (lexed_stand names (ws ++ stop) 0 true [])) in
    let two = written ops names q 999 ++ (44 ∷ 32 ∷ written ops names p 999) in
    let spells : spelled names ws ≡ order_text ops names q p =
    ap (λ x. x ++ 40 ∷ spelled names (two_words us vs ++ Token Close ∷ [])) (bytes_of_name names BELOW ∙ ap function_text name)
    ∙ ap (λ x. codes "below(" ++ x) (closed_spells names (two_words us vs) (Token Close) two (both_spell names us (Token Comma ∷ Blank ∷ vs) (written ops names q 999) (44 ∷ 32 ∷ written ops names p 999) s.spells (ap (λ x. 44 ∷ 32 ∷ x) r.spells)))
    ∙ ap (λ x. codes "below(" ++ (x ++ codes ")")) (sym (append_assoc (written ops names q 999) (codes ", ") (written ops names p 999))) in
    let vars : variables_in ws ≡ variables (order_term q p) =
    no_variable names BELOW (parenthesized (two_words us vs))
    ∙ closed_vars (two_words us vs) (Token Close) (variables q ++ variables p) refl (both_vars us (Token Comma ∷ Blank ∷ vs) (variables q) (variables p) s.vars r.vars)
    ∙ ap (λ xs. variables q ++ xs) (sym (append-nil (variables p))) in
    words_read_back ops names table kept (order_term q p) (n + 1) (order_text ops names q p) ws (two_chained ops names table kept us vs s.whole r.whole k) scanned shallow (order_form q p c.form) spells vars
  where
    no_higher : (i : ℕ) → max i 0 ≡ i
    no_higher i = omega arith

    many : BELOW.0 < length names
    many = omega (arith, ap (length {A = List ℕ}) all.standard.1, length-append standard_names all.standard.0, length-standard_names)

-- the text that is read is no longer than the question's line, which has its number too
pub order-short : (ops : Table) (names : List (List ℕ)) (q p : Term) → IsLineShort (asked_text ops names (asks.Below q p)) → IsShort (as_clause (order_text ops names (canonical q) (canonical p)))
unfolding asked_text
order-short ops names q p short =
    let wa = written ops names (canonical q) 999 in
    let wb = written ops names (canonical p) 999 in
    let one : length (codes "below? " ++ wa ++ codes ", " ++ wb) ≡ length (codes "below? " ++ wa ++ codes ", ") + length wb = length-append (codes "below? " ++ wa ++ codes ", ") wb in
    let two : length (codes "below? " ++ wa ++ codes ", ") ≡ length (codes "below? " ++ wa) + 2 = length-append (codes "below? " ++ wa) (codes ", ") in
    let three : length (codes "below? " ++ wa) ≡ 7 + length wa = length-append (codes "below? ") wa in
    let four : length ((codes "below(" ++ (wa ++ codes ", " ++ wb) ++ codes ")") ++ codes " .") ≡ length (codes "below(" ++ (wa ++ codes ", " ++ wb) ++ codes ")") + 2 = length-append (codes "below(" ++ (wa ++ codes ", " ++ wb) ++ codes ")") (codes " .") in
    let five : length (codes "below(" ++ (wa ++ codes ", " ++ wb) ++ codes ")") ≡ length (codes "below(" ++ (wa ++ codes ", " ++ wb)) + 1 = length-append (codes "below(" ++ (wa ++ codes ", " ++ wb)) (codes ")") in
    let six : length (codes "below(" ++ (wa ++ codes ", " ++ wb)) ≡ 6 + length (wa ++ codes ", " ++ wb) = length-append (codes "below(") (wa ++ codes ", " ++ wb) in
    let seven : length (wa ++ codes ", " ++ wb) ≡ length (wa ++ codes ", ") + length wb = length-append (wa ++ codes ", ") wb in
    let eight : length (wa ++ codes ", ") ≡ length wa + 2 = length-append wa (codes ", ") in
    omega (arith, short, one, two, three, four, five, six, seven, eight)

module _ {names : List (List ℕ)} (reader : Reader names) (ops : Table) (table : IsTable ops) (all : AreNames names) where
  pub order_readable : (q p : Term) → AreReadable ops names (canonical q) (canonical p ∷ []) → IsShort (as_clause (order_text ops names (canonical q) (canonical p))) → IsReadable reader ops (asks.Below q p)
  unfolding asked_text
  order_readable q p c short =
      let a = canonical q in
      let b = canonical p in
      let wa = written ops names a 999 in
      let wb = written ops names b 999 in
      record {
        frame = Order;
        text = order_text ops names a b;
        term = order_term a b;
        kind = λ place. refl;
        read = term-read reader ops (order_text ops names a b) (order_term a b) table (orders_read_back ops names a b table all c) short;
        as_asked = λ place. refl;
        line = break-append (codes "below? " ++ wa ++ codes ", ") wb
            (break-append (codes "below? " ++ wa) (codes ", ") (break-append (codes "below? ") wa (codes-break (codes "below? ") refl) (written-break ops names a 999)) (refl, (refl, tt)))
            (written-break ops names b 999);
      }
