-- The text of clauses, each in a line of its own, reads as them in turn.
use Rattle.std.proofs.Common.{◌≡◌, ℕ, ◌+◌, ◌<◌, List, [], ◌∷◌, ◌++◌, length, map, drop, Bool, true, false, refl, inr, sym, ◌∙◌, ap, subst, arith, append_assoc, length-append}
use Rattle.std.specs.Prelude.{codes, if◌then◌else◌, IsUtf8, Ok}
use Rattle.std.specs.List.{fold}
use Rattle.std.proofs.lemmas.List.{append-nil, drop_at}
use Rattle.std.proofs.lemmas.Str.{IsUtf8-append, IsUtf8-from_ascii, IsUtf8-nil}
use Rattle.std.proofs.lemmas.Str.Ascii.{IsAscii-cons, IsAscii-nil}
use Rattle.apd_causes.specs.declared.reading.Read.{Read}
use Rattle.apd_ops.specs.Table.{Table, IsTable}
use Rattle.apd_read.specs.Answer.{IsReadAs, place_of}
use Rattle.apd_read.specs.Clause.{Fills, item_begins, no_element, filled}
use Rattle.apd_read.specs.Lexemes.{AreLexemes, no_lexeme, to_end}
use Rattle.apd_read.specs.Reader.{IsRead}
use Rattle.apd_read.specs.Reading.{Splits}
use Rattle.apd_read.specs.declared.lexeme.Lexeme.{Lexeme}
use Rattle.apd_read.specs.declared.lexeme.Sort.TheVariants.{End}
use Rattle.apd_read.specs.declared.places.Inside.TheVariants.{Clause}
use Rattle.apd_read.proofs.ByMain.{fills_by_main}
use Rattle.apd_read.proofs.Clauses.{lexemes_as_tokens}
use Rattle.apd_read.proofs.Ending.{all_read}
use Rattle.apd_read.proofs.Placed.{reading_under, fills_within}
use Rattle.apd_term.specs.Canonical.{by_appearance, with_new}
use Rattle.apd_term.specs.Term.{Term, variables}
use Rattle.apd_token.specs.Grammar.{Piece, tokens_of}
use Rattle.apd_token.specs.declared.items.Token.{Token}
use Rattle.apd_reading_back.specs.Law.{AreNames}
use Rattle.apd_reading_back.specs.Lines.{Line, IsWritten, as_clause, as_call, AreWritten, lines_text, ReadInTurn, ReadsInTurn}
use Rattle.apd_reading_back.specs.Pieces.{ended, text_of}
use Rattle.apd_reading_back.proofs.Begun.{goes_by}
use Rattle.apd_reading_back.proofs.Chained.{AreKept, AreChained, chained_apart, chained_utf8, whole_chained}
use Rattle.apd_reading_back.proofs.Goals.{call_laid}
use Rattle.apd_reading_back.proofs.Lexed.{lexed_along, lexed_stand}
use Rattle.apd_reading_back.proofs.Numbered.{AreNumbered, canonical_numbered, texts}
use Rattle.apd_reading_back.proofs.Parted.{AllApart, all_lines, line_of, lines_have_tokens}
use Rattle.apd_reading_back.proofs.Read.{IsLaid, ended_lexical, goes_on, kept_names, lexed_ends, lexed_named, reads_higher, stop, term_laid}
use Rattle.apd_reading_back.proofs.Scanned.{scan_whole}
use Rattle.apd_reading_back.proofs.Shown.{phrase}
use Rattle.apd_reading_back.proofs.SpelledUtf8.{text_utf8}
use Rattle.apd_reading_back.proofs.Words as words
use Rattle.apd_reading_back.proofs.Words.{Word, Blank, kind_of, bytes_of, piece, pieces, spelled, variables_in, lexed, pieces-append, spelled-append, text-pieces, variables_in-append}

-- The tokens of a line's words, with others behind them.
module _ (names : List (List ℕ)) where
  tokens_later : (rest : List Piece) (n m : ℕ) → n ≡ m → tokens_of n true rest ≡ tokens_of m true rest
  tokens_later rest n m e = ap (λ k. tokens_of k true rest) e

  -- where a line ends
  abbrev line_end : ℕ → List Word → ℕ
  line_end at ws = at + length (spelled names (ws ++ stop)) + 1

  line_tokens : (ws : List Word) (at : ℕ) (spaced : Bool) (rest : List Piece)
      → tokens_of at spaced (line_of (pieces names ws) rest) ≡ tokens_of at spaced (pieces names (ws ++ stop)) ++ tokens_of (line_end at ws) true rest
  line_tokens [] at spaced rest =
      let dot : Token = record { kind = kind_of End; start = at + 1; «end» = at + 1 + 1; spaced = true } in
      ap (λ (ts : List Token). dot ∷ ts) (tokens_later rest (at + 1 + 1 + 1) (at + 2 + 1) (omega arith))
  line_tokens (Blank ∷ ws) at spaced rest =
      line_tokens ws (at + 1) true rest
      ∙ ap (λ (ts : List Token). tokens_of (at + 1) true (pieces names (ws ++ stop)) ++ ts) (tokens_later rest (line_end (at + 1) ws) (line_end at (Blank ∷ ws)) (omega arith))
  line_tokens (words.Token s ∷ ws) at spaced rest =
      let n = length (bytes_of names s) in
      let t : Token = record { kind = kind_of s; start = at; «end» = at + n; spaced = spaced } in
      let far : line_end (at + n) ws ≡ line_end at (words.Token s ∷ ws) = let l = length-append (bytes_of names s) (spelled names (ws ++ stop)) in omega (arith, l) in
      ap (λ (ts : List Token). t ∷ ts)
      (line_tokens ws (at + n) false rest
      ∙ ap (λ (ts : List Token). tokens_of (at + n) false (pieces names (ws ++ stop)) ++ ts) (tokens_later rest (line_end (at + n) ws) (line_end at (words.Token s ∷ ws)) far))

  line_text : (ws : List Word) (rest : List Piece) → text_of (line_of (pieces names ws) rest) ≡ spelled names (ws ++ stop) ++ 10 ∷ text_of rest
  line_text [] rest = refl
  line_text (w ∷ ws) rest =
      ap (λ (bytes : List ℕ). (piece names w).bytes ++ bytes) (line_text ws rest) ∙ sym (append_assoc (piece names w).bytes (spelled names (ws ++ stop)) (10 ∷ text_of rest))

  -- the clause ends with its line
  line_to_end : (ws : List Word) (at : ℕ) (spaced : Bool) → AreChained names ws → (behind : List Token)
      → to_end (tokens_of at spaced (pieces names (ws ++ stop)) ++ behind) ≡ tokens_of at spaced (pieces names (ws ++ stop))
  line_to_end [] at spaced h behind = refl
  line_to_end (Blank ∷ ws) at spaced h behind = line_to_end ws (at + 1) true h.2 behind
  line_to_end (words.Token s ∷ ws) at spaced h behind =
      let n = at + length (bytes_of names s) in
      let t : Token = record { kind = kind_of s; start = at; «end» = n; spaced = spaced } in
      let rest : List Token = tokens_of n false (pieces names (ws ++ stop)) in
      ap (λ (b : Bool). t ∷ (if b then [] else to_end (rest ++ behind))) (goes_on names s h.0) ∙ ap (λ (ts : List Token). t ∷ ts) (line_to_end ws n false h.2 behind)

-- a clause of a text from a token on, of so many tokens
record ReadsLine (ops : Table) (names : List (List ℕ)) (text : List ℕ) (tokens : List Token) (at : ℕ) (t : Term) (count : ℕ) : Type 0 where
  read : Read
  reading : (later : List (List ℕ)) → IsRead ops (names ++ later) text tokens at (Ok read)
  same : read.term ≡ t
  next : read.next ≡ at + count
  some : 0 < count

module _ (ops : Table) (names : List (List ℕ)) (table : IsTable ops) (kept : AreKept names) where
  chained_words : {text : List ℕ} {t : Term} (l : IsLaid ops names text t) → AreChained names l.words
  chained_words l = subst (AreChained names) (append-nil l.words) (whole_chained ops names kept l.laid [] tt tt)

  line_reads : (text : List ℕ) (tokens : List Token) (start at : ℕ) (rest : List ℕ) (behind : List Token) {line : List ℕ} {t : Term} (l : IsLaid ops names line t)
      → drop start text ≡ spelled names (l.words ++ stop) ++ rest → drop at tokens ≡ tokens_of start true (pieces names (l.words ++ stop)) ++ behind
      → ReadsLine ops names text tokens at t (length (tokens_of start true (pieces names (l.words ++ stop))))
  line_reads text tokens start at rest behind {line} {t} l text_is tokens_are =
      let ws : List Word = l.words in
      let order : List ℕ = by_appearance (variables t) in
      let chained = chained_words l in
      let ls : List Lexeme = lexed names start true (ws ++ stop) in
      let own : List Token = tokens_of start true (pieces names (ws ++ stop)) in
      let vars : variables_in (ws ++ stop) ≡ variables t = variables_in-append ws stop ∙ append-nil (variables_in ws) ∙ l.vars in
      let numbered : AreNumbered [] (variables_in (ws ++ stop)) = subst (AreNumbered []) (sym vars) (canonical_numbered t l.form) in
      let all : AreLexemes names text own ls (texts (fold with_new [] (variables_in (ws ++ stop)))) =
      lexed_along names kept text (ws ++ stop) start true [] [] [] rest no_lexeme text_is (ended_lexical names ws chained) tt numbered in
      let ends_here : to_end (drop at tokens) ≡ own = ap to_end tokens_are ∙ line_to_end names ws start true chained behind in
      let are : AreLexemes names text (to_end (drop at tokens)) ls (texts order) =
      subst (λ (ts : List Token). AreLexemes names text ts ls (texts order)) (sym ends_here)
      (subst (λ vs. AreLexemes names text own ls (texts (fold with_new [] vs))) vars all) in
      let q = scan_whole ops names ls table l.laid Clause 0 [] 0 true stop l.fits item_begins (lexed_stand names (ws ++ stop) start true []) refl in
      let e : Lexeme = record { sort = End; spaced = true; start = q.behind.0 } in
      let f : Fills Splits ops ls Clause 0 (phrase t l.levels) (q.next + 1) =
      fills_by_main table (filled (phrase t l.levels) no_element q.scans (goes_by ops Clause ls q.next e q.behind.1) (reads_higher q.reads l.fits)) in
      let ends = lexed_ends names ws start true chained in
      let whole = all_read f refl (inr (ends.front, ends.last, ends.spelled, ends.none)) in
      let within = fills_within f in
      let counted = lexemes_as_tokens all in
      let read : Read = record { term = t; vars = texts order; start = place_of ls (length text) 0; next = at + (q.next + 1) } in
      let is : IsReadAs ops ls (texts order) (length text) at read =
      record { phrase = phrase t l.levels; count = q.next + 1; fills = f; shallow = l.shallow; term = refl; names = refl; start = refl; next = refl } in
      record {
        read = read;
        reading = λ later. reading_under ops names later text tokens at ls (texts order) read (lexed_named names ws start true chained) are is;
        same = refl;
        next = omega (arith, whole, within, counted);
        some = omega (arith, whole, within, counted);
      }

  -- lines that are laid out, and their pieces
  abbrev AllLaid : List Line → Type 0
  AllLaid [] = Unit {0}
  AllLaid (l ∷ ls) = IsLaid ops names l.text l.term × AllLaid ls

  abbrev pieces_in : (ls : List Line) → AllLaid ls → List (List Piece)
  pieces_in [] laid = []
  pieces_in (l ∷ ls) laid = pieces names laid.0.words ∷ pieces_in ls laid.1

  abbrev terms_in : List Line → List Term
  terms_in ls = map (λ (l : Line). l.term) ls

  lines_in_turn : (later : List (List ℕ)) (ls : List Line) (laid : AllLaid ls) (before text : List ℕ) (done tokens : List Token)
      → text ≡ before ++ text_of (all_lines (pieces_in ls laid)) → tokens ≡ done ++ tokens_of (length before) true (all_lines (pieces_in ls laid))
      → ReadInTurn ops (names ++ later) text tokens (length done) (terms_in ls)
  lines_in_turn later [] laid before text done tokens text_is tokens_are = sym (ap length (tokens_are ∙ append-nil done))
  lines_in_turn later (l ∷ ls) laid before text done tokens text_is tokens_are =
      let ws : List Word = laid.0.words in
      let rest : List Piece = all_lines (pieces_in ls laid.1) in
      let here : List ℕ = spelled names (ws ++ stop) in
      let own : List Token = tokens_of (length before) true (pieces names (ws ++ stop)) in
      let behind : List Token = tokens_of (line_end names (length before) ws) true rest in
      let text_so : text ≡ before ++ (here ++ 10 ∷ text_of rest) = text_is ∙ ap (λ (bytes : List ℕ). before ++ bytes) (line_text names ws rest) in
      let tokens_so : tokens ≡ done ++ (own ++ behind) = tokens_are ∙ ap (λ (ts : List Token). done ++ ts) (line_tokens names ws (length before) true rest) in
      let r = line_reads text tokens (length before) (length done) (10 ∷ text_of rest) behind laid.0
      (ap (drop (length before)) text_so ∙ drop_at before (here ++ 10 ∷ text_of rest) (length before) refl)
      (ap (drop (length done)) tokens_so ∙ drop_at done (own ++ behind) (length done) refl) in
      let text_more : text ≡ (before ++ (here ++ 10 ∷ [])) ++ text_of rest =
      text_so ∙ ap (λ (bytes : List ℕ). before ++ bytes) (sym (append_assoc here (10 ∷ []) (text_of rest))) ∙ sym (append_assoc before (here ++ 10 ∷ []) (text_of rest)) in
      let far : line_end names (length before) ws ≡ length (before ++ (here ++ 10 ∷ [])) =
      let one = length-append before (here ++ 10 ∷ []) in let two = length-append here (10 ∷ []) in omega (arith, one, two) in
      let tokens_more : tokens ≡ (done ++ own) ++ tokens_of (length (before ++ (here ++ 10 ∷ []))) true rest =
      tokens_so ∙ sym (append_assoc done own behind) ∙ ap (λ (ts : List Token). (done ++ own) ++ ts) (tokens_later names rest (line_end names (length before) ws) (length (before ++ (here ++ 10 ∷ []))) far) in
      let rest_read = lines_in_turn later ls laid.1 (before ++ (here ++ 10 ∷ [])) text (done ++ own) tokens text_more tokens_more in
      let next : length (done ++ own) ≡ r.read.next = length-append done own ∙ sym r.next in
      let many = ap length tokens_so ∙ length-append done (own ++ behind) in
      let both = length-append own behind in
      let r_next = r.next in
      let r_some = r.some in (
        r.read,
        r.reading later,
        r.same,
        omega (arith, r_next, r_some),
        omega (arith, r_next, many, both),
        subst (λ k. ReadInTurn ops (names ++ later) text tokens k (terms_in ls)) next rest_read,
      )

  -- their text
  laid_text : (ls : List Line) (laid : AllLaid ls) → lines_text ls ≡ text_of (all_lines (pieces_in ls laid))
  laid_text [] laid = refl
  laid_text (l ∷ ls) laid =
      let rest : List Piece = all_lines (pieces_in ls laid.1) in
      let here : spelled names (laid.0.words ++ stop) ≡ l.text ++ codes " ." = spelled-append names laid.0.words stop ∙ ap (λ (bytes : List ℕ). bytes ++ codes " .") laid.0.spells in
      let same : (l.text ++ codes " .\n") ++ text_of rest ≡ (l.text ++ codes " .") ++ 10 ∷ text_of rest =
      append_assoc l.text (codes " .\n") (text_of rest) ∙ sym (append_assoc l.text (codes " .") (10 ∷ text_of rest)) in
      ap (λ (bytes : List ℕ). (l.text ++ codes " .\n") ++ bytes) (laid_text ls laid.1)
      ∙ same
      ∙ ap (λ (bytes : List ℕ). bytes ++ 10 ∷ text_of rest) (sym here)
      ∙ sym (line_text names laid.0.words rest)

  all_apart : (ls : List Line) (laid : AllLaid ls) → AllApart (pieces_in ls laid)
  all_apart [] laid = tt
  all_apart (l ∷ ls) laid = (chained_apart names laid.0.words (chained_words laid.0), all_apart ls laid.1)

  all_utf8 : (ls : List Line) (laid : AllLaid ls) → IsUtf8 (text_of (all_lines (pieces_in ls laid)))
  all_utf8 [] laid = IsUtf8-nil
  all_utf8 (l ∷ ls) laid =
      let ws = laid.0.words in
      let rest : List Piece = all_lines (pieces_in ls laid.1) in
      let apart = chained_apart names ws (chained_words laid.0) in
      let same : ended (pieces names ws) ≡ pieces names (ws ++ stop) = sym (pieces-append names ws stop) in
      let here : IsUtf8 (spelled names (ws ++ stop)) =
      subst IsUtf8 (ap text_of same ∙ text-pieces names (ws ++ stop)) (text_utf8 (pieces names ws) apart (chained_utf8 names ws (chained_words laid.0))) in
      subst IsUtf8 (sym (line_text names ws rest))
      (IsUtf8-append (spelled names (ws ++ stop)) (10 ∷ text_of rest) here
      (IsUtf8-append (10 ∷ []) (text_of rest) (IsUtf8-from_ascii (10 ∷ []) (IsAscii-cons 10 [] (omega arith) IsAscii-nil)) (all_utf8 ls laid.1)))

  laid_read_in_turn : (ls : List Line) (laid : AllLaid ls) → ReadsInTurn ops names (lines_text ls) (terms_in ls)
  laid_read_in_turn ls laid =
      let pss = pieces_in ls laid in
      subst (λ (text : List ℕ). ReadsInTurn ops names text (terms_in ls)) (sym (laid_text ls laid))
      (record {
        tokens = tokens_of 0 true (all_lines pss);
        divided = (all_utf8 ls laid, lines_have_tokens pss (all_apart ls laid));
        reading = λ later. lines_in_turn later ls laid [] (text_of (all_lines pss)) [] (tokens_of 0 true (all_lines pss)) refl refl;
      })

line_laid : (ops : Table) (names : List (List ℕ)) (l : Line) → IsTable ops → AreNames names → IsWritten ops names l → IsLaid ops names l.text l.term
line_laid ops names l table all (as_clause t r) =
    term_laid ops names table (kept_names names all) t 1200 (omega arith) (record { named = r.named; canonical = r.canonical; in_range = r.in_range }) r.shallow
line_laid ops names l table all (as_call f t k w n) = call_laid ops names f t table all k w n

-- lines that are written read as their terms in turn
pub lines_read_in_turn : (ops : Table) (names : List (List ℕ)) (ls : List Line) → IsTable ops → AreNames names → AreWritten ops names ls → ReadsInTurn ops names (lines_text ls) (map (λ (l : Line). l.term) ls)
lines_read_in_turn ops names ls table all w = laid_read_in_turn ops names table (kept_names names all) ls (laid ls w)
  where
    laid : (ms : List Line) → AreWritten ops names ms → AllLaid ops names table (kept_names names all) ms
    laid [] v = tt
    laid (l ∷ ms) v = (line_laid ops names l table all v.0, laid ms v.1)
