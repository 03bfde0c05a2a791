-- The line of a reply says the reply.
use Rattle.std.proofs.Common.{◌≡◌, ℕ, ◌+◌, ◌<◌, List, [], ◌∷◌, ◌++◌, length, refl, sym, ◌∙◌, ap, subst, append_assoc, append-nil, length-append, arith, Bool, true, false, Option, Some, None}
use Rattle.std.specs.Prelude.{codes}
use Rattle.std.specs.Fmt.{decimal}
use Rattle.std.specs.Option.{option_map, option_and_then}
use Rattle.apd_term.specs.Canonical.{canonical}
use Rattle.apd_term.specs.declared.term.NameId.{NameId}
use Rattle.apd_term.specs.declared.standard.TheConstants.{NIL, YES, NO, UNKNOWN}
use Rattle.apd_term.specs.Names.{text_of_name}
use Rattle.apd_term.specs.StandardNames.{standard_names}
use Rattle.apd_term.proofs.FirstNames.{length-standard_names}
use Rattle.apd_term.specs.Term.{Term, compound, none}
use Rattle.apd_ops.specs.Table.{Table, IsTable}
use Rattle.apd_read.specs.Reader.{Reader}
use Rattle.apd_write.specs.NameTexts.{function_text, name_text}
use Rattle.apd_write.specs.Writing.{in_parentheses, rest_text, written}
use Rattle.apd_term.specs.Listed.{list_term}
use Rattle.apd_text.specs.Dialogues.{giver_text, left_text, reply_text}
use Rattle.apd_text.specs.Entries.{text_of}
use Rattle.apd_text.specs.declared.entry.Entry.TheVariants as entry
use Rattle.apd_answers.specs.declared.question.Reply.{Reply}
use Rattle.apd_answers.specs.declared.question.Reply.TheVariants.{Yes, No, Values, Unknown}
use Rattle.apd_reading_back.specs.Law.{AreNames, IsWritable, ReadsAs, item_text}
use Rattle.apd_reading_back.specs.Queries.{call_text, call_term}
use Rattle.apd_reading_back.proofs.Goals.{calls_read_back}
use Rattle.apd_reading_back.proofs.Read.{items_read_back, standard_text}
use Rattle.apd_term.proofs.Listed.{listed-list}
use Rattle.apd_claims.specs.declared.form.LineForm.TheVariants.{Framed}
use Rattle.apd_claims.specs.declared.form.LineFrame.TheVariants.{Reply as Answer}
use Rattle.apd_claims.specs.Claims.{replied, reply_in}
use Rattle.apd_claims.specs.Forms.{form_in, framed_reply, reply_form}
use Rattle.apd_parts.specs.Parts.{before, counted, if_some, last_part}
use Rattle.apd_claims.specs.Reading.{as_clause, term_in}
use Rattle.apd_written.specs.Claims.{claims_of}
use Rattle.apd_written.specs.Says.{HasNoBreak, Says}
use Rattle.apd_written.specs.Texts.{AreTellable, IsWordReply, IsFewLeft, IsShort}
use Rattle.apd_written.proofs.Saying.{break-append}
use Rattle.apd_written.proofs.Breaks.{codes-break, decimal-break, written-break}
use Rattle.apd_written.proofs.Parts.{HasNo, before-end, counted-back, cut_last-second, decimal-has_no, has_no-append, has_no-by, line-short}
use Rattle.apd_written.proofs.Endings.{EndsIn, ends-append, ends-behind, last-apart, not_before, not_counted, two-apart}
use Rattle.apd_written.proofs.ReadBack.{term-read}
use Rattle.apd_written.proofs.Entries.{IsFramed, framed-says}

standard_yes : text_of_name standard_names YES ≡ codes "yes"
unfolding standard_names
standard_yes = refl

standard_nil : text_of_name standard_names NIL ≡ codes "[]"
unfolding standard_names
standard_nil = refl

standard_no : text_of_name standard_names NO ≡ codes "no"
unfolding standard_names
standard_no = refl

standard_unknown : text_of_name standard_names UNKNOWN ≡ codes "unknown"
unfolding standard_names
standard_unknown = refl

-- a word that stands alone
abbrev word_term : NameId → Term
word_term f = compound f none

-- what stands behind `reply: `
abbrev reply_rest : Table → List (List ℕ) → Reply → Option ℕ → List ℕ
reply_rest ops names r left = reply_text ops names r ++ left_text left

-- the line without its end
abbrev reply_line : Table → List (List ℕ) → Reply → Option ℕ → Bool → List ℕ
reply_line ops names r left given = codes "reply: " ++ (reply_rest ops names r left ++ giver_text given)

text_is : (ops : Table) (names : List (List ℕ)) (r : Reply) (left : Option ℕ) (given : Bool) → text_of ops names (entry.Replied r left given) ≡ reply_line ops names r left given ++ 10 ∷ []
unfolding text_of
text_is ops names r left given =
    let a = reply_text ops names r in
    let l = left_text left in
    let g = giver_text given in
    append_assoc (codes "reply: " ++ a ++ l) g (10 ∷ [])
    ∙ append_assoc (codes "reply: " ++ a) l (g ++ 10 ∷ [])
    ∙ append_assoc (codes "reply: ") a (l ++ (g ++ 10 ∷ []))
    ∙ sym (ap (λ t. codes "reply: " ++ t) (append_assoc (a ++ l) g (10 ∷ []) ∙ append_assoc a l (g ++ 10 ∷ [])))

left-break : (left : Option ℕ) → IsFewLeft left → HasNoBreak (left_text left)
left-break None l = tt
left-break (Some n) l = break-append (codes " [" ++ decimal n) (codes " left]") (break-append (codes " [") (decimal n) (codes-break (codes " [") refl) (decimal-break n)) (codes-break (codes " left]") refl)

giver-break : (given : Bool) → HasNoBreak (giver_text given)
giver-break true = codes-break (codes " (reference)") refl
giver-break false = tt

-- the text of a reply, with its number, is taken apart so; and it doesn't end as what the reference program gave
record IsParted (ops : Table) (names : List (List ℕ)) (r : Reply) (left : Option ℕ) : Type 0 where
  counts : counted (codes " left]") (reply_rest ops names r left) ≡ record { text = reply_text ops names r; number = left }
  own : before (codes " (reference)") (reply_rest ops names r left) ≡ None

form : (ops : Table) (names : List (List ℕ)) (r : Reply) (left : Option ℕ) (given : Bool) → IsParted ops names r left → form_in (reply_line ops names r left given) ≡ Framed (Answer left given) (reply_text ops names r)
unfolding form_in
form ops names r left true p =
    ap (λ o. if_some o (λ t. framed_reply true (counted (codes " left]") t)) (framed_reply false (counted (codes " left]") (reply_rest ops names r left ++ codes " (reference)"))))
    (before-end (codes " (reference)") (reply_rest ops names r left) refl)
    ∙ ap (framed_reply true) p.counts
form ops names r left false p =
    ap reply_form (append-nil (reply_rest ops names r left))
    ∙ ap (λ o. if_some o (λ t. framed_reply true (counted (codes " left]") t)) (framed_reply false (counted (codes " left]") (reply_rest ops names r left)))) p.own
    ∙ ap (framed_reply false) p.counts

no_parenthesis : (left : Option ℕ) → IsFewLeft left → HasNo 40 (left_text left)
no_parenthesis None l = tt
no_parenthesis (Some n) l = has_no-append 40 (codes " [" ++ decimal n) (codes " left]") (has_no-append 40 (codes " [") (decimal n) (has_no-by 40 (codes " [") refl) (decimal-has_no 40 n (omega arith) (omega (arith, l)))) (has_no-by 40 (codes " left]") refl)

module _ (ops : Table) (names : List (List ℕ)) where
  word_is : (r : Reply) → IsWordReply r → HasNo 40 (reply_text ops names r)
  unfolding reply_text
  word_is Yes w = has_no-by 40 (codes "yes") refl
  word_is No w = has_no-by 40 (codes "no") refl
  word_is Unknown w = has_no-by 40 (codes "unknown") refl
  word_is (Values vs) w = absurd w

  word_counts : (r : Reply) (left : Option ℕ) → IsWordReply r → IsFewLeft left → counted (codes " left]") (reply_rest ops names r left) ≡ record { text = reply_text ops names r; number = left }
  unfolding reply_text
  word_counts Yes None w l = refl
  word_counts No None w l = refl
  word_counts Unknown None w l = refl
  word_counts (Values vs) left w l = absurd w
  word_counts Yes (Some n) w l = ap (λ t. counted (codes " left]") (codes "yes" ++ t)) (append_assoc (codes " [") (decimal n) (codes " left]")) ∙ counted-back (codes "left]") (codes "yes") n (has_no-by 91 (codes "left]") refl) l
  word_counts No (Some n) w l = ap (λ t. counted (codes " left]") (codes "no" ++ t)) (append_assoc (codes " [") (decimal n) (codes " left]")) ∙ counted-back (codes "left]") (codes "no") n (has_no-by 91 (codes "left]") refl) l
  word_counts Unknown (Some n) w l = ap (λ t. counted (codes " left]") (codes "unknown" ++ t)) (append_assoc (codes " [") (decimal n) (codes " left]")) ∙ counted-back (codes "left]") (codes "unknown") n (has_no-by 91 (codes "left]") refl) l

  word_parted : (r : Reply) (left : Option ℕ) → IsWordReply r → IsFewLeft left → IsParted ops names r left
  word_parted r left w l = record {
    counts = word_counts r left w l;
    own = ap (option_and_then last_part) (cut_last-second 32 40 (codes "reference)") (reply_rest ops names r left) (has_no-append 40 (reply_text ops names r) (left_text left) (word_is r w) (no_parenthesis left l)));
  }

  word-break : (r : Reply) → IsWordReply r → HasNoBreak (reply_text ops names r)
  unfolding reply_text
  word-break Yes w = codes-break (codes "yes") refl
  word-break No w = codes-break (codes "no") refl
  word-break Unknown w = codes-break (codes "unknown") refl
  word-break (Values vs) w = absurd w

module _ {names : List (List ℕ)} (reader : Reader names) (ops : Table) (table : IsTable ops) (all : AreNames names) where
  many : (f : NameId) → f.0 < 132 → f.0 < length names
  many f l = omega (arith, l, ap (length {A = List ℕ}) all.standard.1, length-append standard_names all.standard.0, length-standard_names)

  word_read : (f : NameId) (bytes : List ℕ) → f.0 < 132 → text_of_name standard_names f ≡ bytes → name_text bytes ≡ bytes → IsShort (as_clause bytes) → term_in reader ops bytes ≡ Some (word_term f)
  word_read f bytes l e n short =
      let text : text_of_name names f ≡ bytes = standard_text names f bytes all.standard l e in
      let w : IsWritable names (word_term f) = record { named = (many f l, tt); canonical = refl; in_range = (omega arith, tt) } in
      let back : ReadsAs ops names (item_text ops names (word_term f) 999) (word_term f) = items_read_back ops names (word_term f) 999 table all w (omega arith) (omega arith) in
      let same : item_text ops names (word_term f) 999 ≡ as_clause bytes = ap (λ t. t ++ codes " .") (ap name_text text ∙ n) in
      term-read reader ops bytes (word_term f) table (subst (λ t. ReadsAs ops names t (word_term f)) same back) short

  -- a reply that is read from its text
  record IsReadReply (r : Reply) : Type 0 where
    term : Term
    read : term_in reader ops (reply_text ops names r) ≡ Some term
    is : reply_in term ≡ Some r

  reply_read : (r : Reply) → IsWordReply r → IsReadReply r
  unfolding reply_text
  reply_read Yes w = record { term = word_term YES; read = word_read YES (codes "yes") (omega arith) standard_yes refl (omega arith); is = refl }
  reply_read No w = record { term = word_term NO; read = word_read NO (codes "no") (omega arith) standard_no refl (omega arith); is = refl }
  reply_read Unknown w = record { term = word_term UNKNOWN; read = word_read UNKNOWN (codes "unknown") (omega arith) standard_unknown refl (omega arith); is = refl }
  reply_read (Values vs) w = absurd w

  -- Values, as a list that is ground.

  values_read : (vs : List Term) → AreTellable ops names vs → IsShort (as_clause (reply_text ops names (Values vs))) → IsReadReply (Values vs)
  unfolding reply_text
  values_read vs v short =
      let l = list_term vs in
      let name : text_of_name names YES ≡ codes "yes" = standard_text names YES (codes "yes") all.standard (omega arith) standard_yes in
      let back = calls_read_back ops names YES l table all (many YES (omega arith)) v.writable v.shallow in
      let text : call_text ops names YES l ++ codes " ." ≡ as_clause (codes "yes(" ++ written ops names (canonical l) 999 ++ codes ")") =
      ap (λ f. (function_text f ++ in_parentheses (written ops names l 999)) ++ codes " .") name ∙ ap (λ x. (codes "yes(" ++ written ops names x 999 ++ codes ")") ++ codes " .") (sym v.writable.canonical) in
      record {
        term = call_term YES l;
        read = term-read reader ops (codes "yes(" ++ written ops names (canonical l) 999 ++ codes ")") (call_term YES l) table (subst (λ t. ReadsAs ops names t (call_term YES l)) text back) short;
        is = ap (option_map Values) (listed-list vs);
      }

  values-break : (vs : List Term) → AreTellable ops names vs → HasNoBreak (reply_text ops names (Values vs))
  unfolding reply_text
  values-break vs v =
      let t = written ops names (canonical (list_term vs)) 999 in
      break-append (codes "yes(" ++ t) (codes ")") (break-append (codes "yes(") t (codes-break (codes "yes(") refl) (written-break ops names (canonical (list_term vs)) 999)) (codes-break (codes ")") refl)

  framed : (r : Reply) (left : Option ℕ) (given : Bool) → IsParted ops names r left → IsReadReply r → HasNoBreak (reply_text ops names r) → IsFewLeft left
      → IsFramed reader ops (reply_line ops names r left given) (entry.Replied r left given)
  framed r left given p read whole l = record {
    frame = Answer left given;
    text = reply_text ops names r;
    term = read.term;
    form = form ops names r left given p;
    read = read.read;
    entry = ap (option_map (replied left given)) read.is;
    same = text_is ops names r left given;
    whole = break-append (codes "reply: ") (reply_rest ops names r left ++ giver_text given) (codes-break (codes "reply: ") refl)
        (break-append (reply_rest ops names r left) (giver_text given) (break-append (reply_text ops names r) (left_text left) whole (left-break left l)) (giver-break given));
    alone = refl;
  }

  pub reply-says : (r : Reply) (left : Option ℕ) (given : Bool) → IsWordReply r → IsFewLeft left → Says reader ops (text_of ops names (entry.Replied r left given)) (claims_of (entry.Replied r left given))
  reply-says r left given w l =
      framed-says reader ops (reply_line ops names r left given) (text_of ops names (entry.Replied r left given)) (entry.Replied r left given)
      (framed r left given (word_parted ops names r left w l) (reply_read r w) (word-break ops names r w) l) (text_is ops names r left given)

  -- The text of values ends in two brackets, so nothing is taken for a number or a word behind it.

  rest_ends : (vs : List Term) → EndsIn (93 ∷ []) (rest_text ops names (list_term vs))
  rest_ends [] = ([], refl)
  rest_ends (w ∷ vs) = ends-behind (44 ∷ []) (93 ∷ []) (written ops names w 999 ++ rest_text ops names (list_term vs)) (ends-behind (written ops names w 999) (93 ∷ []) (rest_text ops names (list_term vs)) (rest_ends vs))

  list_ends : (vs : List Term) → EndsIn (93 ∷ []) (written ops names (list_term vs) 999)
  list_ends [] =
      let name : text_of_name names NIL ≡ codes "[]" = standard_text names NIL (codes "[]") all.standard (omega arith) standard_nil in
      (91 ∷ [], ap name_text name)
  list_ends (w ∷ vs) = ends-behind (91 ∷ []) (93 ∷ []) (written ops names w 999 ++ rest_text ops names (list_term vs)) (ends-behind (written ops names w 999) (93 ∷ []) (rest_text ops names (list_term vs)) (rest_ends vs))

  values_end : (vs : List Term) → AreTellable ops names vs → EndsIn (93 ∷ 41 ∷ []) (reply_text ops names (Values vs))
  unfolding reply_text
  values_end vs v =
      let t = written ops names (canonical (list_term vs)) 999 in
      let list : EndsIn (93 ∷ []) t = subst (λ x. EndsIn (93 ∷ []) (written ops names x 999)) (sym v.writable.canonical) (list_ends vs) in
      ends-append (93 ∷ []) (codes "yes(" ++ t) (codes ")") (ends-behind (codes "yes(") (93 ∷ []) t list)

  values_parted : (vs : List Term) → AreTellable ops names vs → IsParted ops names (Values vs) None
  values_parted vs v =
      let text = reply_text ops names (Values vs) in
      let e = values_end vs v in
      let last : EndsIn (41 ∷ []) text = (e.0 ++ 93 ∷ [], e.1 ∙ sym (append_assoc e.0 (93 ∷ []) (41 ∷ []))) in
      record {
        counts = ap (counted (codes " left]")) (append-nil text) ∙ not_counted (codes " left]") text (last-apart 41 93 text (codes " left]") refl last (codes " left", refl));
        own = ap (before (codes " (reference)")) (append-nil text) ∙ not_before (codes " (reference)") text (two-apart 93 41 101 41 text (codes " (reference)") refl e (codes " (referenc", refl));
      }

  pub values-says : (vs : List Term) (given : Bool) → AreTellable ops names vs → IsShort (text_of ops names (entry.Replied (Values vs) None given))
      → Says reader ops (text_of ops names (entry.Replied (Values vs) None given)) (claims_of (entry.Replied (Values vs) None given))
  values-says vs given v short =
      let line = reply_line ops names (Values vs) None given in
      let text = reply_text ops names (Values vs) in
      let line_short = line-short line (subst IsShort (text_is ops names (Values vs) None given) short) in
      let one : length (codes "reply: " ++ ((text ++ []) ++ giver_text given)) ≡ 7 + length ((text ++ []) ++ giver_text given) = length-append (codes "reply: ") ((text ++ []) ++ giver_text given) in
      let two : length ((text ++ []) ++ giver_text given) ≡ length (text ++ []) + length (giver_text given) = length-append (text ++ []) (giver_text given) in
      let three : length (text ++ []) ≡ length text + 0 = length-append text [] in
      let four : length (text ++ codes " .") ≡ length text + 2 = length-append text (codes " .") in
      let text_short : IsShort (as_clause text) = omega (arith, line_short, one, two, three, four) in
      framed-says reader ops line (text_of ops names (entry.Replied (Values vs) None given)) (entry.Replied (Values vs) None given)
      (framed (Values vs) None given (values_parted vs v) (values_read vs v text_short) (values-break vs v) tt) (text_is ops names (Values vs) None given)
