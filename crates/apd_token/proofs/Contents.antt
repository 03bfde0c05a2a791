-- A token in its text, and what it stands for.
use Rattle.std.proofs.Common.{◌≡◌, ℕ, ◌+◌, ◌-◌, ◌<◌, ◌≤◌, List, [], ◌∷◌, ◌++◌, length, get_or, take, drop, refl, sym, ◌∙◌, ap, subst, inl, inr, Bool, true, false, ◌==◌, if◌then◌else◌, zero, suc, arith, append_assoc, length-append}
use Rattle.std.specs.Prelude.{Contains}
use Rattle.std.specs.List.{slice_range}
use Rattle.std.proofs.lemmas.List.{take_at, drop_at}
use Rattle.std.proofs.lemmas.List.Elements.{Contains-append_cases}
use Rattle.std.proofs.lemmas.List.Folds.{drop_split}
use Rattle.apd_token.specs.Bytes.{class_of, mark_of}
use Rattle.apd_token.specs.Quotes.{numeral, spelling, meaning}
use Rattle.apd_token.specs.Grammar.{DigitForm, CharOf, CharForm, MarkedForm, decimal, Begins, FormOf, HasForm, QuoteForm, StopOf, quoted_kind, Stands, Piece, Divides, token_of, spaced_behind, tokens_of, IsTokenOf, HasText, ContentOf}
use Rattle.apd_token.specs.Scan.{Unquotes}
use Rattle.apd_token.specs.declared.bytes.NumberMark.{NumberMark}
use Rattle.apd_token.specs.declared.bytes.NumberMark.TheVariants as marks
use Rattle.apd_token.specs.declared.bytes.Class.{Class}
use Rattle.apd_token.specs.declared.bytes.Class.TheVariants as classes
use Rattle.apd_token.specs.declared.items.TokenKind.{TokenKind}
use Rattle.apd_token.specs.declared.items.TokenKind.TheVariants.{Name, Variable, End, Quoted, Codes, Integer, Open, Close, OpenList, CloseList, OpenCurly, CloseCurly, Comma, Bar}
use Rattle.apd_token.specs.declared.items.Token.{Token}
use Rattle.apd_causes.specs.declared.faults.TokenFault.TheVariants as faults
use Rattle.apd_token.specs.declared.found.Found.{Found}
use Rattle.apd_token.specs.declared.found.Found.TheVariants.{Passed, Item, Bad}
use Rattle.apd_token.proofs.Elements.{one_body}
use Rattle.apd_token.proofs.Quoting.{IsQuote, class_quote, stop_none, none_at_close}
use Rattle.apd_token.proofs.Slices.{slice_first}

-- a token with its bytes, what stands before and what follows
pub record Placed (at : ℕ) (text : List ℕ) (t : Token) : Type 0 where
  pub front : List ℕ
  pub bytes : List ℕ
  pub after : List ℕ
  pub spelled : text ≡ front ++ (bytes ++ after)
  pub start_is : t.start ≡ at + length front
  pub end_is : t.end ≡ t.start + length bytes
  pub form : HasForm t.start (Item t.kind) bytes after

none_in : (t : Token) → Contains [] t → ⊥
none_in t (k, lt, e) = omega arith

placed_first : (at : ℕ) (sp : Bool) (w : Found) (bytes after text : List ℕ) (t : Token) → Begins at w bytes after text → Contains (token_of at sp (record { what = w; bytes = bytes })) t → Placed at text t
placed_first at sp Passed bytes after text t b c = absurd (none_in t c)
placed_first at sp (Bad f) bytes after text t b c = absurd (none_in t c)
placed_first at sp (Item k) bytes after text t b (suc i, lt, e) = absurd (omega arith)
placed_first at sp (Item k) bytes after text t b (zero, lt, e) =
    let P : Token → Type 0 = λ x. Placed at text x in
    subst P e (record { front = []; bytes = bytes; after = after; spelled = b.spelled; start_is = (let q : at ≡ at + 0 = omega arith in q); end_is = refl; form = b.form })

placed : (at : ℕ) (sp : Bool) (ps : List Piece) (text rest : List ℕ) (t : Token) → Divides at ps text rest → Contains (tokens_of at sp ps) t → Placed at text t
placed at sp [] text rest t d c = absurd (none_in t c)
placed at sp (p ∷ ps) text rest t d c =
    elim (Contains-append_cases (token_of at sp p) (tokens_of (at + length p.bytes) (spaced_behind p) ps) t c) [
      | inl here ↦ placed_first at sp p.what p.bytes d.0 text t d.1 here
      | inr later ↦
          let r = placed (at + length p.bytes) (spaced_behind p) ps d.0 rest t d.3 later in
          record {
            front = p.bytes ++ r.front;
            bytes = r.bytes;
            after = r.after;
            spelled = d.1.spelled ∙ ap (λ l. p.bytes ++ l) r.spelled ∙ sym (append_assoc p.bytes r.front (r.bytes ++ r.after));
            start_is = r.start_is ∙ (let q : at + length p.bytes + length r.front ≡ at + length (p.bytes ++ r.front) = omega (arith, length-append p.bytes r.front) in q);
            end_is = r.end_is;
            form = r.form;
          }
    ]

-- a token's form in its text
pub record InText (text : List ℕ) (t : Token) : Type 0 where
  pub order : t.start < t.end
  pub within : t.end ≤ length text
  pub form : HasForm t.start (Item t.kind) (slice_range text t.start t.end) (drop t.end text)

some_bytes : (at : ℕ) (w : Found) (bytes after : List ℕ) → HasForm at w bytes after → 0 < length bytes
some_bytes at w [] after f = absurd f
some_bytes at w (b ∷ bs) after f = omega arith

pub in_text : (text : List ℕ) (t : Token) → IsTokenOf text t → InText text t
in_text text t (ts, has, c) =
    let c' : Contains (tokens_of (length has.front) true has.pieces) t = subst (λ (l : List Token). Contains l t) has.tokens c in
    let p = placed (length has.front) true has.pieces has.rest [] t has.divides c' in
    let front : List ℕ = has.front ++ p.front in
    let flen : length front ≡ length has.front + length p.front = length-append has.front p.front in
    let spelled : text ≡ front ++ (p.bytes ++ p.after) = has.spelled ∙ ap (λ l. has.front ++ l) p.spelled ∙ sym (append_assoc has.front p.front (p.bytes ++ p.after)) in
    let start : t.start ≡ length front = p.start_is ∙ sym flen in
    let some = some_bytes t.start (Item t.kind) p.bytes p.after p.form in
    let len : length text ≡ length front + (length p.bytes + length p.after) = ap length spelled ∙ length-append front (p.bytes ++ p.after) ∙ ap (λ n. length front + n) (length-append p.bytes p.after) in
    let ends : t.end ≡ t.start + length p.bytes = p.end_is in
    let rest : drop t.start text ≡ p.bytes ++ p.after = ap (drop t.start) spelled ∙ drop_at front (p.bytes ++ p.after) t.start (sym start) in
    let n : t.end - t.start ≡ length p.bytes = omega arith in
    let bytes : slice_range text t.start t.end ≡ p.bytes = (λ i. take (n i) (rest i)) ∙ take_at p.bytes p.after (length p.bytes) refl in
    let whole : text ≡ (front ++ p.bytes) ++ p.after = spelled ∙ sym (append_assoc front p.bytes p.after) in
    let behind : drop t.end text ≡ p.after = ap (drop t.end) whole ∙ drop_at (front ++ p.bytes) p.after t.end (let q : length (front ++ p.bytes) ≡ t.end = omega (arith, length-append front p.bytes) in q) in
    record {
      order = omega arith;
      within = omega arith;
      form = subst (λ (l : List ℕ). HasForm t.start (Item t.kind) l (drop t.end text)) (sym bytes) (subst (HasForm t.start (Item t.kind) p.bytes) (sym behind) p.form);
    }

-- only quotes begin quoted items
abbrev pub IsQuotedKind : TokenKind → Type 0
IsQuotedKind Quoted = Unit {0}
IsQuotedKind Codes = Unit {0}
IsQuotedKind k = ⊥

no_bracket : (a b c d e f g : Bool) → IsQuotedKind (if a then Open else (if b then Close else (if c then OpenList else (if d then CloseList else (if e then OpenCurly else (if f then CloseCurly else (if g then Comma else Bar))))))) → ⊥
no_bracket true b c d e f g h = h
no_bracket false true c d e f g h = h
no_bracket false false true d e f g h = h
no_bracket false false false true e f g h = h
no_bracket false false false false true f g h = h
no_bracket false false false false false true g h = h
no_bracket false false false false false false true h = h
no_bracket false false false false false false false h = h

-- an item of a quoted kind
abbrev IsQuotedItem : Found → Type 0
IsQuotedItem Passed = ⊥
IsQuotedItem (Item k) = IsQuotedKind k
IsQuotedItem (Bad f) = ⊥

no_quoted_number : (b : Bool) (at n : ℕ) → IsQuotedItem (if b then Item (Integer n) else Bad (faults.NumberTooWide at)) → ⊥
no_quoted_number true at n h = h
no_quoted_number false at n h = h

no_quoted_digit : (at : ℕ) (w : Found) (bytes : List ℕ) → DigitForm at w bytes → IsQuotedItem w → ⊥
no_quoted_digit at w bytes f h = elim f [ inl n ↦ no_quoted_number _ at (decimal bytes) (subst IsQuotedItem n.1 h) | inr d ↦ subst IsQuotedItem d.1 h ]

no_quoted_char_of : (t s : Bool) (at : ℕ) (w : Found) (c : ℕ) (a r : List ℕ) → CharOf t s at w c a r → IsQuotedItem w → ⊥
no_quoted_char_of true s at w c [] r x h = subst IsQuotedItem x.1 h
no_quoted_char_of true s at w c (d ∷ a) r x h = subst IsQuotedItem x.2 h
no_quoted_char_of false true at w c [] r x h = subst IsQuotedItem x.1 h
no_quoted_char_of false true at w c (d ∷ a) r x h = subst IsQuotedItem x.2 h
no_quoted_char_of false false at w c a r x h = subst IsQuotedItem x.2 h

no_quoted_char : (at : ℕ) (w : Found) (a r : List ℕ) → CharForm at w a r → IsQuotedItem w → ⊥
no_quoted_char at w [] r x h = subst IsQuotedItem x.1 h
no_quoted_char at w (c ∷ a) r x h = no_quoted_char_of (c == 92) (c == 39) at w c a r x h

no_quoted_marked : (m : NumberMark) (at : ℕ) (w : Found) (rest after : List ℕ) → MarkedForm m at w rest after → IsQuotedItem w → ⊥
no_quoted_marked marks.Hex at w rest after x h = no_quoted_number _ at (numeral 16 rest) (subst IsQuotedItem x.2 h)
no_quoted_marked marks.Octal at w rest after x h = no_quoted_number _ at (numeral 8 rest) (subst IsQuotedItem x.2 h)
no_quoted_marked marks.Binary at w rest after x h = no_quoted_number _ at (numeral 2 rest) (subst IsQuotedItem x.2 h)
no_quoted_marked marks.Code at w rest after x h = no_quoted_char at w rest after x h
no_quoted_marked marks.Nothing at w rest after x h = x

is_quote_class : (cls : Class) (at : ℕ) (w : Found) (b : ℕ) (bs after : List ℕ) → FormOf cls at w b bs after → IsQuotedItem w → cls ≡ classes.Quote
is_quote_class classes.Layout at w b bs after f h = absurd (subst IsQuotedItem f.0 h)
is_quote_class classes.Percent at w b bs after f h = absurd (subst IsQuotedItem f.0 h)
is_quote_class classes.Small at w b bs after f h = absurd (subst IsQuotedItem f.0 h)
is_quote_class classes.Capital at w b bs after f h = absurd (subst IsQuotedItem f.0 h)
is_quote_class classes.Solo at w b bs after f h = absurd (subst IsQuotedItem f.0 h)
is_quote_class classes.Bracket at w b bs after f h = absurd (no_bracket _ _ _ _ _ _ _ (subst IsQuotedItem f.0 h))
is_quote_class classes.Graphic at Passed b bs after f h = absurd h
is_quote_class classes.Graphic at (Item k) b bs after f h = absurd (elim f [ inl n ↦ subst IsQuotedKind n.0 h | inr e ↦ subst IsQuotedKind e.0 h ])
is_quote_class classes.Graphic at (Bad g) b bs after f h = absurd h
is_quote_class classes.Digit at w b bs after f h = absurd (elim f [ inl d ↦ no_quoted_digit at w (b ∷ bs) d h | inr m ↦ no_quoted_marked (mark_of m.mark) at w m.rest after m.form h ])
is_quote_class classes.Quote at w b bs after f h = refl
is_quote_class classes.Other at w b bs after f h = absurd (subst IsQuotedItem f.0 h)

-- a quoted item with its quote
pub record QuotedItem (at : ℕ) (k : TokenKind) (bytes after : List ℕ) : Type 0 where
  pub quote : ℕ
  pub rest : List ℕ
  pub spelled : bytes ≡ quote ∷ rest
  pub is_quote : IsQuote quote
  pub form : QuoteForm at (Item k) quote rest after

quoted_item : (at : ℕ) (k : TokenKind) (bytes after : List ℕ) → HasForm at (Item k) bytes after → IsQuotedKind k → QuotedItem at k bytes after
quoted_item at k [] after f h = absurd f
quoted_item at k (b ∷ bs) after f h =
    let e : class_of b ≡ classes.Quote = is_quote_class (class_of b) at (Item k) b bs after f h in
    record { quote = b; rest = bs; spelled = refl; is_quote = class_quote b e; form = subst (λ (c : Class). FormOf c at (Item k) b bs after) e f }

-- an item stops at its closing quote
pub closes : (at place : ℕ) (k : TokenKind) (q : ℕ) (stop after : List ℕ) → StopOf at place (Item k) q stop after → (stop ≡ q ∷ []) × (k ≡ quoted_kind q)
closes at place k q [] after s = let h = s.1 in absurd cc
closes at place k q (c ∷ more) after s = elim s.1 [
  | inl close ↦ ((λ i. close.0 i ∷ s.0 i), (let h = close.2 in cc))
  | inr bad ↦ let h = bad.2 in absurd cc
]

pub unquotes_stands : (text : List ℕ) (t : Token) (value : List ℕ) → InText text t → IsQuotedKind t.kind → Unquotes text t.start value
    → (get_or text t.start 0 ≡ get_or text t.start 0) × (t.kind ≡ quoted_kind (get_or text t.start 0)) × IsQuote (get_or text t.start 0) × Stands (get_or text t.start 0) (slice_range text t.start t.end) value
unquotes_stands text t value is kind (i, body, none) =
    let start = t.start in
    let q = get_or text start 0 in
    let item = quoted_item start t.kind (slice_range text start t.end) (drop t.end text) is.form kind in
    let lt = is.order in
    let first : slice_range text start t.end ≡ q ∷ slice_range text (start + 1) t.end = slice_first text start t.end is.order is.within in
    let head : item.quote ≡ q = let h = item.spelled in cc in
    let tail : item.rest ≡ slice_range text (start + 1) t.end = let h = item.spelled in cc in
    let quote' : IsQuote q = subst IsQuote head item.is_quote in
    let form : QuoteForm start (Item t.kind) q (slice_range text (start + 1) t.end) (drop t.end text) = subst (λ (l : List ℕ). QuoteForm start (Item t.kind) q l (drop t.end text)) tail (subst (λ (n : ℕ). QuoteForm start (Item t.kind) n item.rest (drop t.end text)) head item.form) in
    let place = start + 1 + length (spelling form.elements) in
    let shut = closes start place t.kind q form.stop (drop t.end text) form.stops in
    let left : drop (start + 1) text ≡ spelling body.elements ++ drop i text = drop_split text (start + 1) i body.beyond ∙ ap (λ l. l ++ drop i text) body.spelled in
    let right : drop (start + 1) text ≡ spelling form.elements ++ (form.stop ++ drop t.end text) = drop_split text (start + 1) t.end (omega arith) ∙ ap (λ l. l ++ drop t.end text) form.spelled ∙ append_assoc (spelling form.elements) form.stop (drop t.end text) in
    let one = one_body q body.elements form.elements (drop i text) (form.stop ++ drop t.end text) body.each form.each none (stop_none start place (Item t.kind) q form.stop (drop t.end text) quote' form.stops) (sym left ∙ right) in (
      refl,
      shut.1,
      quote',
      record {
        elements = form.elements;
        each = form.each;
        spelled = first ∙ ap (λ l. q ∷ l) (form.spelled ∙ ap (λ l. spelling form.elements ++ l) shut.0);
        means = body.means ∙ ap meaning one.0;
      },
    )

quote_of_quoted : (q : ℕ) → IsQuote q → Quoted ≡ quoted_kind q → q ≡ 39
quote_of_quoted q (inl a) e = a
quote_of_quoted q (inr a) e = let e' : Quoted ≡ quoted_kind 34 = e ∙ ap quoted_kind a in absurd cc

quote_of_codes : (q : ℕ) → IsQuote q → Codes ≡ quoted_kind q → q ≡ 34
quote_of_codes q (inr a) e = a
quote_of_codes q (inl a) e = let e' : Codes ≡ quoted_kind 39 = e ∙ ap quoted_kind a in absurd cc

pub quoted_content : (text : List ℕ) (t : Token) (value : List ℕ) → IsTokenOf text t → t.kind ≡ Quoted → Unquotes text t.start value → Stands 39 (slice_range text t.start t.end) value
quoted_content text t value is kind u =
    let r = unquotes_stands text t value (in_text text t is) (subst IsQuotedKind (sym kind) tt) u in
    subst (λ (n : ℕ). Stands n (slice_range text t.start t.end) value) (quote_of_quoted (get_or text t.start 0) r.2 (sym kind ∙ r.1)) r.3

pub codes_content : (text : List ℕ) (t : Token) (value : List ℕ) → IsTokenOf text t → t.kind ≡ Codes → Unquotes text t.start value → Stands 34 (slice_range text t.start t.end) value
codes_content text t value is kind u =
    let r = unquotes_stands text t value (in_text text t is) (subst IsQuotedKind (sym kind) tt) u in
    subst (λ (n : ℕ). Stands n (slice_range text t.start t.end) value) (quote_of_codes (get_or text t.start 0) r.2 (sym kind ∙ r.1)) r.3

-- a quoted item stands for one text
one_stands : (q : ℕ) (bytes u v : List ℕ) → IsQuote q → Stands q bytes u → Stands q bytes v → u ≡ v
one_stands q bytes u v is x y =
    let same : spelling x.elements ++ q ∷ [] ≡ spelling y.elements ++ q ∷ [] = let h = x.spelled in let k = y.spelled in cc in
    let none = none_at_close q [] is tt in
    x.means ∙ ap meaning (one_body q x.elements y.elements (q ∷ []) (q ∷ []) x.each y.each none none same).0 ∙ sym y.means

pub one_content : (k : TokenKind) (bytes u v : List ℕ) → HasText k → ContentOf k bytes u → ContentOf k bytes v → u ≡ v
one_content Name bytes u v h x y = x ∙ sym y
one_content Variable bytes u v h x y = x ∙ sym y
one_content Quoted bytes u v h x y = one_stands 39 bytes u v (inl refl) x y
one_content Codes bytes u v h x y = one_stands 34 bytes u v (inr refl) x y
one_content (Integer n) bytes u v h x y = absurd h
one_content Open bytes u v h x y = absurd h
one_content Close bytes u v h x y = absurd h
one_content OpenList bytes u v h x y = absurd h
one_content CloseList bytes u v h x y = absurd h
one_content OpenCurly bytes u v h x y = absurd h
one_content CloseCurly bytes u v h x y = absurd h
one_content Comma bytes u v h x y = absurd h
one_content Bar bytes u v h x y = absurd h
one_content End bytes u v h x y = absurd h

-- a quoted item of a text stands for the meaning of its elements
quoted_stands : (text : List ℕ) (t : Token) → InText text t → IsQuotedKind t.kind → (q : ℕ) × IsQuote q × (t.kind ≡ quoted_kind q) × ((v : List ℕ) × Stands q (slice_range text t.start t.end) v)
quoted_stands text t is kind =
    let item = quoted_item t.start t.kind (slice_range text t.start t.end) (drop t.end text) is.form kind in
    let form = item.form in
    let shut = closes t.start (t.start + 1 + length (spelling form.elements)) t.kind item.quote form.stop (drop t.end text) form.stops in (
      item.quote,
      item.is_quote,
      shut.1,
      (
        meaning form.elements,
        record {
          elements = form.elements;
          each = form.each;
          spelled = item.spelled ∙ ap (λ l. item.quote ∷ l) (form.spelled ∙ ap (λ l. spelling form.elements ++ l) shut.0);
          means = refl;
        },
      ),
    )

-- a token of a kind that stands for characters stands for some
pub token_content : (text : List ℕ) (t : Token) → IsTokenOf text t → HasText t.kind → (v : List ℕ) × ContentOf t.kind (slice_range text t.start t.end) v
token_content text t is has = by t.kind refl has
  where
    by : (k : TokenKind) → t.kind ≡ k → HasText k → (v : List ℕ) × ContentOf k (slice_range text t.start t.end) v
    by Name e h = (slice_range text t.start t.end, refl)
    by Variable e h = (slice_range text t.start t.end, refl)
    by Quoted e h =
        let s = quoted_stands text t (in_text text t is) (subst IsQuotedKind (sym e) tt) in
        (s.3.0, subst (λ (n : ℕ). Stands n (slice_range text t.start t.end) s.3.0) (quote_of_quoted s.0 s.1 (sym e ∙ s.2)) s.3.1)
    by Codes e h =
        let s = quoted_stands text t (in_text text t is) (subst IsQuotedKind (sym e) tt) in
        (s.3.0, subst (λ (n : ℕ). Stands n (slice_range text t.start t.end) s.3.0) (quote_of_codes s.0 s.1 (sym e ∙ s.2)) s.3.1)
    by (Integer n) e h = absurd h
    by Open e h = absurd h
    by Close e h = absurd h
    by OpenList e h = absurd h
    by CloseList e h = absurd h
    by OpenCurly e h = absurd h
    by CloseCurly e h = absurd h
    by Comma e h = absurd h
    by Bar e h = absurd h
    by End e h = absurd h
