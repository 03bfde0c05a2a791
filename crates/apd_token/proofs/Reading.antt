-- How far the scanner has come.
use Rattle.std.proofs.Common.{◌≡◌, ℕ, ◌+◌, ◌-◌, ◌≤◌, List, [], ◌∷◌, ◌++◌, length, get_or, take, drop, take-append-drop, length-take-le, ◌==◌, refl, sym, ◌∙◌, ap, subst, Bool, true, false, arith, append_assoc}
use Rattle.std.specs.List.{slice_range}
use Rattle.std.proofs.lemmas.List.{append-nil, drop_all}
use Rattle.std.specs.Prelude.{IsUtf8, if◌then◌else◌}
use Rattle.std.proofs.Common.{inl, inr}
use Rattle.apd_token.specs.Bytes.{class_of, mark_of}
use Rattle.apd_token.specs.declared.bytes.Class.{Class}
use Rattle.apd_token.specs.declared.bytes.Class.TheVariants as classes
use Rattle.apd_token.specs.declared.items.TokenKind.TheVariants.{Integer}
use Rattle.apd_causes.specs.declared.faults.TokenFault.TheVariants as faults
use Rattle.apd_token.specs.Grammar.{BeginsScript, EndsLine, IsLead, DigitForm, FormOf, HasForm, decimal, IsFaultOf, Begins, Piece, IsSound, Divides, place_after, token_of, spaced_behind, tokens_of, HasTokens, HasFault}
use borrow.Author.Tests.{eqb-true}
use Rattle.apd_token.specs.Quotes.{AllIn}
use Rattle.apd_token.specs.declared.bytes.Set.TheVariants as sets
use Rattle.apd_token.specs.Scan.{Scans, StopsRun, HasLead}
use Rattle.apd_token.specs.declared.items.TokenKind.{TokenKind}
use Rattle.apd_token.specs.declared.items.Token.{Token}
use Rattle.apd_causes.specs.declared.faults.TokenFault.{TokenFault}
use Rattle.apd_token.specs.declared.found.Found.{Found}
use Rattle.apd_token.specs.declared.found.Found.TheVariants.{Passed, Item, Bad}
use Rattle.apd_token.proofs.Marks.{no_utf8_marked}
use Rattle.apd_token.proofs.Quoting.{no_utf8_stop}
use Rattle.apd_token.proofs.Slices.{length-slice, slice_first}

divides_push : (at : ℕ) (ps : List Piece) (p : Piece) (text rest after : List ℕ) → Divides at ps text rest → Begins (place_after at ps) p.what p.bytes after rest → IsSound p.what → Divides at (ps ++ p ∷ []) text after
divides_push at [] p text rest after d b sound = (after, subst (Begins at p.what p.bytes after) (sym d) b, sound, refl)
divides_push at (q ∷ ps) p text rest after d b sound = (d.0, d.1, d.2, divides_push (at + length q.bytes) ps p d.0 rest after d.3 b sound)

place_push : (at : ℕ) (ps : List Piece) (p : Piece) → place_after at (ps ++ p ∷ []) ≡ place_after at ps + length p.bytes
place_push at [] p = refl
place_push at (q ∷ ps) p = place_push (at + length q.bytes) ps p

-- whether a token after the pieces is spaced
abbrev pub spaced_after : Bool → List Piece → Bool
spaced_after spaced [] = spaced
spaced_after spaced (p ∷ ps) = spaced_after (spaced_behind p) ps

spaced_push : (spaced : Bool) (ps : List Piece) (p : Piece) → spaced_after spaced (ps ++ p ∷ []) ≡ spaced_behind p
spaced_push spaced [] p = refl
spaced_push spaced (q ∷ ps) p = spaced_push (spaced_behind q) ps p

tokens_push : (at : ℕ) (spaced : Bool) (ps : List Piece) (p : Piece) → tokens_of at spaced (ps ++ p ∷ []) ≡ tokens_of at spaced ps ++ token_of (place_after at ps) (spaced_after spaced ps) p
tokens_push at spaced [] p = append-nil (token_of at spaced p)
tokens_push at spaced (q ∷ ps) p =
    ap (λ ts. token_of at spaced q ++ ts) (tokens_push (at + length q.bytes) (spaced_behind q) ps p)
    ∙ sym (append_assoc (token_of at spaced q) (tokens_of (at + length q.bytes) (spaced_behind q) ps) (token_of (place_after (at + length q.bytes) ps) (spaced_after (spaced_behind q) ps) p))

-- ts are the tokens of the text's pieces up to a place
pub record ReadTo (text : List ℕ) (ts : List Token) (place : ℕ) (spaced : Bool) : Type 0 where
  pub front : List ℕ
  pub rest : List ℕ
  pub spelled : text ≡ front ++ rest
  pub lead : IsLead front rest
  pub pieces : List Piece
  pub divides : Divides (length front) pieces rest (drop place text)
  pub place_is : place_after (length front) pieces ≡ place
  pub tokens_are : ts ≡ tokens_of (length front) true pieces
  pub spaced_is : spaced ≡ spaced_after true pieces
  pub within : place ≤ length text

pub start : (text : List ℕ) (upto : ℕ) → HasLead text upto → ReadTo text [] upto true
start text upto h = record { front = take upto text; rest = drop upto text; spelled = sym (take-append-drop upto text); lead = h.lead; pieces = []; divides = refl; place_is = length-take-le upto text h.within; tokens_are = refl; spaced_is = refl; within = h.within }

-- one more piece
more : (text : List ℕ) (ts : List Token) (i j : ℕ) (spaced : Bool) (w : Found) → ReadTo text ts i spaced → Scans text i w j → IsSound w
    → ReadTo text (ts ++ token_of i spaced (record { what = w; bytes = slice_range text i j })) j (spaced_behind (record { what = w; bytes = slice_range text i j }))
more text ts i j spaced w r s sound =
    let p : Piece = record { what = w; bytes = slice_range text i j } in
    let le : i ≤ j = omega (arith, s.beyond) in
    let len : length (slice_range text i j) ≡ j - i = length-slice text i j le s.within in
    record {
      front = r.front;
      rest = r.rest;
      spelled = r.spelled;
      lead = r.lead;
      pieces = r.pieces ++ p ∷ [];
      divides = divides_push (length r.front) r.pieces p r.rest (drop i text) (drop j text) r.divides (subst (λ (n : ℕ). Begins n w (slice_range text i j) (drop j text) (drop i text)) (sym r.place_is) s.begins) sound;
      place_is = place_push (length r.front) r.pieces p ∙ (let q : place_after (length r.front) r.pieces + length (slice_range text i j) ≡ j = omega (arith, r.place_is) in q);
      tokens_are = (λ k. r.tokens_are k ++ token_of (sym r.place_is k) (r.spaced_is k) p) ∙ sym (tokens_push (length r.front) true r.pieces p);
      spaced_is = sym (spaced_push true r.pieces p);
      within = s.within;
    }

pub passed : (text : List ℕ) (ts : List Token) (i j : ℕ) (spaced : Bool) → ReadTo text ts i spaced → Scans text i Passed j → ReadTo text ts j true
passed text ts i j spaced r s = subst (λ (l : List Token). ReadTo text l j true) (append-nil ts) (more text ts i j spaced Passed r s tt)

pub item : (text : List ℕ) (ts : List Token) (i j : ℕ) (spaced : Bool) (k : TokenKind) → ReadTo text ts i spaced → Scans text i (Item k) j
    → ReadTo text (ts ++ record { kind = k; start = i; «end» = j; spaced = spaced } ∷ []) j false
item text ts i j spaced k r s =
    let le : i ≤ j = omega (arith, s.beyond) in
    let len : length (slice_range text i j) ≡ j - i = length-slice text i j le s.within in
    let upto : i + length (slice_range text i j) ≡ j = omega arith in
    subst (λ (n : ℕ). ReadTo text (ts ++ record { kind = k; start = i; «end» = n; spaced = spaced } ∷ []) j false) upto (more text ts i j spaced (Item k) r s tt)

pub finish : (text : List ℕ) (ts : List Token) (i : ℕ) (spaced : Bool) → ReadTo text ts i spaced → length text ≤ i → HasTokens text ts
finish text ts i spaced r le = record {
  front = r.front;
  rest = r.rest;
  pieces = r.pieces;
  spelled = r.spelled;
  lead = r.lead;
  divides = subst (Divides (length r.front) r.pieces r.rest) (drop_all i text le) r.divides;
  tokens = r.tokens_are;
}

pub fault : (text : List ℕ) (ts : List Token) (i j : ℕ) (spaced : Bool) (f : TokenFault) → ReadTo text ts i spaced → Scans text i (Bad f) j → HasFault text f
fault text ts i j spaced f r s = record {
  front = r.front;
  rest = r.rest;
  pieces = r.pieces;
  spelled = r.spelled;
  lead = r.lead;
  left = drop i text;
  divides = r.divides;
  bytes = slice_range text i j;
  after = drop j text;
  begins = subst (λ (n : ℕ). Begins n (Bad f) (slice_range text i j) (drop j text) (drop i text)) (sym r.place_is) s.begins;
}

-- the lead, by what the scanner saw
pub no_script : (text : List ℕ) → (BeginsScript text → ⊥) → HasLead text 0
no_script text none = record { within = omega arith; lead = record { which = inl (refl, none) } }

line_end : (t : Bool) → (if t then false else true) ≡ false → t ≡ true
line_end true e = refl
line_end false e = cc

ends_line : (rest : List ℕ) → StopsRun sets.Line rest → EndsLine rest
ends_line [] e = tt
ends_line (b ∷ rest) e = eqb-true b 10 (line_end (b == 10) e)

pub script : (text : List ℕ) (upto : ℕ) → 2 ≤ upto → upto ≤ length text → get_or text 0 0 ≡ 35 → get_or text 1 0 ≡ 33 → AllIn sets.Line (slice_range text 2 upto) → StopsRun sets.Line (drop upto text) → HasLead text upto
script text upto le within hash bang all stops =
    let n : upto ≡ upto - 0 = omega arith in
    let first : take upto text ≡ 35 ∷ 33 ∷ slice_range text 2 upto = ap (λ k. take k text) n ∙ slice_first text 0 upto (omega arith) within ∙ (λ i. hash i ∷ slice_first text 1 upto (omega arith) within i) ∙ (λ i. 35 ∷ bang i ∷ slice_range text 2 upto) in
    record { within = within; lead = record { which = inr (slice_range text 2 upto, first, all, ends_line (drop upto text) stops) } }

-- no piece is a fault of the bytes' encoding
no_utf8_number : (b : Bool) (at n place : ℕ) → Bad (faults.NotUtf8 place) ≡ (if b then Item (Integer n) else Bad (faults.NumberTooWide at)) → ⊥
no_utf8_number true at n place h = cc
no_utf8_number false at n place h = cc

no_utf8_digit : (at place : ℕ) (bytes : List ℕ) → DigitForm at (Bad (faults.NotUtf8 place)) bytes → ⊥
no_utf8_digit at place bytes f = elim f [ inl n ↦ no_utf8_number _ at (decimal bytes) place n.1 | inr d ↦ let h = d.1 in cc ]

no_utf8_form : (cls : Class) (at place b : ℕ) (bs after : List ℕ) → FormOf cls at (Bad (faults.NotUtf8 place)) b bs after → ⊥
no_utf8_form classes.Layout at place b bs after f = let h = f.0 in cc
no_utf8_form classes.Percent at place b bs after f = let h = f.0 in cc
no_utf8_form classes.Small at place b bs after f = let h = f.0 in cc
no_utf8_form classes.Capital at place b bs after f = let h = f.0 in cc
no_utf8_form classes.Solo at place b bs after f = let h = f.0 in cc
no_utf8_form classes.Bracket at place b bs after f = let h = f.0 in cc
no_utf8_form classes.Graphic at place b bs after f = let h = f.0 in cc
no_utf8_form classes.Digit at place b bs after f = elim f [ inl d ↦ no_utf8_digit at place (b ∷ bs) d | inr m ↦ no_utf8_marked (mark_of m.mark) at place m.rest after m.form ]
no_utf8_form classes.Quote at place b bs after f = no_utf8_stop at _ place b f.stop after f.stops
no_utf8_form classes.Other at place b bs after f = let h = f.0 in cc

no_utf8_has : (at place : ℕ) (bytes after : List ℕ) → HasForm at (Bad (faults.NotUtf8 place)) bytes after → ⊥
no_utf8_has at place [] after f = f
no_utf8_has at place (b ∷ bs) after f = no_utf8_form (class_of b) at place b bs after f

pub is_fault : (text : List ℕ) (f : TokenFault) → IsUtf8 text → HasFault text f → IsFaultOf text f
is_fault text faults.Memory utf8 h = tt
is_fault text (faults.NotUtf8 place) utf8 h = absurd (no_utf8_has (place_after (length h.front) h.pieces) place h.bytes h.after h.begins.form)
is_fault text (faults.BadChar place) utf8 h = (utf8, h)
is_fault text (faults.OpenQuote place) utf8 h = (utf8, h)
is_fault text (faults.OpenComment place) utf8 h = (utf8, h)
is_fault text (faults.BadEscape place) utf8 h = (utf8, h)
is_fault text (faults.NumberTooWide place) utf8 h = (utf8, h)
is_fault text (faults.FloatLiteral place) utf8 h = (utf8, h)
