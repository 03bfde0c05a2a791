-- A term that was read has at most twice as many symbols as its text has bytes.
use Rattle.std.proofs.Common.{◌≡◌, ℕ, ◌+◌, ◌-◌, ◌*◌, ◌<◌, ◌≤◌, List, [], ◌∷◌, ◌++◌, length, drop, zero, suc, Bool, true, false, refl, ap, arith, length-append}
use Rattle.std.specs.Prelude.{if◌then◌else◌}
use Rattle.std.specs.List.{slice_range}
use Rattle.std.specs.Str.{chars, chars_after, continuation_len, lead_bits}
use Rattle.apd_term.specs.Term.{size}
use Rattle.apd_ops.specs.Table.{Table}
use Rattle.apd_token.specs.declared.items.TokenKind.{TokenKind}
use Rattle.apd_token.specs.declared.items.TokenKind.TheVariants as kinds
use Rattle.apd_token.specs.declared.items.Token.{Token}
use Rattle.apd_token.specs.Grammar.{HasTokens}
use Rattle.apd_token.proofs.Slices.{length-slice}
use Rattle.apd_token.proofs.Spans.{spans, AreWithin, tokens_within, codes_few}
use Rattle.apd_read.specs.declared.lexeme.Sort.{Sort}
use Rattle.apd_read.specs.declared.lexeme.Lexeme.{Lexeme}
use Rattle.apd_read.specs.declared.phrase.Phrase.{Phrase}
use Rattle.apd_read.specs.declared.places.Inside.TheVariants.{Clause}
use Rattle.apd_read.specs.Reading.{Splits}
use Rattle.apd_read.specs.Clause.{Fills, filled}
use Rattle.apd_read.specs.Lexemes.{IsSort, AreLexemes, no_lexeme, then_lexeme, ends_clause, to_end}
use Rattle.apd_read.specs.Answer.{HasLexemes}
use Rattle.apd_read.proofs.Size.{weight_of, upto, symbols, fills_size}
use Rattle.apd_read.proofs.Placed.{fills_within}

abbrev weight : List Lexeme → ℕ
weight [] = 0
weight (l ∷ ls) = weight_of l.sort + weight ls

weight_push : (ls : List Lexeme) (l : Lexeme) → weight (ls ++ l ∷ []) ≡ weight ls + weight_of l.sort
weight_push [] l = omega arith
weight_push (m ∷ ls) l = let h = weight_push ls l in omega arith

upto_all : (ls : List Lexeme) (n : ℕ) → upto ls n ≤ weight ls
upto_all [] n = omega arith
upto_all (l ∷ ls) zero = omega arith
upto_all (l ∷ ls) (suc n) = let h = upto_all ls n in omega arith

-- a text has at most as many characters as bytes
chars_after_few : (n c : ℕ) (bs : List ℕ) → length (chars_after n c bs) ≤ length bs + 1
chars_after_few zero c [] = omega arith
chars_after_few zero c (b ∷ bs) = let h = chars_after_few (continuation_len b) (lead_bits b) bs in omega arith
chars_after_few (suc n) c [] = omega arith
chars_after_few (suc n) c (b ∷ bs) = let h = chars_after_few n (c * 64 + (b - 128)) bs in omega arith

chars_few : (bs : List ℕ) → length (chars bs) ≤ length bs
unfolding chars
chars_few [] = omega arith
chars_few (b ∷ bs) = let h = chars_after_few (continuation_len b) (lead_bits b) bs in omega arith

light : (s t : Sort) (n : ℕ) → s ≡ t → weight_of t ≡ 1 → 1 ≤ n → weight_of s + 1 ≤ 2 * n
light s t n e w le = let h : weight_of s ≡ weight_of t = ap weight_of e in omega arith

sort_weight : (k : TokenKind) (names : List (List ℕ)) (bytes : List ℕ) (vars : List (List ℕ)) (s : Sort) (after : List (List ℕ)) → IsSort k names bytes vars s after → 1 ≤ length bytes → weight_of s + 1 ≤ 2 * length bytes
sort_weight kinds.Name names bytes vars s after h le = light s _ (length bytes) h.4 refl le
sort_weight kinds.Quoted names bytes vars s after h le = light s _ (length bytes) h.4 refl le
sort_weight kinds.Codes names bytes vars s after h le =
    let w = ap weight_of h.2 in
    let c = chars_few h.0 in
    let f = codes_few bytes h.0 h.1 in
    omega arith
sort_weight kinds.Variable names bytes vars s after h le = light s _ (length bytes) h.2 refl le
sort_weight (kinds.Integer i) names bytes vars s after h le = light s _ (length bytes) h.0 refl le
sort_weight kinds.Open names bytes vars s after h le = light s _ (length bytes) h.0 refl le
sort_weight kinds.Close names bytes vars s after h le = light s _ (length bytes) h.0 refl le
sort_weight kinds.OpenList names bytes vars s after h le = light s _ (length bytes) h.0 refl le
sort_weight kinds.CloseList names bytes vars s after h le = light s _ (length bytes) h.0 refl le
sort_weight kinds.OpenCurly names bytes vars s after h le = light s _ (length bytes) h.0 refl le
sort_weight kinds.CloseCurly names bytes vars s after h le = light s _ (length bytes) h.0 refl le
sort_weight kinds.Comma names bytes vars s after h le = light s _ (length bytes) h.0 refl le
sort_weight kinds.Bar names bytes vars s after h le = light s _ (length bytes) h.0 refl le
sort_weight kinds.End names bytes vars s after h le = light s _ (length bytes) h.0 refl le

spans_push : (ts : List Token) (t : Token) → spans (ts ++ t ∷ []) ≡ spans ts + (t.end - t.start)
spans_push [] t = omega arith
spans_push (u ∷ ts) t = let h = spans_push ts t in omega arith

within_push : (n : ℕ) (ts : List Token) (t : Token) → AreWithin n (ts ++ t ∷ []) → AreWithin n ts × (t.start < t.end) × (t.end ≤ n)
within_push n [] t h = (tt, h.0, h.1)
within_push n (u ∷ ts) t h = let k = within_push n ts t h.2 in ((h.0, h.1, k.0), k.1, k.2)

lexemes_weight : {names : List (List ℕ)} {text : List ℕ} {ts : List Token} {ls : List Lexeme} {vars : List (List ℕ)} → AreLexemes names text ts ls vars → AreWithin (length text) ts → weight ls + length ls ≤ 2 * spans ts
lexemes_weight no_lexeme w = omega arith
lexemes_weight {names} {text} (then_lexeme {ts} {ls} {vars} t l after a is) w =
    let k = within_push (length text) ts t w in
    let h = lexemes_weight a k.0 in
    let lt = k.1 in
    let le = k.2 in
    let size : length (slice_range text t.start t.end) ≡ t.end - t.start = length-slice text t.start t.end (omega arith) le in
    let one = sort_weight t.kind names (slice_range text t.start t.end) vars l.sort after is.0 (omega arith) in
    let wp = weight_push ls l in
    let sp = spans_push ts t in
    let n = length-append ls (l ∷ []) in
    omega arith

spans_drop : (n : ℕ) (ts : List Token) → spans (drop n ts) ≤ spans ts
spans_drop zero ts = omega arith
spans_drop (suc n) [] = omega arith
spans_drop (suc n) (t ∷ ts) = let h = spans_drop n ts in omega arith

within_drop : (m n : ℕ) (ts : List Token) → AreWithin m ts → AreWithin m (drop n ts)
within_drop m zero ts h = h
within_drop m (suc n) [] h = h
within_drop m (suc n) (t ∷ ts) h = within_drop m n ts h.2

spans_to_end : (ts : List Token) → spans (to_end ts) ≤ spans ts
spans_to_end [] = omega arith
spans_to_end (t ∷ ts) = by (ends_clause t.kind) (spans_to_end ts)
  where
    by : (b : Bool) → spans (to_end ts) ≤ spans ts → spans (t ∷ (if b then [] else to_end ts)) ≤ spans (t ∷ ts)
    by true h = omega arith
    by false h = omega arith

within_to_end : (m : ℕ) (ts : List Token) → AreWithin m ts → AreWithin m (to_end ts)
within_to_end m [] h = h
within_to_end m (t ∷ ts) h = (h.0, h.1, by (ends_clause t.kind) (within_to_end m ts h.2))
  where
    by : (b : Bool) → AreWithin m (to_end ts) → AreWithin m (if b then [] else to_end ts)
    by true h = tt
    by false h = h

pub filled_some : {ops : Table} {ls : List Lexeme} {n : ℕ} {p : Phrase} → Fills Splits ops ls Clause 0 p n → 1 ≤ n
filled_some (filled t e s g r) = omega arith

pub term_few : (ops : Table) (names : List (List ℕ)) (text : List ℕ) (tokens : List Token) (at : ℕ) (c : HasLexemes names text tokens at) (p : Phrase) (n : ℕ) → HasTokens text tokens → Fills Splits ops c.lexemes Clause 0 p n → size p.term ≤ 2 * length text
term_few ops names text tokens at c p n tok fills =
    let all = tokens_within text tokens tok in
    let inside : AreWithin (length text) (to_end (drop at tokens)) = within_to_end (length text) (drop at tokens) (within_drop (length text) at tokens all.1) in
    let w = lexemes_weight c.are inside in
    let e = spans_to_end (drop at tokens) in
    let d = spans_drop at tokens in
    let few = all.0 in
    let f : symbols p + upto c.lexemes 0 ≤ upto c.lexemes n + 1 = fills_size fills in
    let u = upto_all c.lexemes n in
    let within : n ≤ length c.lexemes = fills_within fills in
    let some = filled_some fills in
    omega arith
