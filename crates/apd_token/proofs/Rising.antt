-- Before each token stand at least as many bytes as tokens.
use Rattle.std.proofs.Common.{◌≡◌, ℕ, ◌+◌, ◌≤◌, Bool, true, List, [], ◌∷◌, ◌++◌, length, zero, suc, Some, ap, sym, subst, arith}
use Rattle.std.specs.List.{slice_get}
use Rattle.apd_token.specs.declared.items.Token.{Token}
use Rattle.apd_token.specs.declared.found.Found.{Found}
use Rattle.apd_token.specs.declared.found.Found.TheVariants.{Passed, Item, Bad}
use Rattle.apd_token.specs.Grammar.{Piece, Divides, token_of, tokens_of, spaced_behind, HasTokens}
use Rattle.apd_token.proofs.Counting.{some_byte}

-- the tokens begin at this place or behind it, each behind the one before
abbrev Rise : ℕ → List Token → Type 0
Rise at [] = Unit {0}
Rise at (t ∷ ts) = (at ≤ t.start) × Rise (t.start + 1) ts

earlier : (m n : ℕ) (ts : List Token) → m ≤ n → Rise n ts → Rise m ts
earlier m n [] le r = tt
earlier m n (t ∷ ts) le r = let first = r.0 in (omega arith, r.1)

tokens_rise : (at : ℕ) (spaced : Bool) (ps : List Piece) (text rest : List ℕ) → Divides at ps text rest → Rise at (tokens_of at spaced ps)
tokens_rise at spaced [] text rest d = tt
tokens_rise at spaced (p ∷ ps) text rest d =
    let one = some_byte at p.what p.bytes d.0 d.1.form in
    let next = tokens_rise (at + length p.bytes) (spaced_behind p) ps d.0 rest d.3 in
    by p.what (tokens_of (at + length p.bytes) (spaced_behind p) ps) (earlier (at + 1) (at + length p.bytes) _ (omega arith) next)
  where
    by : (w : Found) (ts : List Token) → Rise (at + 1) ts → Rise at (token_of at spaced (record { what = w; bytes = p.bytes }) ++ ts)
    by Passed ts r = earlier at (at + 1) ts (omega arith) r
    by (Item k) ts r = (omega arith, r)
    by (Bad e) ts r = earlier at (at + 1) ts (omega arith) r

risen : (at : ℕ) (ts : List Token) (k : ℕ) (t : Token) → Rise at ts → slice_get ts k ≡ Some t → at + k ≤ t.start
risen at [] k t r e = cc
risen at (u ∷ ts) zero t r e = let first = r.0 in let same : u ≡ t = cc in let start : u.start ≡ t.start = ap (λ (x : Token). x.start) same in omega arith
risen at (u ∷ ts) (suc k) t r e = let first = r.0 in let rest = risen (u.start + 1) ts k t r.1 e in omega arith

pub tokens_before : (text : List ℕ) (ts : List Token) (k : ℕ) (t : Token) → HasTokens text ts → slice_get ts k ≡ Some t → k ≤ t.start
tokens_before text ts k t h e =
    let there = risen (length h.front) ts k t (subst (Rise (length h.front)) (sym h.tokens) (tokens_rise (length h.front) true h.pieces h.rest [] h.divides)) e in
    omega arith
