-- A text has at most as many tokens as bytes.
use Rattle.std.proofs.Common.{◌≡◌, ℕ, ◌+◌, ◌-◌, ◌<◌, ◌≤◌, List, [], ◌∷◌, ◌++◌, length, get_or, zero, suc, Bool, true, sym, ◌∙◌, ap, subst, arith, length-append}
use Rattle.apd_token.specs.declared.items.Token.{Token}
use Rattle.apd_token.specs.declared.found.Found.{Found}
use Rattle.apd_token.specs.declared.found.Found.TheVariants.{Passed, Item, Bad}
use Rattle.apd_token.specs.Grammar.{HasForm, Piece, Divides, token_of, tokens_of, spaced_behind, HasTokens}

-- a piece has a byte
pub some_byte : (at : ℕ) (w : Found) (bytes after : List ℕ) → HasForm at w bytes after → 1 ≤ length bytes
some_byte at w [] after f = absurd f
some_byte at w (b ∷ bs) after f = omega arith

-- The tokens from each one on, and what stands before it, are no more than the bytes.
abbrev pub Fits : ℕ → List Token → Type 0
Fits total [] = Unit {0}
Fits total (t ∷ ts) = (length ts + 1 + t.start ≤ total) × Fits total ts

few_tokens : (at : ℕ) (spaced : Bool) (ps : List Piece) (text rest : List ℕ) → Divides at ps text rest → (length (tokens_of at spaced ps) ≤ length text) × Fits (at + length text) (tokens_of at spaced ps)
few_tokens at spaced [] text rest d = (omega arith, tt)
few_tokens at spaced (p ∷ ps) text rest d =
    let begins = d.1 in
    let one = some_byte at p.what p.bytes d.0 begins.form in
    let size : length text ≡ length p.bytes + length d.0 = ap length begins.spelled ∙ length-append p.bytes d.0 in
    let next = few_tokens (at + length p.bytes) (spaced_behind p) ps d.0 rest d.3 in
    let le : length (tokens_of (at + length p.bytes) (spaced_behind p) ps) ≤ length d.0 = next.0 in
    let same : at + length p.bytes + length d.0 ≡ at + length text = omega arith in
    let fits : Fits (at + length text) (tokens_of (at + length p.bytes) (spaced_behind p) ps) = subst (λ (n : ℕ). Fits n (tokens_of (at + length p.bytes) (spaced_behind p) ps)) same next.1 in
    by p.what (tokens_of (at + length p.bytes) (spaced_behind p) ps) (omega arith) (omega arith) fits
  where
    by : (w : Found) (ts : List Token) → length ts + 1 ≤ length text → length ts + 1 + at ≤ at + length text → Fits (at + length text) ts
        → (length (token_of at spaced (record { what = w; bytes = p.bytes }) ++ ts) ≤ length text) × Fits (at + length text) (token_of at spaced (record { what = w; bytes = p.bytes }) ++ ts)
    by Passed ts le room f = (omega arith, f)
    by (Item k) ts le room f = (omega arith, (room, f))
    by (Bad e) ts le room f = (omega arith, f)

fits_at : (total : ℕ) (ts : List Token) (k : ℕ) (d : Token) → Fits total ts → k < length ts → length ts - k + (get_or ts k d).start ≤ total
fits_at total [] k d f lt = absurd (omega arith)
fits_at total (t ∷ ts) zero d f lt = let h = f.0 in omega arith
fits_at total (t ∷ ts) (suc k) d f lt = let h = fits_at total ts k d f.1 (omega arith) in omega arith

pub tokens_few : (text : List ℕ) (ts : List Token) → HasTokens text ts → length ts ≤ length text
tokens_few text ts h =
    let few = (few_tokens (length h.front) true h.pieces h.rest [] h.divides).0 in
    let size : length text ≡ length h.front + length h.rest = ap length h.spelled ∙ length-append h.front h.rest in
    let same : length ts ≡ length (tokens_of (length h.front) true h.pieces) = ap length h.tokens in
    omega arith

pub tokens_behind : (text : List ℕ) (ts : List Token) (k : ℕ) (d : Token) → HasTokens text ts → k < length ts → length ts - k + (get_or ts k d).start ≤ length text
tokens_behind text ts k d h lt =
    let size : length h.front + length h.rest ≡ length text = sym (ap length h.spelled ∙ length-append h.front h.rest) in
    let fits : Fits (length h.front + length h.rest) ts = subst (Fits (length h.front + length h.rest)) (sym h.tokens) (few_tokens (length h.front) true h.pieces h.rest [] h.divides).1 in
    let all = fits_at (length h.front + length h.rest) ts k d fits lt in
    omega arith
