-- A name that is copied, byte by byte.
use Rattle.std.proofs.Common.{◌≡◌, ◌≤◌, ◌+◌, ◌++◌, ℕ, List, length, take, drop, ap, sym, ◌∙◌, arith, append_assoc, length-append, length-take}
use Rattle.std.proofs.Math.Seq.{take-append-add}
use Rattle.std.proofs.lemmas.List.{length-take-le, take-append-drop, take-append-le}
use Rattle.std.specs.List.{list_all}
use Rattle.apd_token.specs.Bytes.{is_word}

-- the name's first bytes were copied, and the others decide whether it is a word
pub record Copied (name was room : List ℕ) (i : ℕ) : Type 0 where
  pub within : i ≤ length name
  pub fits : length name ≤ length room
  pub same : length room ≡ length was
  pub front : take i room ≡ take i name
  pub rest : list_all is_word (drop i name) ≡ list_all is_word name

-- a name that was copied behind what was written
word_copied : (now room rest name : List ℕ) (end : ℕ) → end ≤ length now → take (length name) room ≡ name → length name ≤ length room →
    take (end + length name) (take end now ++ (room ++ rest)) ≡ take end now ++ name
word_copied now room rest name end within copied long =
    ap (λ (n : ℕ). take (n + length name) (take end now ++ (room ++ rest))) (sym (length-take-le end now within))
    ∙ take-append-add (take end now) (room ++ rest) (length name)
    ∙ ap (λ (l : List ℕ). take end now ++ l) (take-append-le (length name) room rest long ∙ copied)

-- the same, in a vector of n bytes
pub word_behind : (now room rest extra name : List ℕ) (end n : ℕ) → end ≤ length now → end + length name ≤ n → take (length name) room ≡ name →
    take (end + length name) (take n ((take end now ++ (room ++ rest)) ++ extra)) ≡ take end now ++ name
word_behind now room rest extra name end n within fits copied =
    let written : List ℕ = take end now in
    let all : List ℕ = (written ++ (room ++ rest)) ++ extra in
    let long : length name ≤ length room = (let l = ap (length {A = ℕ}) copied in let k = length-take (length name) room in omega (arith, l, k)) in
    let some : end + length name ≤ length (take n all) =
    (let a = length-take n all in
    let b = length-append (written ++ (room ++ rest)) extra in
    let c = length-append written (room ++ rest) in
    let d = length-append room rest in
    let e = length-take-le end now within in
    omega (arith, a, b, c, d, e, long, fits)) in
    sym (take-append-le (end + length name) (take n all) (drop n all) some)
    ∙ ap (take (end + length name)) (take-append-drop n all ∙ append_assoc written (room ++ rest) extra ∙ ap (λ (l : List ℕ). written ++ l) (append_assoc room rest extra))
    ∙ word_copied now room (rest ++ extra) name end within copied long
