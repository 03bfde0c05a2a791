-- How long the program of a tree is at most.
use Rattle.std.proofs.Common.{◌≡◌, ℕ, zero, suc, ◌+◌, ◌*◌, ◌<◌, ◌≤◌, List, [], ◌∷◌, ◌++◌, length, Bool, true, false, arith}
use Rattle.std.proofs.lemmas.Fmt.{length-decimal-le}
use Rattle.std.proofs.lemmas.List.{length-append}
use Rattle.std.specs.Fmt.{decimal}
use Rattle.std.specs.List.{range_with_len}
use Rattle.std.specs.Prelude.{codes, flat_map, if◌then◌else◌, nat_le}
use Rattle.apd_gen.specs.Programs.{below, body_of, line_of, name_of, tree_text}

name-short : (i : ℕ) → i < 100000 → length (name_of i) ≤ 6
name-short i few =
    let digits : length (decimal i) ≤ 5 = length-decimal-le 5 i (omega arith) (omega (arith, few)) (omega (arith, few)) in
    let all : length (name_of i) ≡ 1 + length (decimal i) = length-append (codes "n") (decimal i) in
    omega (arith, digits, all)

more-short : (k : ℕ) → k < 100000 → length (codes ", " ++ name_of k) ≤ 8
more-short k few =
    let name = name-short k few in
    let all : length (codes ", " ++ name_of k) ≡ 2 + length (name_of k) = length-append (codes ", ") (name_of k) in
    omega (arith, name, all)

one-short : (j : ℕ) → j < 100000 → length (body_of (j ∷ [])) ≤ 10
one-short j few =
    let name = name-short j few in
    let all : length (codes " :- " ++ (name_of j ++ [])) ≡ 4 + length (name_of j ++ []) = length-append (codes " :- ") (name_of j ++ []) in
    let end : length (name_of j ++ []) ≡ length (name_of j) + 0 = length-append (name_of j) [] in
    omega (arith, name, all, end)

two-short : (j k : ℕ) → j < 100000 → k < 100000 → length (body_of (j ∷ k ∷ [])) ≤ 18
two-short j k few less =
    let name = name-short j few in
    let more = more-short k less in
    let rest : List ℕ = (codes ", " ++ name_of k) ++ [] in
    let all : length (codes " :- " ++ (name_of j ++ rest)) ≡ 4 + length (name_of j ++ rest) = length-append (codes " :- ") (name_of j ++ rest) in
    let mid : length (name_of j ++ rest) ≡ length (name_of j) + length rest = length-append (name_of j) rest in
    let end : length rest ≡ length (codes ", " ++ name_of k) + 0 = length-append (codes ", " ++ name_of k) [] in
    omega (arith, name, more, all, mid, end)

body-short : (n i : ℕ) → i < 20000 → length (body_of (below n i)) ≤ 18
body-short n i few = by (nat_le (2 * i) n) (nat_le (2 * i + 1) n)
  where
    by : (a b : Bool) → length (body_of (if a then 2 * i ∷ (if b then (2 * i + 1) ∷ [] else []) else (if b then (2 * i + 1) ∷ [] else []))) ≤ 18
    by true true = two-short (2 * i) (2 * i + 1) (omega (arith, few)) (omega (arith, few))
    by true false = let one = one-short (2 * i) (omega (arith, few)) in omega (arith, one)
    by false true = let one = one-short (2 * i + 1) (omega (arith, few)) in omega (arith, one)
    by false false = omega arith

line-short : (n i : ℕ) → i < 20000 → length (line_of n i) ≤ 26
line-short n i few =
    let name = name-short i (omega (arith, few)) in
    let body = body-short n i few in
    let all : length (line_of n i) ≡ length (name_of i ++ body_of (below n i)) + 2 = length-append (name_of i ++ body_of (below n i)) (codes ".\n") in
    let rest : length (name_of i ++ body_of (below n i)) ≡ length (name_of i) + length (body_of (below n i)) = length-append (name_of i) (body_of (below n i)) in
    omega (arith, name, body, all, rest)

pub lines-short : (n a m : ℕ) → a + m ≤ 20000 → length (flat_map (line_of n) (range_with_len a m)) ≤ 26 * m
lines-short n a zero few = omega arith
lines-short n a (suc m) few =
    let line = line-short n a (omega (arith, few)) in
    let rest = lines-short n (a + 1) m (omega (arith, few)) in
    let all : length (line_of n a ++ flat_map (line_of n) (range_with_len (a + 1) m)) ≡ length (line_of n a) + length (flat_map (line_of n) (range_with_len (a + 1) m)) =
    length-append (line_of n a) (flat_map (line_of n) (range_with_len (a + 1) m)) in
    omega (arith, line, rest, all)

pub tree-short : (n : ℕ) → n ≤ 10000 → length (tree_text n) ≤ 260000
tree-short n few = let all = lines-short n 1 n (omega (arith, few)) in omega (arith, all, few)
