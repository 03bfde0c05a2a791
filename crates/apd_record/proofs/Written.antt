-- The places of a tuple while it is written: those of its head and of its first goals stand behind those from before.
use Rattle.std.proofs.Common.{◌≡◌, ℕ, suc, ◌+◌, ◌<◌, ◌≤◌, List, ◌∷◌, [], ◌++◌, length, take, drop, get_or, append_assoc, sym, ◌∙◌, ap, arith}
use Rattle.std.proofs.lemmas.List.{get_or_at, length-append, length-map, take_all, take_more}
use Rattle.std.proofs.lemmas.List.Prefix.{front_rest}
use Rattle.apd_term.specs.Term.{Term, variable}
use Rattle.apd_term.specs.declared.tuple.Tuple.{Tuple}
use Rattle.apd_intern.specs.Nodes.{IsFrontOf, term_at}
use Rattle.apd_record.specs.Kept.{seen, tuple_from}

pub front_put : (was now more : List Term) → now ≡ was ++ more → IsFrontOf was now
front_put was now more e = (more, sym e)

-- one more goal
pub put_next : (was now new : List Term) (head t : Term) (body : List Term) (k : ℕ) → k < length body → now ≡ was ++ head ∷ take k body → t ≡ get_or body k t → new ≡ now ++ t ∷ []
    → new ≡ was ++ head ∷ take (k + 1) body
put_next was now new head t body k l is at e =
    e ∙ ap (λ xs. xs ++ t ∷ []) is ∙ append_assoc was (head ∷ take k body) (t ∷ [])
    ∙ ap (λ x. was ++ head ∷ (take k body ++ x ∷ [])) at ∙ ap (λ xs. was ++ head ∷ xs) (sym (take_more body k t l))

-- all of them
pub put_whole : (was now : List Term) (t : Tuple) (from k n : ℕ) → now ≡ was ++ t.head ∷ take k t.body → from ≡ length was → length t.body ≤ k → n ≡ length t.body
    → tuple_from now (record { from = from; goals = n }) ≡ t
put_whole was now t from k n e f le g =
    let all : now ≡ was ++ t.head ∷ t.body = e ∙ ap (λ xs. was ++ t.head ∷ xs) (take_all k t.body le) in
    let head : get_or now from (variable 0) ≡ t.head = ap (λ xs. get_or xs from (variable 0)) all ∙ get_or_at was t.head t.body (variable 0) from (sym f) in
    let length_is : length (was ++ t.head ∷ []) ≡ from + 1 = length-append was (t.head ∷ []) ∙ ap (λ m. m + 1) (sym f) in
    let rest : drop (from + 1) now ≡ t.body = ap (λ m. drop m now) (sym length_is) ∙ front_rest now (was ++ t.head ∷ []) t.body (all ∙ sym (append_assoc was (t.head ∷ []) t.body)) in
    let body : take n (drop (from + 1) now) ≡ t.body = ap (take n) rest ∙ take_all n t.body (omega (arith, g)) in
    ap (λ h. record { head = h; body = take n (drop (from + 1) now) }) head ∙ ap (λ b. record { head = t.head; body = b }) body

pub put_within : (was : List Term) (terms : List Term) (places : List ℕ) (head : Term) (body : List Term) (from k n : ℕ) → seen terms places ≡ was ++ head ∷ take k body → from ≡ length was → length body ≤ k → n ≡ length body
    → from + n < length places
put_within was terms places head body from k n e f le g =
    let a : length places ≡ length was + suc (length (take k body)) = sym (length-map places (term_at terms)) ∙ ap length e ∙ length-append was (head ∷ take k body) in
    let b : length (take k body) ≡ length body = ap length (take_all k body le) in
    omega (arith, a, b, f, g)
