-- The values of whole terms that stand one after another, and the stack that keeps them, the first on top.
use Rattle.std.proofs.Common.{get_or, ◌≡◌, ◌≤◌, ◌<◌, ℕ, ◌+◌, ◌-◌, List, [], ◌∷◌, ◌++◌, length, map, take, drop, reverse, refl, sym, ◌∙◌, ap, subst, arith}
use Rattle.std.proofs.lemmas.List.{reverse-append, length-reverse, take-append-drop, take_at, drop_at, length-drop, length-take, take-map, drop-map, take_rest, drop_more, append-nil, reverse-reverse, length-map}
use Rattle.apd_term.specs.Term.{Term, Terms, none, more, list_of, terms_of, read_all, spell, IsTerms, arity_of}
use Rattle.apd_term.specs.declared.term.Sym.{Sym}
use Rattle.apd_term.specs.declared.term.Sym.TheVariants.{Var, Int, Fun}
use Rattle.apd_term.specs.Spelling.{read_all-spell}
use Rattle.apd_term.proofs.Spelling.{list_of-terms_of, under_name}
use Rattle.apd_term.proofs.Matched.{IsTerms-drop}
use Rattle.apd_arith.specs.Value.{Value, value, values}
use Rattle.apd_arith.specs.Stack.{with_symbol}

pub values-map : (ts : Terms) → values ts ≡ map value (list_of ts)
values-map none = refl
values-map (more t ts) = ap (λ r. value t ∷ r) (values-map ts)

-- one symbol further to the front
pub values-symbol : (x : Sym) (s : List Sym) → map value (read_all (x ∷ s)) ≡ with_symbol x (map value (read_all s))
values-symbol (Var v) s = refl
values-symbol (Int i) s = refl
values-symbol (Fun f n) s =
    let e : values (terms_of (take n (read_all s))) ≡ take n (map value (read_all s)) = values-map (terms_of (take n (read_all s))) ∙ ap (map value) (list_of-terms_of (take n (read_all s))) ∙ sym (take-map value n (read_all s)) in
    rw (e, ← drop-map value n (read_all s)) refl

-- the last n of a list are the first n of its reverse
pub reverse-last : (xs : List Value) (n : ℕ) → n ≤ length xs → reverse (drop (length xs - n) xs) ≡ take n (reverse xs)
reverse-last xs n l =
    let k : ℕ = length xs - n in
    let e : reverse xs ≡ reverse (drop k xs) ++ reverse (take k xs) = ap reverse (sym (take-append-drop k xs)) ∙ reverse-append (take k xs) (drop k xs) in
    let m : length (reverse (drop k xs)) ≡ n = omega (arith, length-reverse (drop k xs), length-drop k xs) in
    sym (ap (take n) e ∙ take_at (reverse (drop k xs)) (reverse (take k xs)) n m)

pub reverse-first : (xs : List Value) (n : ℕ) → n ≤ length xs → reverse (take (length xs - n) xs) ≡ drop n (reverse xs)
reverse-first xs n l =
    let k : ℕ = length xs - n in
    let e : reverse xs ≡ reverse (drop k xs) ++ reverse (take k xs) = ap reverse (sym (take-append-drop k xs)) ∙ reverse-append (take k xs) (drop k xs) in
    let m : length (reverse (drop k xs)) ≡ n = omega (arith, length-reverse (drop k xs), length-drop k xs) in
    sym (ap (drop n) e ∙ drop_at (reverse (drop k xs)) (reverse (take k xs)) n m)

-- the values of the arguments, taken off a stack of m values
pub arguments_taken : (xs ys : List Value) (n m : ℕ) → ys ≡ xs → m ≡ length xs → n ≤ m → reverse (take (length ys - (m - n)) (drop (m - n) ys)) ≡ take n (reverse xs)
arguments_taken xs ys n m e l k =
    let le : n ≤ length xs = omega arith in
    let same : reverse (take (length xs - (length xs - n)) (drop (length xs - n) xs)) ≡ take n (reverse xs) = ap reverse (take_rest xs (length xs - n)) ∙ reverse-last xs n le in
    rw (e, l) same

pub arguments_left : (xs ys : List Value) (n m : ℕ) → m ≡ length xs → n ≤ m → ys ≡ take (m - n) xs → reverse ys ≡ drop n (reverse xs)
arguments_left xs ys n m l k e =
    let le : n ≤ length xs = omega arith in
    ap reverse (e ∙ ap (λ (q : ℕ). take (q - n) xs) l) ∙ reverse-first xs n le

-- a symbol's arguments stand behind it
arity_within : (x : Sym) (s : List Sym) → IsTerms (x ∷ s) → arity_of x ≤ length (read_all s)
arity_within (Var v) s h = omega arith
arity_within (Int i) s h = omega arith
arity_within (Fun f n) s h = omega (arith, (under_name f n s h).0, length-take n (read_all s))

pub one_back : (s : List Sym) (at : ℕ) (d : Sym) → 0 < at → at ≤ length s → drop (at - 1) s ≡ get_or s (at - 1) d ∷ drop at s
one_back s at d p l =
    let e : drop (at - 1) s ≡ get_or s (at - 1) d ∷ drop (at - 1 + 1) s = drop_more s (at - 1) d (omega arith) in
    let q : at - 1 + 1 ≡ at = omega arith in
    e ∙ ap (λ (k : ℕ). get_or s (at - 1) d ∷ drop k s) q

-- the values of a symbol's arguments are on the stack
pub arguments_there : (t : Term) (s : List Sym) (at : ℕ) (d : Sym) (vs : List Value) → s ≡ spell t → 0 < at → at ≤ length s → reverse vs ≡ map value (read_all (drop at s))
    → arity_of (get_or s (at - 1) d) ≤ length vs
arguments_there t s at d vs is p l e =
    let whole : IsTerms (drop (at - 1) s) = rw is (IsTerms-drop t (at - 1)) in
    let fits = arity_within (get_or s (at - 1) d) (drop at s) (subst IsTerms (one_back s at d p l) whole) in
    let n : length vs ≡ length (read_all (drop at s)) = sym (length-reverse vs) ∙ ap length e ∙ length-map (read_all (drop at s)) value in
    omega (arith, fits, n)

-- one symbol further to the front
pub one_further : (s : List Sym) (at : ℕ) (d : Sym) (vs ws : List Value) → 0 < at → at ≤ length s → reverse vs ≡ map value (read_all (drop at s)) → reverse ws ≡ with_symbol (get_or s (at - 1) d) (reverse vs)
    → reverse ws ≡ map value (read_all (drop (at - 1) s))
one_further s at d vs ws p l e f =
    f
    ∙ ap (with_symbol (get_or s (at - 1) d)) e
    ∙ sym (values-symbol (get_or s (at - 1) d) (drop at s))
    ∙ ap (λ r. map value (read_all r)) (sym (one_back s at d p l))

-- where all symbols were passed the term's value alone is on the stack
pub value_alone : (t : Term) (s : List Sym) (at : ℕ) (vs : List Value) → s ≡ spell t → at ≤ 0 → reverse vs ≡ map value (read_all (drop at s)) → vs ≡ value t ∷ []
value_alone t s at vs is z e =
    let all : drop at s ≡ spell t = ap (λ (k : ℕ). drop k s) (nothing at z) ∙ is in
    let r : read_all (drop at s) ≡ t ∷ [] = ap read_all (all ∙ sym (append-nil (spell t))) ∙ read_all-spell t [] in
    sym (reverse-reverse vs) ∙ ap reverse (e ∙ ap (map value) r)
  where
    nothing : (k : ℕ) → k ≤ 0 → k ≡ 0
    nothing k l = omega arith
