-- The digests of terms that stand one after another, and the stack that keeps them, the first on top.
use Rattle.std.proofs.Common.{◌≡◌, ◌≤◌, ◌<◌, ℕ, zero, suc, ◌-◌, List, [], ◌∷◌, ◌++◌, length, map, take, drop, reverse, get_or, refl, sym, ◌∙◌, ap, arith, append_assoc}
use Rattle.std.proofs.lemmas.List.{append-nil, drop_all, drop_at, drop-map, length-drop, length-reverse, map-append, reverse-append, reverse-reverse, take_at, take_rest, take-append-drop, take-map, take_all}
use Rattle.apd_arith.proofs.Values.{one_back}
use Rattle.apd_term.specs.Term.{Term, Terms, variable, integer, compound, none, more, list_of, terms_of, first_of, read_all, spell, spell_all, term_of, arity_of}
use Rattle.apd_term.specs.declared.term.Sym.{Sym}
use Rattle.apd_term.specs.declared.term.Sym.TheVariants.{Var, Int, Fun}
use Rattle.apd_term.specs.Spelling.{read_all-spell}
use Rattle.apd_term.proofs.Spelling.{list_of-terms_of}
use Rattle.apd_marks.specs.Mixing.{mixed}
use Rattle.apd_marks.specs.Positions.{top}
use Rattle.apd_index.specs.Subterms.{Subterm, bare, digest, digests, digests_of, joined, position_below, subterms_below}

-- The last n of a list are the first n of its reverse.

module _ (xs : List ℕ) (n : ℕ) where
  turned : reverse xs ≡ reverse (drop (length xs - n) xs) ++ reverse (take (length xs - n) xs)
  turned = ap reverse (sym (take-append-drop (length xs - n) xs)) ∙ reverse-append (take (length xs - n) xs) (drop (length xs - n) xs)

  turned-length : n ≤ length xs → length (reverse (drop (length xs - n) xs)) ≡ n
  turned-length l = omega (arith, length-reverse (drop (length xs - n) xs), length-drop (length xs - n) xs)

  pub last-taken : drop (length xs - n) xs ≡ reverse (take n (reverse xs))
  last-taken = by (length xs - n) refl
    where
      by : (k : ℕ) → length xs - n ≡ k → drop (length xs - n) xs ≡ reverse (take n (reverse xs))
      by zero e =
          ap (λ (k : ℕ). drop k xs) e
          ∙ sym (ap reverse (take_all n (reverse xs) (omega (arith, e, length-reverse xs))) ∙ reverse-reverse xs)
      by (suc k) e =
          let l : n ≤ length xs = omega (arith, e) in
          sym (ap reverse (ap (take n) turned ∙ take_at (reverse (drop (length xs - n) xs)) (reverse (take (length xs - n) xs)) n (turned-length l)) ∙ reverse-reverse (drop (length xs - n) xs))

  pub others-left : reverse (take (length xs - n) xs) ≡ drop n (reverse xs)
  others-left = by (length xs - n) refl
    where
      by : (k : ℕ) → length xs - n ≡ k → reverse (take (length xs - n) xs) ≡ drop n (reverse xs)
      by zero e = ap (λ (k : ℕ). reverse (take k xs)) e ∙ sym (drop_all n (reverse xs) (omega (arith, e, length-reverse xs)))
      by (suc k) e =
          let l : n ≤ length xs = omega (arith, e) in
          sym (ap (drop n) turned ∙ drop_at (reverse (drop (length xs - n) xs)) (reverse (take (length xs - n) xs)) n (turned-length l))

-- the digests of the arguments, taken off a stack of m digests
pub arguments-taken : (xs ys : List ℕ) (n m rest : ℕ) → ys ≡ xs → m ≡ length xs → rest ≡ m - n → take (length ys - rest) (drop rest ys) ≡ reverse (take n (reverse xs))
arguments-taken xs ys n m rest e l r =
    take_rest ys rest ∙ ap (drop rest) e ∙ ap (λ (k : ℕ). drop k xs) (r ∙ ap (λ (k : ℕ). k - n) l) ∙ last-taken xs n

pub arguments-left : (xs ys : List ℕ) (n m rest : ℕ) → m ≡ length xs → rest ≡ m - n → ys ≡ take rest xs → reverse ys ≡ drop n (reverse xs)
arguments-left xs ys n m rest l r e = ap reverse (e ∙ ap (λ (k : ℕ). take k xs) (r ∙ ap (λ (k : ℕ). k - n) l)) ∙ others-left xs n

-- One symbol further to the front.

digests-map : (ts : Terms) → digests_of ts ≡ map digest (list_of ts)
digests-map none = refl
digests-map (more t ts) = ap (λ (r : List ℕ). digest t ∷ r) (digests-map ts)

-- the digest of a term that begins with the symbol, where those of the terms behind it are known
abbrev pub of_symbol : Sym → List ℕ → ℕ
of_symbol x ds = joined (mixed 1 (bare x)) (reverse (take (arity_of x) ds))

first-digest : (x : Sym) (s : List Sym) → digest (term_of (x ∷ s)) ≡ of_symbol x (map digest (read_all s))
first-digest (Var v) s = refl
first-digest (Int i) s = refl
first-digest (Fun f n) s =
    ap (λ (ds : List ℕ). joined (mixed 1 (Fun f 0)) (reverse ds))
    (digests-map (terms_of (take n (read_all s))) ∙ ap (map digest) (list_of-terms_of (take n (read_all s))) ∙ sym (take-map digest n (read_all s)))

digests-symbol : (x : Sym) (s : List Sym) → map digest (read_all (x ∷ s)) ≡ digest (term_of (x ∷ s)) ∷ drop (arity_of x) (map digest (read_all s))
digests-symbol (Var v) s = refl
digests-symbol (Int i) s = refl
digests-symbol (Fun f n) s = ap (λ (ds : List ℕ). digest (term_of (Fun f n ∷ s)) ∷ ds) (sym (drop-map digest n (read_all s)))

-- the digests of the terms that begin with each of the symbols
abbrev pub begun : List Sym → List ℕ
begun [] = []
begun (x ∷ xs) = digest (term_of (x ∷ xs)) ∷ begun xs

module _ (s : List Sym) (at : ℕ) (d : Sym) (vs : List ℕ) (n : ℕ) (p : 0 < at) (l : at ≤ length s) (h : reverse vs ≡ map digest (read_all (drop at s))) where
  abbrev x : Sym
  x = get_or s (at - 1) d

  pub digest-is : n ≡ of_symbol x (reverse vs) → n ≡ digest (term_of (x ∷ drop at s))
  digest-is e = e ∙ ap (of_symbol x) h ∙ sym (first-digest x (drop at s))

  pub stack-goes : (left new : List ℕ) → n ≡ of_symbol x (reverse vs) → reverse left ≡ drop (arity_of x) (reverse vs) → new ≡ left ++ n ∷ [] → reverse new ≡ map digest (read_all (drop (at - 1) s))
  stack-goes left new e f g =
      ap reverse g ∙ reverse-append left (n ∷ [])
      ∙ ap (λ (k : ℕ). k ∷ reverse left) (digest-is e)
      ∙ ap (λ (r : List ℕ). digest (term_of (x ∷ drop at s)) ∷ r) (f ∙ ap (drop (arity_of x)) h)
      ∙ sym (digests-symbol x (drop at s))
      ∙ ap (λ (ys : List Sym). map digest (read_all ys)) (sym (one_back s at d p l))

  pub begun-goes : (ds new : List ℕ) → n ≡ of_symbol x (reverse vs) → reverse ds ≡ begun (drop at s) → new ≡ ds ++ n ∷ [] → reverse new ≡ begun (drop (at - 1) s)
  begun-goes ds new e so_far g =
      ap reverse g ∙ reverse-append ds (n ∷ [])
      ∙ ap (λ (k : ℕ). k ∷ reverse ds) (digest-is e)
      ∙ ap (λ (r : List ℕ). digest (term_of (x ∷ drop at s)) ∷ r) so_far
      ∙ ap begun (sym (one_back s at d p l))

-- Those of all symbols are those of the subterms.

abbrev parts : ℕ → Terms → List ℕ
parts c ts = map (λ (s : Subterm). digest s.term) (subterms_below c ts)

begun-below : (c : ℕ) (ts : Terms) (xs : List Sym) → begun (spell_all ts ++ xs) ≡ parts c ts ++ begun xs
begun-below c none xs = refl
begun-below c (more (variable v) ts) xs = ap (λ (r : List ℕ). digest (variable v) ∷ r) (begun-below c ts xs)
begun-below c (more (integer i) ts) xs = ap (λ (r : List ℕ). digest (integer i) ∷ r) (begun-below c ts xs)
begun-below c (more (compound f us) ts) xs =
    let m = mixed (position_below c (suc (length (list_of ts)))) (Fun f (length (list_of us))) in
    ap (λ (ys : List Sym). begun (Fun f (length (list_of us)) ∷ ys)) (append_assoc (spell_all us) (spell_all ts) xs)
    ∙ ap (λ (t : Term). digest t ∷ begun (spell_all us ++ (spell_all ts ++ xs))) (ap first_of (read_all-spell (compound f us) (spell_all ts ++ xs)))
    ∙ ap (λ (r : List ℕ). digest (compound f us) ∷ r)
    (begun-below m us (spell_all ts ++ xs)
    ∙ ap (λ (r : List ℕ). parts m us ++ r) (begun-below c ts xs)
    ∙ sym (ap (λ (r : List ℕ). r ++ begun xs) (map-append (λ (s : Subterm). digest s.term) (subterms_below m us) (subterms_below c ts)) ∙ append_assoc (parts m us) (parts c ts) (begun xs)))

begun-whole : (t : Term) → begun (spell t) ≡ digests t
begun-whole t = ap begun (sym (append-nil (spell t ++ []) ∙ append-nil (spell t))) ∙ begun-below top (more t none) [] ∙ append-nil (digests t)

pub begun-ends : (t : Term) (s : List Sym) (at : ℕ) (ds new : List ℕ) → s ≡ spell t → at ≤ 0 → reverse ds ≡ begun (drop at s) → new ≡ reverse ds → new ≡ digests t
begun-ends t s at ds new is z so_far e = e ∙ so_far ∙ ap (λ (k : ℕ). begun (drop k s)) (nothing at z) ∙ ap begun is ∙ begun-whole t
  where
    nothing : (k : ℕ) → k ≤ 0 → k ≡ 0
    nothing k l = omega arith
