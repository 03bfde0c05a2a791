-- The walk over a term's symbols notes the positions of its subterms.
use Rattle.std.proofs.Common.{◌≡◌, ℕ, suc, ◌+◌, ◌-◌, ◌<◌, ◌≤◌, ◌++◌, List, [], ◌∷◌, length, map, drop, get_or, refl, sym, ap, ◌∙◌, arith, append_assoc}
use Rattle.std.specs.Prelude.{reverse}
use Rattle.std.proofs.lemmas.List.{append-nil, drop_all, drop_more, map-append, reverse-append}
use Rattle.apd_term.specs.Term.{Term, Terms, variable, integer, compound, none, more, list_of, spell, spell_all}
use Rattle.apd_term.specs.declared.term.Sym.{Sym}
use Rattle.apd_term.specs.declared.term.Sym.TheVariants.{Var, Int, Fun}
use Rattle.apd_marks.specs.Mixing.{mixed}
use Rattle.apd_marks.specs.Positions.{onward, top, waiting}
use Rattle.apd_marks.specs.declared.positions.Parent.{Parent}
use Rattle.apd_marks.proofs.Walking.{after, held, held-some, reverse-onward}
use Rattle.apd_index.specs.Subterms.{Subterm, position, position_below, positions, subterms_below}

-- the positions of what is still to be read
abbrev pub rest : List Sym → List Parent → List Parent
rest [] parents = []
rest (x ∷ xs) [] = []
rest (x ∷ xs) (f ∷ parents) = f ∷ rest xs (after f x parents)

abbrev spots : ℕ → Terms → List Parent
spots c ts = map (λ (s : Subterm). s.position) (subterms_below c ts)

-- terms below a parent
module _ (c : ℕ) (ts : Terms) (xs : List Sym) (parents : List Parent) where
  abbrev Below : Type 0
  Below = rest (spell_all ts ++ xs) (held c (length (list_of ts)) parents) ≡ spots c ts ++ rest xs parents

  one-less : Below → rest (spell_all ts ++ xs) (held c (suc (length (list_of ts)) - 1) parents) ≡ spots c ts ++ rest xs parents
  one-less h = ap (λ k. rest (spell_all ts ++ xs) (held c k parents)) (let e : suc (length (list_of ts)) - 1 ≡ length (list_of ts) = omega arith in e) ∙ h

rest-below : (c : ℕ) (ts : Terms) (xs : List Sym) (parents : List Parent) → rest (spell_all ts ++ xs) (held c (length (list_of ts)) parents) ≡ spots c ts ++ rest xs parents
rest-below c none xs parents = refl
rest-below c (more (variable v) ts) xs parents =
    ap (rest (Var v ∷ (spell_all ts ++ xs))) (held-some c (length (list_of ts)) parents)
    ∙ ap (λ (ys : List Parent). position c (suc (length (list_of ts))) ∷ ys) (one-less c ts xs parents (rest-below c ts xs parents))
rest-below c (more (integer i) ts) xs parents =
    ap (rest (Int i ∷ (spell_all ts ++ xs))) (held-some c (length (list_of ts)) parents)
    ∙ ap (λ (ys : List Parent). position c (suc (length (list_of ts))) ∷ ys) (one-less c ts xs parents (rest-below c ts xs parents))
rest-below c (more (compound f us) ts) xs parents =
    let n = suc (length (list_of ts)) in
    let p = position c n in
    let m = mixed (position_below c n) (Fun f (length (list_of us))) in
    ap (rest (Fun f (length (list_of us)) ∷ ((spell_all us ++ spell_all ts) ++ xs))) (held-some c (length (list_of ts)) parents)
    ∙ ap (λ (ys : List Parent). p ∷ ys)
    (ap (λ zs. rest zs (held m (length (list_of us)) (held c (n - 1) parents))) (append_assoc (spell_all us) (spell_all ts) xs)
    ∙ rest-below m us (spell_all ts ++ xs) (held c (n - 1) parents)
    ∙ ap (λ zs. spots m us ++ zs) (one-less c ts xs parents (rest-below c ts xs parents))
    ∙ sym (ap (λ (ys : List Parent). ys ++ rest xs parents) (map-append (λ (s : Subterm). s.position) (subterms_below m us) (subterms_below c ts)) ∙ append_assoc (spots m us) (spots c ts) (rest xs parents)))

pub rest-whole : (t : Term) → rest (spell t) (held top 1 []) ≡ positions t
rest-whole t =
    ap (λ ys. rest ys (held top 1 [])) (sym (append-nil (spell t ++ []) ∙ append-nil (spell t)))
    ∙ rest-below top (more t none) [] []
    ∙ append-nil (positions t)

pub none-left : (xs : List Sym) → rest xs [] ≡ []
none-left [] = refl
none-left (x ∷ xs) = refl

-- The loop.

abbrev pub IsWalk : Term → List Sym → ℕ → List Parent → List Parent → Type 0
IsWalk t xs i parents ps = ps ++ rest (drop i xs) (reverse parents) ≡ positions t

pub walk-begins : (t : Term) (xs : List Sym) (fresh parents : List Parent) (ps : List Parent) → xs ≡ spell t → ps ≡ [] → fresh ≡ [] → parents ≡ waiting top 1 fresh → IsWalk t xs 0 parents ps
walk-begins t xs fresh parents ps e f g h =
    ap (λ (qs : List Parent). qs ++ rest xs (reverse parents)) f
    ∙ ap (λ ys. rest ys (reverse parents)) e
    ∙ ap (λ fs. rest (spell t) (reverse fs)) (h ∙ ap (waiting top 1) g)
    ∙ rest-whole t

pub walk-goes : (t : Term) (xs : List Sym) (i : ℕ) (d x : Sym) (f : Parent) (parents left parents_new ps ps_new : List Parent) → i < length xs → x ≡ get_or xs i d → parents ≡ left ++ f ∷ []
    → ps_new ≡ ps ++ f ∷ [] → parents_new ≡ onward f x left → IsWalk t xs i parents ps → IsWalk t xs (i + 1) parents_new ps_new
walk-goes t xs i d x f parents left parents_new ps ps_new l is e g h so_far =
    let later = rest (drop (i + 1) xs) (after f x (reverse left)) in
    ap (λ qs. qs ++ rest (drop (i + 1) xs) (reverse parents_new)) g
    ∙ ap (λ fs. (ps ++ f ∷ []) ++ rest (drop (i + 1) xs) fs) (ap reverse h ∙ reverse-onward f x left)
    ∙ append_assoc ps (f ∷ []) later
    ∙ ap (λ fs. ps ++ rest (x ∷ drop (i + 1) xs) fs) (sym (ap reverse e ∙ reverse-append left (f ∷ [])))
    ∙ ap (λ ys. ps ++ rest ys (reverse parents)) (sym (drop_more xs i d l ∙ ap (λ y. y ∷ drop (i + 1) xs) (sym is)))
    ∙ so_far

pub walk-stops : (t : Term) (xs : List Sym) (i : ℕ) (parents ps : List Parent) → parents ≡ [] → IsWalk t xs i parents ps → ps ≡ positions t
walk-stops t xs i parents ps e so_far = sym (append-nil ps) ∙ ap (λ ys. ps ++ ys) (sym (ap (λ fs. rest (drop i xs) (reverse fs)) e ∙ none-left (drop i xs))) ∙ so_far

pub walk-ends : (t : Term) (xs : List Sym) (i : ℕ) (parents ps : List Parent) → length xs ≤ i → IsWalk t xs i parents ps → ps ≡ positions t
walk-ends t xs i parents ps l so_far = sym (append-nil ps) ∙ ap (λ ys. ps ++ ys) (sym (ap (λ ys. rest ys (reverse parents)) (drop_all i xs l))) ∙ so_far
