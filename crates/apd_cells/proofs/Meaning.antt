-- What bindings make of variables.
use Rattle.std.proofs.Common.{◌≡◌, ◌≢◌, inl, inr, ℕ, ◌<◌, List, [], ◌∷◌, length, get_or, take, refl, sym, ◌∙◌, ap, subst, arith}
use Rattle.std.proofs.lemmas.Bool.{cases_eq}
use Rattle.std.proofs.lemmas.Bool.Decides.{nat_tests}
use Rattle.std.proofs.lemmas.List.{length-take, get_or-take}
use Rattle.apd_term.specs.declared.term.Sym.{Sym}
use Rattle.apd_term.specs.declared.term.Sym.TheVariants.{Var}
use Rattle.apd_term.specs.Term.{Term, variable, apply, Occurs}
use Rattle.apd_term.specs.Substitution.{term_for, single}
use Rattle.apd_term.proofs.Applying.{apply-followed_by, apply-variable}
use Rattle.apd_term.proofs.Variants.{apply-agree}
use Rattle.apd_term.proofs.Pairs.{term_for-same, term_for-other}
use Rattle.apd_cells.specs.declared.heap.TrailNote.{TrailNote}
use Rattle.apd_cells.specs.declared.heap.TrailNote.TheVariants.{Loaded, Bound}
use Rattle.apd_cells.specs.declared.heap.Binding.TheVariants.{Free, At}
use Rattle.apd_cells.specs.Store.{written, meaning, binding_of, HasCells, IsStore}
use Rattle.apd_cells.proofs.Written.{written-take}

-- a pair changes nothing in a term without its variable
pub apply-absent : (v : ℕ) (x t : Term) → ¬ Occurs v t → apply (term_for (single v x)) t ≡ t
apply-absent v x t n =
    apply-agree (term_for (single v x)) variable t (λ w o. term_for-other (v, x) [] w (λ e. n (subst (λ y. Occurs y t) (sym e) o)))
    ∙ apply-variable t

pub binding-other : (w c : ℕ) (notes : List TrailNote) (v : ℕ) → w ≢ v → binding_of (Bound w c ∷ notes) v ≡ binding_of notes v
binding-other w c notes v h = grind (arith, nat_tests)

pub binding-same : (w c : ℕ) (notes : List TrailNote) (v : ℕ) → w ≡ v → binding_of (Bound w c ∷ notes) v ≡ At c
binding-same w c notes v h = grind (arith, nat_tests)

-- a free variable means itself
pub meaning-free : (cells : List Sym) (notes : List TrailNote) (v : ℕ) → binding_of notes v ≡ Free → meaning cells notes v ≡ variable v
meaning-free cells [] v f = refl
meaning-free cells (Loaded c n ∷ notes) v f = meaning-free (take c cells) notes v f
meaning-free cells (Bound w c ∷ notes) v f = elim (cases_eq w v) [
  | inl e ↦ (let g = binding-same w c notes v e in cc)
  | inr d ↦
      let t = apply (meaning cells notes) (written cells c) in
      ap (apply (term_for (single w t))) (meaning-free cells notes v (sym (binding-other w c notes v d) ∙ f))
      ∙ term_for-other (w, t) [] v d
]

pub HasCells-of : (cells : List Sym) (n : ℕ) (notes : List TrailNote) → IsStore cells n notes → HasCells cells n
HasCells-of cells n [] h = h
HasCells-of cells n (Loaded c m ∷ notes) h = h.0
HasCells-of cells n (Bound w c ∷ notes) h = HasCells-of cells n notes h.1

-- a binding leads to a cell, to a smaller variable if to one
pub record LeadsTo (cells : List Sym) (n v c : ℕ) : Type 0 where
  pub inside : c < length cells
  pub below : v < n
  pub down : (w : ℕ) → get_or cells c (Var 0) ≡ Var w → w < v

pub leads_to : (cells : List Sym) (n : ℕ) (notes : List TrailNote) (v p : ℕ) → IsStore cells n notes → binding_of notes v ≡ At p → LeadsTo cells n v p
leads_to cells n [] v p h e = cc
leads_to cells n (Loaded c m ∷ notes) v p h e =
    let k = leads_to (take c cells) m notes v p h.1.1.1 e in
    let l : p < c = omega (arith, k.inside, length-take c cells) in
    record {
      inside = omega (arith, k.inside, length-take c cells);
      below = omega (arith, k.below, h.1.1.0);
      down = λ w g. k.down w (get_or-take c cells p (Var 0) l ∙ g);
    }
leads_to cells n (Bound w c ∷ notes) v p h e = elim (cases_eq w v) [
  | inl q ↦
      let g : c ≡ p = at c p (sym (binding-same w c notes v q) ∙ e) in
      subst (λ y. LeadsTo cells n v y) g (subst (λ y. LeadsTo cells n y c) q (record { inside = h.0.inside; below = h.0.below; down = h.0.down }))
  | inr d ↦ leads_to cells n notes v p h.1 (sym (binding-other w c notes v d) ∙ e)
]
  where
    at : (x y : ℕ) → At x ≡ At y → x ≡ y
    at x y e = cc

-- a bound variable means what the term at its cell means
pub meaning-bound : (cells : List Sym) (n : ℕ) (notes : List TrailNote) (v p : ℕ) → IsStore cells n notes → binding_of notes v ≡ At p
    → meaning cells notes v ≡ apply (meaning cells notes) (written cells p)
meaning-bound cells n [] v p h e = cc
meaning-bound cells n (Loaded c m ∷ notes) v p h e =
    let k = leads_to (take c cells) m notes v p h.1.1.1 e in
    let whole = HasCells-of (take c cells) m notes h.1.1.1 in
    meaning-bound (take c cells) m notes v p h.1.1.1 e
    ∙ ap (apply (meaning (take c cells) notes)) (written-take cells c p whole.whole k.inside)
meaning-bound cells n (Bound w c ∷ notes) v p h e =
    let s = meaning cells notes in
    let t = apply s (written cells c) in
    let one = term_for (single w t) in
    elim (cases_eq w v) [
      | inl q ↦
          let g : c ≡ p = at c p (sym (binding-same w c notes v q) ∙ e) in
          let left : apply one (s v) ≡ t = ap (apply one) (meaning-free cells notes v (subst (λ y. binding_of notes y ≡ Free) q h.0.free)) ∙ term_for-same (w, t) [] v q in
          let right : apply one t ≡ t = apply-absent w t t h.0.acyclic in
          left ∙ sym right ∙ apply-followed_by s one (written cells c) ∙ ap (λ y. apply (λ x. apply one (s x)) (written cells y)) g
      | inr d ↦
          ap (apply one) (meaning-bound cells n notes v p h.1 (sym (binding-other w c notes v d) ∙ e))
          ∙ apply-followed_by s one (written cells p)
    ]
  where
    at : (x y : ℕ) → At x ≡ At y → x ≡ y
    at x y e = cc
