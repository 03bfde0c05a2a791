-- Subterms: where they stand, with which symbols they begin, and that instances have them too.
use Rattle.std.proofs.Common.{◌≡◌, ◌⊎◌, inl, inr, ℕ, zero, suc, ◌<◌, ◌++◌, List, [], ◌∷◌, length, map, get_or, refl, sym, ap, ◌∙◌, subst, arith}
use Rattle.std.proofs.lemmas.List.{append-nil, length-map, map-append}
use Rattle.apd_term.specs.Term.{IsAmong, Term, Terms, variable, integer, compound, none, more, list_of, spell, spell_all, apply, apply_all}
use Rattle.apd_term.specs.declared.term.Sym.{Sym}
use Rattle.apd_term.specs.declared.term.Sym.TheVariants.{Var, Int, Fun}
use Rattle.apd_term.proofs.Spelling.{length-apply_all}
use Rattle.apd_marks.specs.Mixing.{mixed}
use Rattle.apd_marks.specs.Positions.{noted, top}
use Rattle.apd_marks.specs.declared.positions.Parent.{Parent}
use Rattle.apd_index.specs.Subterms.{IsAt, Stands, Subterm, digest, digests, position, position_below, positions, root, subterms, subterms_at, subterms_below}

-- The symbols that they begin with are those of the term.

abbrev pub root_of : Subterm → Sym
root_of s = root s.term

spelled-below : (c : ℕ) (ts : Terms) → spell_all ts ≡ map root_of (subterms_below c ts)
spelled-below c none = refl
spelled-below c (more (variable v) ts) = ap (λ (ys : List Sym). Var v ∷ ys) (spelled-below c ts)
spelled-below c (more (integer i) ts) = ap (λ (ys : List Sym). Int i ∷ ys) (spelled-below c ts)
spelled-below c (more (compound f us) ts) =
    let m = mixed (position_below c (suc (length (list_of ts)))) (Fun f (length (list_of us))) in
    ap (λ (ys : List Sym). Fun f (length (list_of us)) ∷ ys)
    (ap (λ (ys : List Sym). ys ++ spell_all ts) (spelled-below m us)
    ∙ ap (λ (ys : List Sym). map root_of (subterms_below m us) ++ ys) (spelled-below c ts)
    ∙ sym (map-append root_of (subterms_below m us) (subterms_below c ts)))

pub spelled : (t : Term) → spell t ≡ map root_of (subterms t)
spelled t = sym (append-nil (spell t)) ∙ spelled-below top (more t none)

root-variable : (t : Term) (v : ℕ) → root t ≡ Var v → t ≡ variable v
root-variable (variable w) v e = let same : w ≡ v = cc in ap variable same
root-variable (integer i) v e = absurd (cc)
root-variable (compound f ts) v e = absurd (cc)

stands-root : (ss : List Subterm) (i v : ℕ) (d : Sym) (o : Parent) → i < length (map root_of ss) → get_or (map root_of ss) i d ≡ Var v → Stands ss (get_or (map (λ (s : Subterm). s.position) ss) i o) (variable v)
stands-root [] i v d o l e = absurd (omega (arith, l))
stands-root (s ∷ ss) zero v d o l e = inl (refl, root-variable s.term v e)
stands-root (s ∷ ss) (suc i) v d o l e = inr (stands-root ss i v d o (omega (arith, l)) e)

stands-there : (ss : List Subterm) (i : ℕ) (d : Sym) (o : Parent) → i < length (map root_of ss)
    → (t : Term) × Stands ss (get_or (map (λ (s : Subterm). s.position) ss) i o) t × (root t ≡ get_or (map root_of ss) i d)
stands-there [] i d o l = absurd (omega (arith, l))
stands-there (s ∷ ss) zero d o l = (s.term, inl (refl, refl), refl)
stands-there (s ∷ ss) (suc i) d o l = let r = stands-there ss i d o (omega (arith, l)) in (r.0, inr r.1, r.2)

-- a symbol that is read
pub symbol-at : (t : Term) (xs : List Sym) (ps : List Parent) (i : ℕ) (p o : Parent) (d : Sym) → xs ≡ spell t → ps ≡ positions t → i < length xs → p ≡ get_or ps i o
    → (u : Term) × IsAt t p u × (root u ≡ get_or xs i d)
symbol-at t xs ps i p o d is at l here =
    let same : xs ≡ map root_of (subterms t) = is ∙ spelled t in
    let r = stands-there (subterms t) i d o (subst (λ (ys : List Sym). i < length ys) same l) in
    (r.0, subst (λ (q : Parent). IsAt t q r.0) (sym (here ∙ ap (λ (qs : List Parent). get_or qs i o) at)) r.1, r.2 ∙ ap (λ (ys : List Sym). get_or ys i d) (sym same))

-- a variable that is read
pub variable-at : (t : Term) (xs : List Sym) (ps : List Parent) (i v : ℕ) (p o : Parent) (d : Sym) → xs ≡ spell t → ps ≡ positions t → i < length xs → get_or xs i d ≡ Var v → p ≡ get_or ps i o → IsAt t p (variable v)
variable-at t xs ps i v p o d is at l e here =
    let same : xs ≡ map root_of (subterms t) = is ∙ spelled t in
    subst (λ (q : Parent). IsAt t q (variable v)) (sym (here ∙ ap (λ (qs : List Parent). get_or qs i o) at))
    (stands-root (subterms t) i v d o (subst (λ (ys : List Sym). i < length ys) same l) (ap (λ (ys : List Sym). get_or ys i d) (sym same) ∙ e))

pub as-many : (t : Term) (xs : List Sym) (ps : List Parent) → xs ≡ spell t → ps ≡ positions t → length xs ≡ length ps
as-many t xs ps is at =
    ap (λ (ys : List Sym). length ys) (is ∙ spelled t) ∙ length-map (subterms t) root_of
    ∙ sym (ap (λ (qs : List Parent). length qs) at ∙ length-map (subterms t) (λ (s : Subterm). s.position))

pub as-many-digests : (t : Term) (ps : List Parent) (ds : List ℕ) → ps ≡ positions t → ds ≡ digests t → length ps ≡ length ds
as-many-digests t ps ds at is =
    ap (λ (qs : List Parent). length qs) at ∙ length-map (subterms t) (λ (s : Subterm). s.position)
    ∙ sym (ap (λ (qs : List ℕ). length qs) is ∙ length-map (subterms t) (λ (s : Subterm). digest s.term))

-- where a term stands
pub stands-where : (ss : List Subterm) (p o : Parent) (t : Term) → Stands ss p t
    → (i : ℕ) × (i < length (map (λ (s : Subterm). s.position) ss)) × (get_or (map (λ (s : Subterm). s.position) ss) i o ≡ p) × (get_or (map (λ (s : Subterm). digest s.term) ss) i 0 ≡ digest t)
stands-where [] p o t h = absurd h
stands-where (s ∷ ss) p o t (inl (e, f)) = (zero, omega arith, e, ap digest f)
stands-where (s ∷ ss) p o t (inr h) = let r = stands-where ss p o t h in (suc r.0, omega (arith, r.1), r.2, r.3)

stands-symbol : (ss : List Subterm) (p o : Parent) (t : Term) (d : Sym) → Stands ss p t
    → (i : ℕ) × (i < length (map (λ (s : Subterm). s.position) ss)) × (get_or (map (λ (s : Subterm). s.position) ss) i o ≡ p) × (get_or (map root_of ss) i d ≡ root t)
stands-symbol [] p o t d h = absurd h
stands-symbol (s ∷ ss) p o t d (inl (e, f)) = (zero, omega arith, e, ap root f)
stands-symbol (s ∷ ss) p o t d (inr h) = let r = stands-symbol ss p o t d h in (suc r.0, omega (arith, r.1), r.2, r.3)

-- where a term stands, its symbol is read
pub symbol-where : (t u : Term) (xs : List Sym) (p o : Parent) (d : Sym) → xs ≡ spell t → IsAt t p u → (i : ℕ) × (i < length (positions t)) × (get_or (positions t) i o ≡ p) × (get_or xs i d ≡ root u)
symbol-where t u xs p o d is h =
    let r = stands-symbol (subterms t) p o u d h in
    (r.0, r.1, r.2, ap (λ (ys : List Sym). get_or ys r.0 d) (is ∙ spelled t) ∙ r.3)

-- Instances.

stands-left : (ss us : List Subterm) (p : Parent) (t : Term) → Stands ss p t → Stands (ss ++ us) p t
stands-left [] us p t h = absurd h
stands-left (s ∷ ss) us p t (inl e) = inl e
stands-left (s ∷ ss) us p t (inr h) = inr (stands-left ss us p t h)

stands-right : (ss us : List Subterm) (p : Parent) (t : Term) → Stands us p t → Stands (ss ++ us) p t
stands-right [] us p t h = h
stands-right (s ∷ ss) us p t h = inr (stands-right ss us p t h)

stands-append : (ss us : List Subterm) (p : Parent) (t : Term) → Stands (ss ++ us) p t → Stands ss p t ⊎ Stands us p t
stands-append [] us p t h = inr h
stands-append (s ∷ ss) us p t (inl e) = inl (inl e)
stands-append (s ∷ ss) us p t (inr h) = elim (stands-append ss us p t h) [ inl a ↦ inl (inr a) | inr b ↦ inr b ]

-- the term itself is the first one
stands-first : (c n : ℕ) (t : Term) → Stands (subterms_at c n t) (position c n) t
stands-first c n (variable v) = inl (refl, refl)
stands-first c n (integer i) = inl (refl, refl)
stands-first c n (compound f ts) = inl (refl, refl)

mutual
  at-instance : (s : ℕ → Term) (c n : ℕ) (t : Term) (p : Parent) (u : Term) → Stands (subterms_at c n t) p u → Stands (subterms_at c n (apply s t)) p (apply s u)
  at-instance s c n (variable w) p u (inl (e, f)) =
      subst (λ (q : Parent). Stands (subterms_at c n (s w)) q (apply s u)) e (subst (λ (y : Term). Stands (subterms_at c n (s w)) (position c n) (apply s y)) f (stands-first c n (s w)))
  at-instance s c n (variable w) p u (inr z) = absurd z
  at-instance s c n (integer i) p u (inl (e, f)) = inl (e, ap (apply s) f)
  at-instance s c n (integer i) p u (inr z) = absurd z
  at-instance s c n (compound f ts) p u (inl (e, g)) = inl (e, ap (apply s) g)
  at-instance s c n (compound f ts) p u (inr h) = rw (length-apply_all s ts) (inr (below-instance s (mixed (position_below c n) (Fun f (length (list_of ts)))) ts p u h))

  below-instance : (s : ℕ → Term) (c : ℕ) (ts : Terms) (p : Parent) (u : Term) → Stands (subterms_below c ts) p u → Stands (subterms_below c (apply_all s ts)) p (apply s u)
  below-instance s c none p u h = absurd h
  below-instance s c (more t ts) p u h =
      rw (length-apply_all s ts) (elim (stands-append (subterms_at c (suc (length (list_of ts))) t) (subterms_below c ts) p u h) [
        | inl a ↦ stands-left (subterms_at c (suc (length (list_of ts))) (apply s t)) (subterms_below c (apply_all s ts)) p (apply s u) (at-instance s c (suc (length (list_of ts))) t p u a)
        | inr b ↦ stands-right (subterms_at c (suc (length (list_of ts))) (apply s t)) (subterms_below c (apply_all s ts)) p (apply s u) (below-instance s c ts p u b)
      ])

-- where a term stands in an atom, an instance has that term's instance
pub instance-at : (s : ℕ → Term) (a x : Term) (p : Parent) (u : Term) → apply s a ≡ x → IsAt a p u → IsAt x p (apply s u)
instance-at s a x p u e h = subst (λ (y : Term). IsAt y p (apply s u)) e (below-instance s top (more a none) p u h)

-- a symbol that is no variable stays
pub root-stays : (s : ℕ → Term) (u : Term) (p : Parent) (m : ℕ) → IsAmong (noted p (root u)) m → root (apply s u) ≡ root u
root-stays s (variable v) p m a = absurd a
root-stays s (integer i) p m a = refl
root-stays s (compound f ts) p m a = ap (Fun f) (length-apply_all s ts)
