-- The variables that bindings lead to from a term are those that it has, with all bindings applied, and bound ones.
use Rattle.std.proofs.Common.{◌≡◌, ◌≢◌, inl, inr, ℕ, ◌+◌, ◌-◌, ◌<◌, ◌≤◌, List, [], ◌∷◌, length, get_or, take, refl, sym, ◌∙◌, ap, subst, arith}
use Rattle.std.proofs.lemmas.Bool.{cases_eq}
use Rattle.std.proofs.lemmas.List.{length-append}
use Rattle.apd_term.specs.declared.term.Sym.{Sym}
use Rattle.apd_term.specs.Term.{Term, apply, variables, IsAmong, Occurs}
use Rattle.apd_term.proofs.Among.{IsAmong-left, IsAmong-append, IsAmong-piece, IsAmong-flat_map}
use Rattle.apd_term.proofs.Applying.{variables-apply}
use Rattle.apd_cells.specs.declared.heap.Binding.TheVariants.{Free, At}
use Rattle.apd_cells.specs.declared.heap.TrailNote.{TrailNote}
use Rattle.apd_cells.specs.declared.heap.TrailNote.TheVariants.{Loaded, Bound}
use Rattle.apd_cells.specs.Stored.{Stored}
use Rattle.apd_cells.specs.Store.{written, meaning, term_at, binding_of, IsStore}
use Rattle.apd_cells.proofs.Written.{written-take}
use Rattle.apd_cells.proofs.Meaning.{HasCells-of, apply-absent, binding-same, binding-other, meaning-free, meaning-bound, leads_to}
use Rattle.apd_cells.proofs.Bindings.{Occurs-single}
use Rattle.apd_cells.proofs.Touching.{occurs_in_cells}
use Rattle.apd_cells.proofs.Ordered.{among_place, first_place, front}
use Rattle.apd_resolved.specs.Noticed.{unseen, Sees}
use Rattle.apd_resolved.proofs.Noticing.{among_or_not}

-- with the variable of a binding there are those of its term
abbrev pub IsClosed : List Sym → List TrailNote → (ℕ → Type 0) → Type 0
IsClosed cells notes P = (w c : ℕ) → P w → binding_of notes w ≡ At c → (u : ℕ) → Occurs u (written cells c) → P u

-- what a variable means has free variables alone, of those that bindings lead to
pub record IsLed (notes : List TrailNote) (P : ℕ → Type 0) (u : ℕ) : Type 0 where
  pub there : P u
  pub free : binding_of notes u ≡ Free

not_both : (c : ℕ) → Free ≡ At c → ⊥
not_both c e = cc

pub led : (cells : List Sym) (n : ℕ) (notes : List TrailNote) (P : ℕ → Type 0) → IsStore cells n notes → IsClosed cells notes P
    → (w u : ℕ) → P w → Occurs u (meaning cells notes w) → IsLed notes P u
led cells n [] P h k w u p (inl e) = record { there = subst P e p; free = refl }
led cells n [] P h k w u p (inr b) = absurd b
led cells n (Loaded c m ∷ notes) P h k w u p o =
    let inner : IsClosed (take c cells) notes P = λ x d q e y i.
    (let g = leads_to (take c cells) m notes x d h.1.1.1 e in
    let whole = HasCells-of (take c cells) m notes h.1.1.1 in
    k x d q e y (subst (Occurs y) (written-take cells c d whole.whole g.inside) i)) in
    let r = led (take c cells) m notes P h.1.1.1 inner w u p o in
    record { there = r.there; free = r.free }
led cells n (Bound x c ∷ notes) P h k w u p o =
    let s = meaning cells notes in
    let t = apply s (written cells c) in
    let inner : IsClosed cells notes P = λ y d q e z i. k y d q (elim (cases_eq x y) [
      | inl f ↦ absurd (not_both d (sym (subst (λ a. binding_of notes a ≡ Free) f h.0.free) ∙ e))
      | inr f ↦ binding-other x c notes y f ∙ e
    ]) z i in
    let later : (y : ℕ) → x ≢ y → IsLed notes P y → IsLed (Bound x c ∷ notes) P y =
    λ y f r. record { there = r.there; free = binding-other x c notes y f ∙ r.free } in
    let one = Occurs-single x t (s w) u h.0.acyclic o in
    elim (among_or_not (variables (s w)) x) [
      | inr absent ↦ later u one.0 (led cells n notes P h.1 inner w u p (subst (Occurs u) (apply-absent x t (s w) absent) o))
      | inl present ↦ elim (one.1) [
        | inr q ↦ later u one.0 (led cells n notes P h.1 inner w u p q)
        | inl q ↦
            let m = IsAmong-flat_map (λ y. variables (s y)) (variables (written cells c)) u (subst (λ r. IsAmong r u) (variables-apply s (written cells c)) q) in
            let there = (led cells n notes P h.1 inner w x p present).there in
            later u one.0 (led cells n notes P h.1 inner m.0 u (k x c there (binding-same x c notes x refl) m.0 m.1) m.2)
      ]
    ]

-- a variable's meaning is part of what a term means in which it is written
pub part_of : (s : ℕ → Term) (t : Term) (w u : ℕ) → Occurs w t → Occurs u (s w) → Occurs u (apply s t)
part_of s t w u i o = subst (λ r. IsAmong r u) (sym (variables-apply s t)) (IsAmong-piece (λ y. variables (s y)) (variables t) w u i o)

-- the first variables that were seen are done: where they lead was seen, and none of them is free and the one sought
pub record IsSearch (s : Stored) (at v done : ℕ) (seen : List ℕ) : Type 0 where
  pub begun : (u : ℕ) → Occurs u (written s.cells at) → IsAmong seen u
  pub led_on : (i c : ℕ) → i < done → binding_of s.trail (get_or seen i 0) ≡ At c → (u : ℕ) → Occurs u (written s.cells c) → IsAmong seen u
  pub others : (i : ℕ) → i < done → binding_of s.trail (get_or seen i 0) ≡ Free → get_or seen i 0 ≢ v
  pub only : (w u : ℕ) → IsAmong seen w → Occurs u (meaning s.cells s.trail w) → Occurs u (term_at s at)
  pub within : done ≤ length seen

pub search_first : (s : Stored) (at v : ℕ) (seen : List ℕ) → Sees [] seen (variables (written s.cells at)) → IsSearch s at v 0 seen
search_first s at v seen h = record {
  begun = h.all;
  led_on = λ i c l. absurd (omega (arith, l));
  others = λ i l. absurd (omega (arith, l));
  only = λ w u m o. part_of (meaning s.cells s.trail) (written s.cells at) w u (h.only w (subst (λ z. IsAmong z w) h.is m)) o;
  within = omega arith;
}

-- a bound variable is passed
pub search_bound : (s : Stored) (at v done w c : ℕ) (seen new : List ℕ) → IsStore s.cells s.variables s.trail → IsSearch s at v done seen → done < length seen → get_or seen done 0 ≡ w
    → binding_of s.trail w ≡ At c → Sees seen new (variables (written s.cells c)) → IsSearch s at v (done + 1) new
search_bound s at v done w c seen new store h l is b k =
    let stays : (u : ℕ) → IsAmong seen u → IsAmong new u = λ u m. subst (λ z. IsAmong z u) (sym k.is) (IsAmong-left seen k.more u m) in
    let same : (i : ℕ) → i < length seen → get_or new i 0 ≡ get_or seen i 0 = λ i m. ap (λ z. get_or z i 0) k.is ∙ front seen k.more i m in
    record {
      begun = λ u o. stays u (h.begun u o);
      led_on = λ i d m e u o. elim (cases_eq i done) [
        | inl q ↦
            let here : get_or new i 0 ≡ w = same i (omega (arith, q, l)) ∙ ap (λ j. get_or seen j 0) q ∙ is in
            let to : c ≡ d = at_same c d (sym b ∙ ap (binding_of s.trail) (sym here) ∙ e) in
            k.all u (subst (λ z. Occurs u (written s.cells z)) (sym to) o)
        | inr q ↦ stays u (h.led_on i d (omega (arith, q, m)) (ap (binding_of s.trail) (sym (same i (omega (arith, q, m, h.within)))) ∙ e) u o)
      ];
      others = λ i m f. elim (cases_eq i done) [
        | inl q ↦
            let here : get_or new i 0 ≡ w = same i (omega (arith, q, l)) ∙ ap (λ j. get_or seen j 0) q ∙ is in
            absurd (not_both c (sym f ∙ ap (binding_of s.trail) here ∙ b))
        | inr q ↦
            let before = same i (omega (arith, q, m, h.within)) in
            λ e. h.others i (omega (arith, q, m)) (ap (binding_of s.trail) (sym before) ∙ f) (sym before ∙ e)
      ];
      only = λ x u m o. elim (IsAmong-append seen k.more x (subst (λ z. IsAmong z x) k.is m)) [
        | inl a ↦ h.only x u a o
        | inr a ↦
            let up = part_of (meaning s.cells s.trail) (written s.cells c) x u (k.only x a) o in
            let here : IsAmong seen w = among_place seen w done (record { there = l; is = is }) in
            h.only w u here (subst (Occurs u) (sym (meaning-bound s.cells s.variables s.trail w c store b)) up)
      ];
      within = omega (arith, l, ap length k.is, length-append seen k.more);
    }
  where
    at_same : (x y : ℕ) → At x ≡ At y → x ≡ y
    at_same x y e = cc

-- a free variable is passed
pub search_free : (s : Stored) (at v done w : ℕ) (seen : List ℕ) → IsSearch s at v done seen → done < length seen → get_or seen done 0 ≡ w
    → binding_of s.trail w ≡ Free → w ≢ v → IsSearch s at v (done + 1) seen
search_free s at v done w seen h l is f n = record {
  begun = h.begun;
  led_on = λ i c m e u o. elim (cases_eq i done) [
    | inl q ↦ absurd (not_both c (sym f ∙ ap (binding_of s.trail) (sym is ∙ ap (λ j. get_or seen j 0) (sym q)) ∙ e))
    | inr q ↦ h.led_on i c (omega (arith, q, m)) e u o
  ];
  others = λ i m e. elim (cases_eq i done) [
    | inl q ↦ λ z. n (sym is ∙ ap (λ j. get_or seen j 0) (sym q) ∙ z)
    | inr q ↦ h.others i (omega (arith, q, m)) e
  ];
  only = h.only;
  within = omega (arith, l);
}

-- the variable was found
pub search_found : (s : Stored) (at v done w : ℕ) (seen : List ℕ) → IsSearch s at v done seen → done < length seen → get_or seen done 0 ≡ w
    → binding_of s.trail w ≡ Free → w ≡ v → Occurs v (term_at s at)
search_found s at v done w seen h l is f e =
    let here : IsAmong seen w = among_place seen w done (record { there = l; is = is }) in
    h.only w v here (subst (Occurs v) (sym (meaning-free s.cells s.trail w f)) (inl e))

-- it wasn't found among all that bindings lead to
pub search_last : (s : Stored) (at v done : ℕ) (seen : List ℕ) → IsStore s.cells s.variables s.trail → IsSearch s at v done seen → length seen ≤ done → ¬ Occurs v (term_at s at)
search_last s at v done seen store h l o =
    let g = meaning s.cells s.trail in
    let closed : IsClosed s.cells s.trail (IsAmong seen) = λ w c p e u i.
    (let k = first_place seen w p in h.led_on k.0 c (omega (arith, k.1.there, l)) (ap (binding_of s.trail) k.1.is ∙ e) u i) in
    let m = IsAmong-flat_map (λ y. variables (g y)) (variables (written s.cells at)) v (subst (λ r. IsAmong r v) (variables-apply g (written s.cells at)) o) in
    let r = led s.cells s.variables s.trail (IsAmong seen) store closed m.0 v (h.begun m.0 m.1) m.2 in
    let k = first_place seen v r.there in
    h.others k.0 (omega (arith, k.1.there, l)) (ap (binding_of s.trail) k.1.is ∙ r.free) k.1.is

-- each variable that is passed is one that was seen, and there are no more than the store has
pub search_smaller : (s : Stored) (done c : ℕ) (seen new : List ℕ) → IsStore s.cells s.variables s.trail → c < length s.cells → done < length seen
    → Sees seen new (variables (written s.cells c)) → unseen s.variables new + length new - (done + 1) < unseen s.variables seen + length seen - done
search_smaller s done c seen new store inside l k =
    let h = k.once s.variables (λ u o. occurs_in_cells s.cells s.variables c u (HasCells-of s.cells s.variables s.trail store) inside o) in
    omega (arith, h, l)
