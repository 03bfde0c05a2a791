-- Tuples in which no variable stands, in canonical form.
use Rattle.std.proofs.Common.{◌≡◌, ℕ, List, [], ◌∷◌, ◌++◌, map, refl, sym, ◌∙◌, ap, subst}
use Rattle.std.specs.List.{flat_map}
use Rattle.apd_term.specs.Term.{Term, variable, apply, variables, IsGround}
use Rattle.apd_term.specs.Canonical.{by_appearance, place_of}
use Rattle.apd_term.specs.Tuple.{canonical_tuple, variables_of_tuple}
use Rattle.apd_term.specs.declared.tuple.Tuple.{Tuple}
use Rattle.apd_term.proofs.Ground.{apply-ground}

pub both_empty : (xs ys : List ℕ) → xs ++ ys ≡ [] → (xs ≡ []) × (ys ≡ [])
both_empty [] ys e = (refl, e)
both_empty (x ∷ xs) ys e = absurd (cc)

none_after : (s : ℕ → Term) (t : Term) → IsGround t → IsGround (apply s t)
none_after s t g = subst IsGround (sym (apply-ground s t g)) g

none_after_all : (s : ℕ → Term) (ts : List Term) → flat_map variables ts ≡ [] → flat_map variables (map (apply s) ts) ≡ []
none_after_all s [] g = refl
none_after_all s (t ∷ ts) g =
    let h = both_empty (variables t) (flat_map variables ts) g in
    ap (λ vs. vs ++ flat_map variables (map (apply s) ts)) (none_after s t h.0) ∙ none_after_all s ts h.1

pub ground_canonical : (t : Tuple) → variables_of_tuple t ≡ [] → variables_of_tuple (canonical_tuple t) ≡ []
ground_canonical t g =
    let s = λ (v : ℕ). variable (place_of (by_appearance (variables_of_tuple t)) v) in
    let h = both_empty (variables t.head) (flat_map variables t.body) g in
    ap (λ vs. vs ++ flat_map variables (map (apply s) t.body)) (none_after s t.head h.0) ∙ none_after_all s t.body h.1

pub ground_head : (t : Tuple) → IsGround t.head → IsGround (canonical_tuple t).head
ground_head t g = none_after (λ v. variable (place_of (by_appearance (variables_of_tuple t)) v)) t.head g
