-- Terms without variables.
use Rattle.std.proofs.Common.{◌≡◌, ℕ, List, [], ◌∷◌, inl, inr, refl, sym, subst, ◌∙◌}
use Rattle.std.specs.List.{AllByRecursion, flat_map}
use Rattle.apd_term.specs.Term.{Term, variable, apply, variables, IsGround, IsAmong, Occurs}
use Rattle.apd_term.specs.Canonical.{canonical, by_appearance, place_of}
use Rattle.apd_term.proofs.Applying.{apply-variable, variables-apply}
use Rattle.apd_term.proofs.Variants.{apply-agree}

-- no substitution changes one
pub apply-ground : (s : ℕ → Term) (t : Term) → IsGround t → apply s t ≡ t
apply-ground s t g = apply-agree s variable t (λ v o. absurd (subst (λ vs. IsAmong vs v) g o)) ∙ apply-variable t

-- it is its own canonical form
pub canonical-ground : (t : Term) → IsGround t → t ≡ canonical t
canonical-ground t g = sym (apply-ground (λ v. variable (place_of (by_appearance (variables t)) v)) t g)

flat_map_none : (f : ℕ → List ℕ) (vs : List ℕ) → ((v : ℕ) → IsAmong vs v → f v ≡ []) → flat_map f vs ≡ []
flat_map_none f [] h = refl
flat_map_none f (v ∷ vs) h = rw (h v (inl refl), flat_map_none f vs (λ w o. h w (inr o))) refl

-- ground terms for all of a term's variables make it ground
pub IsGround-apply : (s : ℕ → Term) (t : Term) → ((v : ℕ) → Occurs v t → IsGround (s v)) → IsGround (apply s t)
IsGround-apply s t h = variables-apply s t ∙ flat_map_none (λ v. variables (s v)) (variables t) h

-- in a list of ground terms no variable stands
pub ground_list : (ts : List Term) → AllByRecursion IsGround ts → flat_map variables ts ≡ []
ground_list [] h = refl
ground_list (t ∷ ts) h = rw (h.0, ground_list ts h.1) refl
