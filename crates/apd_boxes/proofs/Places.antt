-- Lists of which one element is edited.
use Rattle.std.proofs.Common.{◌≡◌, ◌≢◌, ◌⊎◌, ℕ, zero, suc, ◌<◌, List, [], ◌∷◌, length, get_or, set, refl, ap, ◌∙◌, arith, Some, inl, inr}
use Rattle.std.specs.Prelude.{slice_get}
use Rattle.apd_boxes.specs.Owned.{edited}

pub length-edited : {X : Type 0} (f : X → X) (xs : List X) (i : ℕ) → length (edited f xs i) ≡ length xs
length-edited f [] i = refl
length-edited f (x ∷ xs) zero = refl
length-edited f (x ∷ xs) (suc i) = ap suc (length-edited f xs i)

-- an element of an edited list: the edited one, or another that stays
pub slice_get-edited : {X : Type 0} (f : X → X) (xs : List X) (i k : ℕ) (z : X) → slice_get (edited f xs i) k ≡ Some z → ((k ≡ i) × ((y : X) × (slice_get xs k ≡ Some y) × (f y ≡ z))) ⊎ ((k ≢ i) × (slice_get xs k ≡ Some z))
slice_get-edited f [] i k z h = cc
slice_get-edited f (x ∷ xs) zero zero z h = inl (refl, (x, refl, cc))
slice_get-edited f (x ∷ xs) zero (suc k) z h = inr ((λ e. omega (arith, e)), h)
slice_get-edited f (x ∷ xs) (suc i) zero z h = inr ((λ e. omega (arith, e)), h)
slice_get-edited f (x ∷ xs) (suc i) (suc k) z h =
    elim (slice_get-edited f xs i k z h) [ inl e ↦ inl (ap suc e.0, e.1) | inr e ↦ inr ((λ q. e.0 (omega (arith, q))), e.1) ]

-- what a write of one element makes
pub edited_as-set : {X : Type 0} (f : X → X) (xs : List X) (i : ℕ) (d : X) → i < length xs → set xs i (f (get_or xs i d)) ≡ edited f xs i
edited_as-set f [] zero d h = refl
edited_as-set f [] (suc i) d h = refl
edited_as-set f (x ∷ xs) zero d h = refl
edited_as-set f (x ∷ xs) (suc i) d h = ap (λ r. x ∷ r) (edited_as-set f xs i d (omega (arith, h)))

pub edited_read : {X : Type 0} (f : X → X) (xs : List X) (i : ℕ) (d : X) → i < length xs → d ≡ get_or xs i d → set xs i (f d) ≡ edited f xs i
edited_read f xs i d h e = ap (λ x. set xs i (f x)) e ∙ edited_as-set f xs i d h
