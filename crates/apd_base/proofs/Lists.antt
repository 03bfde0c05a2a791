-- Lists that grow: what stands in them.
use Rattle.std.proofs.Common.{◌≡◌, ◌⊎◌, ℕ, zero, suc, List, [], ◌∷◌, ◌++◌, length, Some, refl, ap, inl, inr}
use Rattle.std.specs.Prelude.{slice_get}

pub slice_get-front : {X : Type 0} (xs more : List X) (k : ℕ) (x : X) → slice_get xs k ≡ Some x → slice_get (xs ++ more) k ≡ Some x
slice_get-front [] more k x h = cc
slice_get-front (y ∷ xs) more zero x h = h
slice_get-front (y ∷ xs) more (suc k) x h = slice_get-front xs more k x h

pub slice_get-last : {X : Type 0} (xs : List X) (y : X) → slice_get (xs ++ y ∷ []) (length xs) ≡ Some y
slice_get-last [] y = refl
slice_get-last (x ∷ xs) y = slice_get-last xs y

-- an element of a list with one more: an old one, or the new one
pub slice_get-push : {X : Type 0} (xs : List X) (y : X) (k : ℕ) (z : X) → slice_get (xs ++ y ∷ []) k ≡ Some z → (slice_get xs k ≡ Some z) ⊎ ((k ≡ length xs) × (y ≡ z))
slice_get-push [] y zero z h = inr (refl, cc)
slice_get-push [] y (suc k) z h = cc
slice_get-push (x ∷ xs) y zero z h = inl h
slice_get-push (x ∷ xs) y (suc k) z h =
    elim (slice_get-push xs y k z h) [ inl e ↦ inl e | inr e ↦ inr (ap suc e.0, e.1) ]
