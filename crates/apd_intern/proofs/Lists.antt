-- Lists that grow, and what stands in them once.
use Rattle.std.proofs.Common.{◌≡◌, ◌≢◌, ℕ, ◌<◌, Bool, true, false, List, [], ◌∷◌, ◌++◌, length, get_or, Some, refl, ap, sym, subst, ◌∙◌, inl, inr, if◌then◌else◌, append-nil, true≢false}
use Rattle.std.specs.Prelude.{slice_get}
use Rattle.std.specs.Bool.{Decides}
use Rattle.std.specs.List.{list_any}
use Rattle.std.proofs.lemmas.List.Folds.{list_any_at}
use Rattle.std.proofs.lemmas.Option.{slice_get_within, slice_get-get_or, get_or_from_slice_get}
use Rattle.apd_base.proofs.Lists.{slice_get-push}
use Rattle.indexmap.specs.IndexSet.{insert_key}
use Rattle.apd_intern.specs.Nodes.{AreDistinct, Adds, IsFrontOf}

pub distinct_push : {X : Type 0} (xs : List X) (y : X) → AreDistinct xs → ((k : ℕ) → slice_get xs k ≢ Some y) → AreDistinct (xs ++ y ∷ [])
distinct_push xs y d n i j x a b =
    elim (slice_get-push xs y i x a) [
      | inl e ↦ elim (slice_get-push xs y j x b) [ inl f ↦ d i j x e f | inr f ↦ absurd (n i (e ∙ ap Some (sym f.1))) ]
      | inr e ↦ elim (slice_get-push xs y j x b) [ inl f ↦ absurd (n j (f ∙ ap Some (sym e.1))) | inr f ↦ e.0 ∙ sym f.0 ]
    ]

pub adds_distinct : {X : Type 0} (xs : List X) (x : X) (ys : List X) → Adds xs x ys → AreDistinct xs → AreDistinct ys
adds_distinct xs x ys a d =
    elim a [ inl e ↦ subst AreDistinct (sym e) d | inr e ↦ subst AreDistinct (sym e.0) (distinct_push xs x d e.1) ]

pub adds_front : {X : Type 0} (xs : List X) (x : X) (ys : List X) → Adds xs x ys → IsFrontOf xs ys
adds_front xs x ys a = elim a [ inl e ↦ ([], append-nil xs ∙ sym e) | inr e ↦ (x ∷ [], sym e.0) ]

pub distinct_at : {X : Type 0} (xs : List X) (d : X) (i j : ℕ) → AreDistinct xs → i < length xs → j < length xs → get_or xs i d ≡ get_or xs j d → i ≡ j
distinct_at xs d i j h l m e = h i j (get_or xs i d) (slice_get-get_or xs i d l) (slice_get-get_or xs j d m ∙ ap Some (sym e))

-- what an insertion makes of a set's keys
module _ {X : Type 0} (E : X → X → Bool) (same : (a b : X) → Decides (E a b) (a ≡ b)) where
  absent : (ks : List X) (k : X) (i : ℕ) → list_any (E k) ks ≡ false → slice_get ks i ≡ Some k → ⊥
  absent ks k i none h =
      let at : get_or ks i k ≡ k = get_or_from_slice_get ks i k k h in
      true≢false (sym (list_any_at (E k) ks i k (slice_get_within ks i k h) ((same k (get_or ks i k)).1 (sym at))) ∙ none)

  pub inserted : (ks : List X) (k : X) → Adds ks k (insert_key E ks k)
  inserted ks k = by (list_any (E k) ks) refl
    where
      by : (b : Bool) → list_any (E k) ks ≡ b → Adds ks k (if b then ks else ks ++ k ∷ [])
      by true e = inl refl
      by false e = inr (refl, λ i h. absent ks k i e h)
