-- A place that is noted for a mark.
use Rattle.std.proofs.Common.{inl, ℕ, ◌++◌, Bool, true, false, [], ◌∷◌, refl, sym, ap, ◌∙◌, subst, eq-eqb}
use Rattle.std.specs.Prelude.{if◌then◌else◌, nat_eq}
use Rattle.apd_term.specs.Term.{IsAmong}
use Rattle.apd_term.proofs.Among.{IsAmong-left, IsAmong-right}
use Rattle.apd_marks.specs.Places.{HaveSamePlaces, Index, Notes, places_at}
use Rattle.apd_index.specs.Retrieval.{AreKeptIn}

module _ (old new : Index) (mark place : ℕ) (h : Notes old mark place new) where
  pub notes-kept : AreKeptIn old new
  notes-kept m k a = subst (λ xs. IsAmong xs k) (sym (h m)) (by (nat_eq mark m))
    where
      by : (b : Bool) → IsAmong (if b then places_at old m ++ place ∷ [] else places_at old m) k
      by true = IsAmong-left (places_at old m) (place ∷ []) k a
      by false = a

  pub notes-one : IsAmong (places_at new mark) place
  notes-one =
      subst (λ xs. IsAmong xs place) (sym (h mark ∙ ap (λ (b : Bool). if b then places_at old mark ++ place ∷ [] else places_at old mark) (eq-eqb mark mark refl)))
      (IsAmong-right (places_at old mark) (place ∷ []) place (inl refl))

pub same-kept : (old new : Index) → HaveSamePlaces old new → AreKeptIn old new
same-kept old new same m k a = subst (λ xs. IsAmong xs k) (sym (same m)) a
