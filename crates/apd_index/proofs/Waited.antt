-- Atoms that waited are noted one after another.
use Rattle.std.proofs.Common.{◌≡◌, ◌<◌, ◌+◌, ◌++◌, inl, inr, ℕ, Bool, List, [], ◌∷◌, length, take, get_or, Some, sym, ap, ◌∙◌, subst}
use Rattle.std.specs.Prelude.{IsTrue, slice_get}
use Rattle.std.proofs.lemmas.List.{take_more}
use Rattle.apd_term.specs.Term.{IsAmong, Term}
use Rattle.apd_term.proofs.Among.{IsAmong-append}
use Rattle.apd_index.specs.Columns.{HasColumns}
use Rattle.apd_index.specs.Retrieval.{AreNoted, IsNoted}
use Rattle.apd_index.specs.Table.{Grows}
use Rattle.apd_index.specs.declared.walk.Table.{Table}
use Rattle.apd_index.proofs.Retrieval.{noted-kept}

-- what columns had is right still
abbrev pub KeepsRight : List Term → Table → Table → Type 0
KeepsRight xs old new = HasColumns xs old.nodes old.columns → HasColumns xs new.nodes new.columns

-- so many of the places are noted
pub record AreSo (xs : List Term) (places : List ℕ) (i : ℕ) (old new : Table) (are_right : Bool) : Type 0 where
  pub grows : Grows old new
  pub noted : AreNoted xs new (take i places)
  pub columns : IsTrue are_right → KeepsRight xs old new

pub noted-more : (xs : List Term) (places : List ℕ) (i place : ℕ) (table further : Table) → i < length places → place ≡ get_or places i 0 → Grows table further
    → AreNoted xs table (take i places) → ((x : Term) → slice_get xs place ≡ Some x → IsNoted further place x) → AreNoted xs further (take (i + 1) places)
noted-more xs places i place table further l is grows before now k x a e =
    let split : take (i + 1) places ≡ take i places ++ place ∷ [] = take_more places i 0 l ∙ ap (λ (p : ℕ). take i places ++ p ∷ []) (sym is) in
    elim (IsAmong-append (take i places) (place ∷ []) k (subst (λ (ks : List ℕ). IsAmong ks k) split a)) [
      | inl old ↦ noted-kept table further k x grows.kept grows.founders grows.large (before k x old e)
      | inr last ↦ elim last [
        | inl same ↦ subst (λ (p : ℕ). IsNoted further p x) same (now x (ap (slice_get xs) same ∙ e))
        | inr none ↦ absurd none
      ]
    ]
