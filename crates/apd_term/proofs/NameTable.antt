-- What a set of stored texts says of the names that they are.
use Rattle.std.proofs.Common.{◌≡◌, ℕ, ◌+◌, ◌<◌, Bool, true, false, cond, not, List, [], ◌∷◌, ◌++◌, length, map, Some, None, if◌then◌else◌, refl, ap, sym, ◌∙◌, ltb, ◌||◌, position, drop, get_or}
use Rattle.std.specs.List.{list_any, position_or_len, IsDistinct, AllByRecursion, fold}
use Rattle.std.proofs.lemmas.List.{map-append, drop_more}
use Rattle.indexmap.specs.IndexSet.{insert_key}
use Rattle.apd_term.specs.Names.{same_text, is_name, number_of, with_name, HasDistinctTexts}

module _ {X : Type 0} (f : X → List ℕ) where
  pub is_name-map : (ks : List X) (text : List ℕ) → is_name (map f ks) text ≡ list_any (λ k. same_text text (f k)) ks
  is_name-map [] text = refl
  is_name-map (k ∷ ks) text = ap (λ b. same_text text (f k) || b) (is_name-map ks text)

  pub number_of-map : (ks : List X) (text : List ℕ) → number_of (map f ks) text ≡ position_or_len (λ k. same_text text (f k)) ks
  number_of-map [] text = refl
  number_of-map (k ∷ ks) text = ap (λ n. cond (not (same_text text (f k))) (1 + n) 0) (number_of-map ks text)

  -- a text that was found at a place is a name with that number
  pub found_name : (ks : List X) (text : List ℕ) → true ≡ list_any (λ k. same_text text (f k)) ks → map f ks ≡ with_name (map f ks) text
  found_name ks text e = ap (λ b. if b then map f ks else map f ks ++ text ∷ []) (e ∙ sym (is_name-map ks text))

  pub found_number : (ks : List X) (text : List ℕ) (i : ℕ) → Some i ≡ position (λ k. same_text text (f k)) ks → i ≡ number_of (map f ks) text
  found_number ks text i e = by (ltb (position_or_len (λ k. same_text text (f k)) ks) (length ks)) e ∙ sym (number_of-map ks text)
    where
      by : (b : Bool) → Some i ≡ cond b (Some (position_or_len (λ k. same_text text (f k)) ks)) None → i ≡ position_or_len (λ k. same_text text (f k)) ks
      by true e = cc
      by false e = cc

  -- a text that is put in
  pub inserted_name : (ks : List X) (k : X) (text : List ℕ) → f k ≡ text → map f (insert_key (λ a b. same_text (f a) (f b)) ks k) ≡ with_name (map f ks) text
  inserted_name ks k text e = by (list_any (λ b. same_text (f k) (f b)) ks) refl
    where
      to : is_name (map f ks) text ≡ list_any (λ b. same_text (f k) (f b)) ks
      to = is_name-map ks text ∙ ap (λ t. list_any (λ b. same_text t (f b)) ks) (sym e)

      by : (b : Bool) → list_any (λ b. same_text (f k) (f b)) ks ≡ b → map f (if b then ks else ks ++ k ∷ []) ≡ with_name (map f ks) text
      by true h = ap (λ b. if b then map f ks else map f ks ++ text ∷ []) (sym (to ∙ h))
      by false h = map-append f ks (k ∷ []) ∙ ap (λ t. map f ks ++ t ∷ []) e ∙ ap (λ b. if b then map f ks else map f ks ++ text ∷ []) (sym (to ∙ h))

  apart_map : (ks : List X) (k : X) → AllByRecursion (λ m. same_text (f k) (f m) ≡ false) ks → AllByRecursion (λ m. same_text (f k) m ≡ false) (map f ks)
  apart_map [] k h = tt
  apart_map (m ∷ ks) k h = (h.0, apart_map ks k h.1)

  pub distinct_texts : (ks : List X) → IsDistinct (λ a b. same_text (f a) (f b)) ks → HasDistinctTexts (map f ks)
  unfolding IsDistinct
  distinct_texts [] h = tt
  distinct_texts (k ∷ ks) h = (apart_map ks k h.0, distinct_texts ks h.1)

  -- one more of some texts that are put in one after another
  pub next_text : (names : List (List ℕ)) (items : List X) (i : ℕ) (d : X) (text : List ℕ) → i < length items → text ≡ f (get_or items i d)
      → fold with_name (with_name names text) (map f (drop (i + 1) items)) ≡ fold with_name names (map f (drop i items))
  next_text names items i d text l e =
      ap (λ t. fold with_name (with_name names t) (map f (drop (i + 1) items))) e ∙ ap (λ ts. fold with_name names (map f ts)) (sym (drop_more items i d l))
