-- Places of chains, and rows with their bits.
use Rattle.std.proofs.Common.{◌≡◌, ◌⊎◌, inl, inr, ℕ, ◌-◌, ◌<◌, ◌≤◌, List, [], ◌∷◌, length, map, reverse, get_or, sym, ap, ◌∙◌, subst, arith}
use Rattle.apd_term.specs.Term.{IsAmong}
use Rattle.apd_index.specs.Nodes.{HasLinks, HasRow, KeepBits, places}
use Rattle.apd_bits.specs.Rows.{HasBit, HasBits, IsWithin}
use Rattle.apd_index.specs.declared.nodes.PlaceLink.{PlaceLink}
use Rattle.apd_index.proofs.Chains.{chain-at, chain-none}

abbrev pub earlier : PlaceLink → ℕ
earlier l = l.before

abbrev pub place_of : PlaceLink → ℕ
place_of l = l.place

pub places-none : (links : List PlaceLink) → places links 0 ≡ []
places-none links = ap (map place_of) (chain-none earlier (reverse links))

pub places-at : (links : List PlaceLink) (last : ℕ) (d : PlaceLink) → HasLinks links → 0 < last → last ≤ length links → places links last ≡ (get_or links (last - 1) d).place ∷ places links (get_or links (last - 1) d).before
places-at links last d falling some within = ap (map place_of) (chain-at earlier d links last falling some within)

-- The loop that sets the bits of a chain.

-- what isn't set is still ahead
abbrev pub AreSet : List PlaceLink → List ℕ → ℕ → ℕ → Type 0
AreSet links row last at = (k : ℕ) → IsAmong (places links last) k → HasBit row k ⊎ IsAmong (places links at) k

module _ (links : List PlaceLink) (last : ℕ) where
  pub set-goes : (row new : List ℕ) (at : ℕ) (d l : PlaceLink) → HasLinks links → 0 < at → at ≤ length links → l ≡ get_or links (at - 1) d → IsWithin row new → HasBit new l.place → AreSet links row last at → AreSet links new last l.before
  set-goes row new at d l falling some within is kept here so_far k a = elim (so_far k a) [
    | inl b ↦ inl (kept k b)
    | inr r ↦ elim (subst (λ (ps : List ℕ). IsAmong ps k) (places-at links at d falling some within ∙ ap (λ (x : PlaceLink). x.place ∷ places links x.before) (sym is)) r) [
      | inl e ↦ inl (subst (HasBit new) e here)
      | inr later ↦ inr later
    ]
  ]

  pub set-all : (row : List ℕ) (at : ℕ) → at ≡ 0 → AreSet links row last at → HasBits row (places links last)
  set-all row at done so_far k a = elim (so_far k a) [
    | inl b ↦ b
    | inr r ↦ absurd (subst (λ (ps : List ℕ). IsAmong ps k) (ap (places links) done ∙ places-none links) r)
  ]

-- Rows.

pub row-still : (rows new : List (List ℕ)) (number : ℕ) (ps : List ℕ) → KeepBits rows new → HasRow rows number ps → HasRow new number ps
row-still rows new number ps kept h = (let l = kept.0 in let g = h.0 in omega (arith, l, g), λ some k a. kept.1 (number - 1) k (h.1 some k a))
