-- The value of a store: its cells, how many variables it has, and what was done to it.
use Rattle.std.specs.Prelude.{◌≡◌, ℕ, ◌⊎◌, List, [], ◌∷◌, map, refl}
use Rattle.std.specs.Coded.{Coded, code_by, coded_list, coded×, coded⊎, coded_ℕ, coded_ℤ}
use Rattle.std.proofs.Common.{ap, inl, inr, ℤ}
use Rattle.apd_term.specs.declared.term.Sym.{Sym}
use Rattle.apd_term.specs.Spelling.{parts, whole, map-whole-parts}
use Rattle.apd_cells.specs.declared.heap.TrailNote.{TrailNote}
use Rattle.apd_cells.specs.declared.heap.TrailNote.TheVariants.{Loaded, Bound}

-- the symbols of all terms that were loaded, one after another, each term in prefix order; a number above all their
-- variables; and the trail, the newest note first
pub record Stored : Type 0 where
  pub cells : List Sym
  pub variables : ℕ
  pub trail : List TrailNote

-- a note as one of two pairs
abbrev pub note_parts : TrailNote → (ℕ × ℕ) ⊎ (ℕ × ℕ)
note_parts (Loaded c n) = inl (c, n)
note_parts (Bound v c) = inr (v, c)

abbrev pub note_whole : (ℕ × ℕ) ⊎ (ℕ × ℕ) → TrailNote
note_whole (inl p) = Loaded p.0 p.1
note_whole (inr p) = Bound p.0 p.1

pub map-note_whole : (xs : List TrailNote) → map note_whole (map note_parts xs) ≡ xs
map-note_whole [] = refl
map-note_whole (Loaded c n ∷ xs) = ap (λ r. Loaded c n ∷ r) (map-note_whole xs)
map-note_whole (Bound v c ∷ xs) = ap (λ r. Bound v c ∷ r) (map-note_whole xs)

-- a store is kept as the triple of its parts
abbrev pub stored_code : Coded Stored
stored_code =
    code_by
    (List (ℕ ⊎ (ℤ ⊎ (ℕ × ℕ))) × (ℕ × List ((ℕ × ℕ) ⊎ (ℕ × ℕ))))
    (coded× (coded_list (coded⊎ coded_ℕ (coded⊎ coded_ℤ (coded× coded_ℕ coded_ℕ))))
    (coded× coded_ℕ (coded_list (coded⊎ (coded× coded_ℕ coded_ℕ) (coded× coded_ℕ coded_ℕ)))))
    (λ s. (map parts s.cells, (s.variables, map note_parts s.trail)))
    (λ p. record { cells = map whole p.0; variables = p.1.0; trail = map note_whole p.1.1 })
    (λ s. rw (map-whole-parts s.cells, map-note_whole s.trail) refl)
