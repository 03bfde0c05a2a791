-- A store as its parts are read.
use Rattle.std.proofs.Common.{◌≡◌, ℕ, List}
use Rattle.std.proofs.lemmas.List.{reverse-reverse}
use Rattle.std.specs.Prelude.{reverse}
use Rattle.apd_term.specs.declared.term.Sym.{Sym}
use Rattle.apd_cells.specs.declared.heap.TrailNote.{TrailNote}
use Rattle.apd_cells.specs.Stored.{Stored}

abbrev store_with : List Sym → ℕ → List TrailNote → Stored
store_with cells n trail = record { cells = cells; variables = n; trail = trail }

pub parts_are : (cells xs : List Sym) (n k : ℕ) (trail notes : List TrailNote) (s : Stored) → xs ≡ cells → k ≡ n → notes ≡ reverse trail → store_with cells n trail ≡ s
    → store_with xs k (reverse notes) ≡ s
parts_are cells xs n k trail notes s xe ke ne view = rw (xe, ke, ne, reverse-reverse trail) view
