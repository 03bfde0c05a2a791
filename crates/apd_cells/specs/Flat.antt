-- Bindings to terms that have arguments, and how long the terms are that are written. Where there is no such binding, bindings leave
-- the sizes of terms as they are.
use Rattle.std.specs.Prelude.{ℕ, ◌+◌, ◌<◌, ◌≤◌, ◌==◌, List, [], ◌∷◌, length, take, get_or, if◌then◌else◌}
use Rattle.apd_term.specs.declared.term.Sym.{Sym}
use Rattle.apd_term.specs.declared.term.Sym.TheVariants.{Var, Int, Fun}
use Rattle.apd_term.specs.Term.{size}
use Rattle.apd_cells.specs.Store.{written}
use Rattle.apd_cells.specs.declared.heap.TrailNote.{TrailNote}
use Rattle.apd_cells.specs.declared.heap.TrailNote.TheVariants.{Loaded, Bound}

-- 1 where the symbol has arguments
abbrev pub compound_in : Sym → ℕ
compound_in (Var v) = 0
compound_in (Int i) = 0
compound_in (Fun f n) = if n == 0 then 0 else 1

-- how many bindings lead to a term that has arguments
abbrev pub compound_count : List Sym → List TrailNote → ℕ
compound_count cells [] = 0
compound_count cells (Loaded c n ∷ notes) = compound_count (take c cells) notes
compound_count cells (Bound v c ∷ notes) = compound_in (get_or cells c (Var 0)) + compound_count cells notes

-- no term that is written has more than k symbols
abbrev pub AreShort : List Sym → ℕ → Type 0
AreShort cells k = (c : ℕ) → c < length cells → size (written cells c) ≤ k
