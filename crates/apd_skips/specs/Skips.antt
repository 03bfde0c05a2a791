-- Terms in prefix order with skips (flatterms; Christian, Flatterms, discrimination nets, and fast term rewriting, 1993): for each
-- place the end of the subterm that begins there, and a place of an equal one, which stands for it.
use Rattle.std.specs.Prelude.{ℕ, ◌≡◌, ◌+◌, ◌<◌, ◌≤◌, List, Some, drop, length, map, nat_eq, slice_get, take}
use Rattle.std.specs.declared.hash.FoldHasher.{FoldHasher}
use Rattle.std.specs.declared.hash.BuildHasherDefault.{BuildHasherDefault}
use Rattle.indexmap.specs.IndexMap.{get, IndexMap}
use Rattle.apd_term.specs.Term.{Term, first_of, read_all, size, size_all, terms_of}
use Rattle.apd_term.specs.declared.term.Sym.{Sym}
use Rattle.apd_skips.specs.declared.skips.Skip.{Skip}

-- the places where the terms of variables begin that were met so far
abbrev pub Firsts : Type 0
Firsts = IndexMap ℕ ℕ (BuildHasherDefault FoldHasher)

-- the subterm that begins at a place of the symbols
abbrev pub subterm_at : List Sym → ℕ → Term
subterm_at symbols place = first_of (read_all (drop place symbols))

-- the place behind its last symbol
abbrev pub end_of : List Sym → ℕ → ℕ
end_of symbols place = place + size (subterm_at symbols place)

-- of the terms that begin at a place one after another, so many
abbrev pub terms_from : List Sym → ℕ → ℕ → List Term
terms_from symbols place count = take count (read_all (drop place symbols))

-- the place behind their last symbol
abbrev pub end_behind : List Sym → ℕ → ℕ → ℕ
end_behind symbols place count = place + size_all (terms_of (terms_from symbols place count))

-- the skip is that of the subterm at the place
pub record IsSkip (symbols : List Sym) (place : ℕ) (skip : Skip) : Type 0 where
  pub ends : skip.end ≡ end_of symbols place
  pub equals : subterm_at symbols skip.equal ≡ subterm_at symbols place

-- those of the places from one on are right
abbrev pub AreSkipsFrom : List Sym → List Skip → ℕ → Type 0
AreSkipsFrom symbols skips from = (i : ℕ) (s : Skip) → from ≤ i → slice_get skips i ≡ Some s → IsSkip symbols i s

-- each symbol has its skip
abbrev pub HasSkips : List Sym → List Skip → Type 0
HasSkips symbols skips = (length skips ≡ length symbols) × AreSkipsFrom symbols skips 0

-- Matching onto a term with skips: for each variable the place where its term begins.

-- the substitution that it is
abbrev pub placed : List Sym → Firsts → List (ℕ × Term)
placed symbols firsts = map (λ (e : ℕ × ℕ). (e.0, subterm_at symbols e.1)) firsts.entries

-- all are places of the symbols
abbrev pub AreWithin : Firsts → ℕ → Type 0
AreWithin firsts n = (v p : ℕ) → get nat_eq firsts v ≡ Some p → p < n
