-- Terms in a list, written out or shared.
use Rattle.std.specs.Prelude.{◌≡◌, ◌⊎◌, ◌+◌, ◌<◌, ◌≤◌, ◌^◌, List, [], ◌∷◌, ◌++◌, length, map, take, drop, All}
use Rattle.apd_term.specs.declared.term.Sym.{Sym}
use Rattle.apd_term.specs.Term.{Term, term_of, IsWhole}
use Rattle.apd_intern.specs.declared.term_list.TermSpot.{TermSpot}
use Rattle.apd_intern.specs.declared.term_list.TermSpot.TheVariants.{Written, Shared}
use Rattle.apd_intern.specs.Nodes.{term_at}

-- the term that is kept at a spot
abbrev pub kept_at : List Sym → List Term → TermSpot → Term
kept_at symbols shared (Written from n) = term_of (take n (drop from symbols))
kept_at symbols shared (Shared p) = term_at shared p

-- a whole term is kept there
abbrev pub IsKept : List Sym → List Term → TermSpot → Type 0
IsKept symbols shared (Written from n) =
    (from + n ≤ length symbols) × IsWhole (take n (drop from symbols))
IsKept symbols shared (Shared p) = p < length shared

-- this term is kept there
abbrev pub Keeps : List Sym → List Term → TermSpot → Term → Type 0
Keeps symbols shared spot t = IsKept symbols shared spot × (kept_at symbols shared spot ≡ t)

-- the terms that are kept at these spots
abbrev pub listed : List Sym → List Term → List TermSpot → List Term
listed symbols shared spots = map (kept_at symbols shared) spots

pub record AreListed (symbols : List Sym) (shared : List Term) (spots : List TermSpot) : Type 0 where
  pub kept : All (IsKept symbols shared) spots
  pub few : length spots < 2 ^ 32

-- new is old, or has this term at its end too
abbrev pub MayAdd : Term → List Term → List Term → Type 0
MayAdd t old new = (new ≡ old) ⊎ (new ≡ old ++ t ∷ [])
