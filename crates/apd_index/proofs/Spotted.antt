-- Spots of an atom, and the places that they leave.
use Rattle.std.proofs.Common.{◌≡◌, ◌⊎◌, inl, inr, ℕ, zero, suc, ◌++◌, List, [], ◌∷◌, Option, None, Some, sym, subst}
use Rattle.std.specs.Prelude.{IfSome, slice_get}
use Rattle.apd_term.specs.Term.{IsAmong, Term}
use Rattle.apd_term.specs.declared.term.Sym.{Sym}
use Rattle.apd_term.specs.declared.term.Sym.TheVariants.{Var, Int, Fun}
use Rattle.apd_marks.specs.Positions.{noted}
use Rattle.apd_marks.specs.declared.positions.Parent.{Parent}
use Rattle.apd_index.specs.Spots.{AreSpots, Leaves, IsSpot, StandsIn}
use Rattle.apd_index.specs.Subterms.{root}
use Rattle.apd_index.specs.declared.nodes.Nodes.{Nodes}
use Rattle.apd_index.specs.declared.sharing.SymbolSpot.{SymbolSpot}

stands-last : (spots : List SymbolSpot) (s t : SymbolSpot) → StandsIn (spots ++ s ∷ []) t → StandsIn spots t ⊎ (s ≡ t)
stands-last [] s t (zero, e) = inr (cc)
stands-last [] s t (suc i, e) = absurd (cc)
stands-last (x ∷ spots) s t (zero, e) = inl (zero, e)
stands-last (x ∷ spots) s t (suc i, e) = elim (stands-last spots s t (i, e)) [ inl h ↦ inl (suc h.0, h.1) | inr h ↦ inr h ]

pub spots-more : (a : Term) (old new : List SymbolSpot) (s : SymbolSpot) → new ≡ old ++ s ∷ [] → IsSpot a s → AreSpots a old → AreSpots a new
spots-more a old new s is here so_far t h = elim (stands-last old s t (subst (λ (ss : List SymbolSpot). StandsIn ss t) is h)) [
  | inl before ↦ so_far t before
  | inr same ↦ subst (IsSpot a) same here
]

-- the mark of a symbol is noted for it
pub marked : (p : Parent) (x : Sym) (m : ℕ) (t : Term) → root t ≡ x → slice_get (noted p x) 0 ≡ Some m → IsAmong (noted p (root t)) m
marked p x m t is e = subst (λ (y : Sym). IsAmong (noted p y) m) (sym is) (by x e)
  where
    by : (y : Sym) → slice_get (noted p y) 0 ≡ Some m → IsAmong (noted p y) m
    by (Var v) h = absurd (cc)
    by (Int i) h = inl (cc)
    by (Fun f n) h = inl (cc)

pub some-leaves : (o : Option SymbolSpot) (nodes : Nodes) (k : ℕ) {P : SymbolSpot → Type 0} → ((s : SymbolSpot) → P s → Leaves nodes k s) → IfSome o P → IfSome o (Leaves nodes k)
some-leaves None nodes k f h = tt
some-leaves (Some s) nodes k f h = f s h
