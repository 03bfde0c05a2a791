-- Why what is done with one equation is right.
use Rattle.std.proofs.Common.{◌≡◌, ◌≢◌, inl, inr, ℕ, ◌+◌, ◌<◌, [], ◌∷◌, length, get_or, refl, sym, ◌∙◌, ap, subst, arith}
use Rattle.apd_term.specs.declared.term.Sym.{Sym}
use Rattle.apd_term.specs.declared.term.Sym.TheVariants.{Var}
use Rattle.apd_term.specs.Term.{variable, apply, spell, arity_of, Occurs}
use Rattle.apd_unify.specs.Unifier.{HasNoUnifier}
use Rattle.apd_unify.proofs.Steps.{cycle}
use Rattle.apd_cells.specs.Stored.{Stored}
use Rattle.apd_cells.specs.Store.{meaning, term_at, bound, MayBind, IsStore, IsEnd}
use Rattle.apd_cells.specs.Work.{run_symbols}
use Rattle.apd_unify.specs.Unifying.{HasEliminated}
use Rattle.apd_cells.proofs.Meaning.{meaning-free}
use Rattle.apd_cells.proofs.Following.{written-variable, variable-below}
use Rattle.apd_cells.proofs.Ending.{spell_end}
use Rattle.apd_cells.specs.First.{IsFixed}
use Rattle.apd_cells.proofs.Keys.{first_symbol-end}
use Rattle.apd_unify.proofs.Beginning.{apart_first}

pub variable_end : (s : Stored) (c v : ℕ) → c < length s.cells → IsEnd s c → get_or s.cells c (Var 0) ≡ Var v → term_at s c ≡ variable v
variable_end s c v l e is = ap (apply (meaning s.cells s.trail)) (written-variable s.cells c v l is) ∙ meaning-free s.cells s.trail v (e v is)

pub not_variable_end : (s : Stored) (c : ℕ) → IsStore s.cells s.variables s.trail → c < length s.cells
    → ((w : ℕ) → ¬ (get_or s.cells c (Var 0) ≡ Var w)) → (v : ℕ) → term_at s c ≢ variable v
not_variable_end s c h l n v e =
    let k : get_or s.cells c (Var 0) ∷ run_symbols s (c + 1) (arity_of (get_or s.cells c (Var 0))) ≡ Var v ∷ [] =
    sym (spell_end s c h l (λ w is. absurd (n w is))) ∙ ap spell e in
    let g : get_or s.cells c (Var 0) ≡ Var v = cc in
    n v g

-- a variable of a cell may be bound to a term that it doesn't stand in
pub may_bind : (s : Stored) (v at to : ℕ) → IsStore s.cells s.variables s.trail → at < length s.cells → to < length s.cells
    → get_or s.cells at (Var 0) ≡ Var v → IsEnd s at → ¬ Occurs v (term_at s to)
    → ((w : ℕ) → get_or s.cells to (Var 0) ≡ Var w → w < v) → MayBind s.cells s.variables s.trail v to
may_bind s v at to h l m is e n d = record {
  inside = m;
  below = variable-below s.cells s.variables s.trail at v h l is;
  free = e v is;
  acyclic = n;
  down = d;
}

pub other_variable : (s : Stored) (v w c : ℕ) → c < length s.cells → IsEnd s c → get_or s.cells c (Var 0) ≡ Var w → w ≢ v → ¬ Occurs v (term_at s c)
other_variable s v w c l e is n o = differ (subst (Occurs v) (variable_end s c w l e is) o)
  where
    differ : Occurs v (variable w) → ⊥
    differ (inl q) = n q
    differ (inr b) = b

-- the greater of two variables is bound to the other's cell
pub may_bind_down : (s : Stored) (v w at to : ℕ) → IsStore s.cells s.variables s.trail → at < length s.cells → to < length s.cells
    → get_or s.cells at (Var 0) ≡ Var v → get_or s.cells to (Var 0) ≡ Var w → IsEnd s at → IsEnd s to → w < v → MayBind s.cells s.variables s.trail v to
may_bind_down s v w at to h l m is it e f d =
    may_bind s v at to h l m is e (other_variable s v w to m f it (λ q. omega arith)) (λ x g. down x (sym it ∙ g))
  where
    down : (x : ℕ) → Var w ≡ Var x → x < v
    down x g = let q : w ≡ x = cc in omega arith

-- the greater of two variables was bound
pub bound_left : (s new : Stored) (v w at to : ℕ) → at < length s.cells → to < length s.cells
    → get_or s.cells at (Var 0) ≡ Var v → get_or s.cells to (Var 0) ≡ Var w → IsEnd s at → IsEnd s to → w < v → new ≡ bound s v to → HasEliminated s new at to
bound_left s new v w at to l m is it e f d b = record {
  v = v;
  to = to;
  elimination = record { sides = inl (variable_end s at v l e is, refl); acyclic = other_variable s v w to m f it (λ q. omega arith) };
  is = b;
}

pub eliminated_swapped : (s new : Stored) (a b : ℕ) → HasEliminated s new a b → HasEliminated s new b a
eliminated_swapped s new a b h = record {
  v = h.v;
  to = h.to;
  elimination = record {
    sides = elim h.elimination.sides [ inl p ↦ inr p | inr p ↦ inl p ];
    acyclic = h.elimination.acyclic;
  };
  is = h.is;
}

-- a variable was bound to a term that it doesn't stand in
pub bound_to_term : (s new : Stored) (v at to : ℕ) → at < length s.cells → get_or s.cells at (Var 0) ≡ Var v → IsEnd s at
    → ¬ Occurs v (term_at s to) → new ≡ bound s v to → HasEliminated s new at to
bound_to_term s new v at to l is e n b = record {
  v = v;
  to = to;
  elimination = record { sides = inl (variable_end s at v l e is, refl); acyclic = n };
  is = b;
}

-- a variable that stands in a term that is no variable
pub no_unifier_cycle : (s : Stored) (v at to : ℕ) → IsStore s.cells s.variables s.trail → at < length s.cells → to < length s.cells
    → get_or s.cells at (Var 0) ≡ Var v → IsEnd s at → ((w : ℕ) → ¬ (get_or s.cells to (Var 0) ≡ Var w)) → Occurs v (term_at s to)
    → HasNoUnifier (term_at s at) (term_at s to)
no_unifier_cycle s v at to h l m is e n o u g =
    cycle u v (term_at s to) o (not_variable_end s to h m n v) (sym (ap (apply u) (variable_end s at v l e is)) ∙ g)

-- two cells that lead nowhere with different symbols
pub no_unifier_clash : (s : Stored) (a b : ℕ) (x y : Sym) → IsStore s.cells s.variables s.trail → a < length s.cells → b < length s.cells → IsEnd s a → IsEnd s b
    → x ≡ get_or s.cells a (Var 0) → y ≡ get_or s.cells b (Var 0) → IsFixed x → IsFixed y → x ≢ y → HasNoUnifier (term_at s a) (term_at s b)
no_unifier_clash s a b x y h l m ea eb ex ey nx ny d =
    let p = first_symbol-end s a h l ea ∙ sym ex in
    let q = first_symbol-end s b h m eb ∙ sym ey in
    λ u. apart_first (term_at s a) (term_at s b) (record {
      different = λ e. d (sym p ∙ e ∙ q);
      left = subst IsFixed (sym p) nx;
      right = subst IsFixed (sym q) ny;
    }) u u
