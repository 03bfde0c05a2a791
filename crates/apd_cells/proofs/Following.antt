-- Following bindings ends, since each leads to a smaller variable.
use Rattle.std.proofs.Common.{◌≡◌, ℕ, zero, suc, ◌+◌, ◌<◌, List, [], ◌∷◌, length, get_or, refl, sym, ◌∙◌, ap, subst, arith}
use Rattle.std.proofs.lemmas.List.{drop_more}
use Rattle.apd_term.specs.declared.term.Sym.{Sym}
use Rattle.apd_term.specs.declared.term.Sym.TheVariants.{Var, Int, Fun}
use Rattle.apd_term.specs.Term.{variable, apply}
use Rattle.apd_term.proofs.Among.{among_at}
use Rattle.apd_cells.specs.declared.heap.TrailNote.{TrailNote}
use Rattle.apd_cells.specs.declared.heap.Binding.TheVariants.{Free, At}
use Rattle.apd_cells.specs.declared.heap.Binding.{Binding}
use Rattle.apd_cells.specs.Heap.{IsHeap, IsVariable}
use Rattle.apd_cells.specs.Stored.{Stored}
use Rattle.apd_cells.specs.Store.{written, meaning, term_at, binding_of, IsStore}
use Rattle.apd_cells.proofs.Meaning.{HasCells-of, leads_to, meaning-bound}

-- one more than a variable's number
abbrev pub rank : Sym → ℕ
rank (Var v) = v + 1
rank (Int i) = 0
rank (Fun f n) = 0

rank_below : (x : Sym) (v : ℕ) → ((w : ℕ) → x ≡ Var w → w < v) → rank x < v + 1
rank_below (Var w) v h = omega (arith, h w refl)
rank_below (Int i) v h = omega arith
rank_below (Fun f n) v h = omega arith

pub written-variable : (cells : List Sym) (c v : ℕ) → c < length cells → get_or cells c (Var 0) ≡ Var v → written cells c ≡ variable v
written-variable cells c v l e = rw (drop_more cells c (Var 0) l, e) refl

-- a variable in a cell is below the number of variables
pub variable-below : (cells : List Sym) (n : ℕ) (notes : List TrailNote) (c v : ℕ) → IsStore cells n notes → c < length cells
    → get_or cells c (Var 0) ≡ Var v → v < n
variable-below cells n notes c v h l e = (HasCells-of cells n notes h).below v (among_at cells c v (Var 0) l e)

-- one step along a binding
pub record Follows (cells : List Sym) (notes : List TrailNote) (c p : ℕ) : Type 0 where
  pub inside : p < length cells
  pub same : apply (meaning cells notes) (written cells p) ≡ apply (meaning cells notes) (written cells c)
  pub smaller : rank (get_or cells p (Var 0)) < rank (get_or cells c (Var 0))

pub follows : (cells : List Sym) (n : ℕ) (notes : List TrailNote) (c v p : ℕ) → IsStore cells n notes → c < length cells
    → get_or cells c (Var 0) ≡ Var v → binding_of notes v ≡ At p → Follows cells notes c p
follows cells n notes c v p h l e b =
    let k = leads_to cells n notes v p h b in
    record {
      inside = k.inside;
      same = sym (meaning-bound cells n notes v p h b) ∙ ap (apply (meaning cells notes)) (sym (written-variable cells c v l e));
      smaller = subst (λ x. rank (get_or cells p (Var 0)) < rank x) (sym e) (rank_below (get_or cells p (Var 0)) v k.down);
    }

-- a symbol that was read at a cell
pub read_at : {X : Type 0} (xs : List X) (c : ℕ) (x d : X) → c < length xs → x ≡ get_or xs c x → get_or xs c d ≡ x
read_at [] c x d l e = absurd (omega arith)
read_at (y ∷ ys) zero x d l e = sym e
read_at (y ∷ ys) (suc c) x d l e = read_at ys c x d (omega arith) e

-- the view of a heap
abbrev pub viewed : List Sym → List Binding → List TrailNote → Stored
viewed cells bindings notes = record { cells = cells; variables = length bindings; trail = notes }

pub heap_below : (s : Stored) (cells : List Sym) (bindings : List Binding) (notes : List TrailNote) (c v : ℕ) (x : Sym)
    → viewed cells bindings notes ≡ s → IsHeap cells bindings notes → c < length s.cells → x ≡ get_or cells c x → x ≡ Var v → v < length bindings
heap_below s cells bindings notes c v x e h l r is =
    let m : c < length cells = subst (λ (y : Stored). c < length y.cells) (sym e) l in
    variable-below cells (length bindings) notes c v h.kept m (read_at cells c x (Var 0) m r ∙ is)

-- one step along a binding, as the program reads it
pub record HeapFollows (s : Stored) (c p : ℕ) : Type 0 where
  pub inside : p < length s.cells
  pub same : term_at s p ≡ term_at s c
  pub smaller : rank (get_or s.cells p (Var 0)) < rank (get_or s.cells c (Var 0))
  pub start : IsVariable (get_or s.cells c (Var 0))

pub heap_follows : (s : Stored) (cells : List Sym) (bindings : List Binding) (notes : List TrailNote) (c v p : ℕ) (x : Sym) (b : Binding)
    → viewed cells bindings notes ≡ s → IsHeap cells bindings notes → c < length s.cells → x ≡ get_or cells c x → x ≡ Var v
    → b ≡ get_or bindings v b → b ≡ At p → HeapFollows s c p
heap_follows s cells bindings notes c v p x b e h l r is rb isb =
    let m : c < length cells = subst (λ (y : Stored). c < length y.cells) (sym e) l in
    let g : get_or cells c (Var 0) ≡ Var v = read_at cells c x (Var 0) m r ∙ is in
    let below = variable-below cells (length bindings) notes c v h.kept m g in
    let to : binding_of notes v ≡ At p = sym (h.agrees v) ∙ read_at bindings v b Free below rb ∙ isb in
    let k = follows cells (length bindings) notes c v p h.kept m g to in
    subst (λ (y : Stored). HeapFollows y c p) e (record { inside = k.inside; same = k.same; smaller = k.smaller; start = (v, g) })

-- where a variable's binding leads, as the program reads it
pub heap_leads : (s : Stored) (cells : List Sym) (bindings : List Binding) (notes : List TrailNote) (v p : ℕ) (b : Binding) → viewed cells bindings notes ≡ s → IsHeap cells bindings notes
    → v < length bindings → b ≡ get_or bindings v b → b ≡ At p → (p < length s.cells) × (binding_of s.trail v ≡ At p)
heap_leads s cells bindings notes v p b e h l rb isb =
    let to : binding_of notes v ≡ At p = sym (h.agrees v) ∙ read_at bindings v b Free l rb ∙ isb in
    subst (λ (y : Stored). (p < length y.cells) × (binding_of y.trail v ≡ At p)) e ((leads_to cells (length bindings) notes v p h.kept to).inside, to)
