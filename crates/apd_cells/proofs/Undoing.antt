-- What undoing gives back.
use Rattle.std.proofs.Common.{◌≡◌, ◌≢◌, ◌⊎◌, inl, inr, ℕ, zero, suc, ◌-◌, ◌<◌, ◌≤◌, List, [], ◌∷◌, length, take, drop, refl, ◌∙◌, ap, arith, ◌==◌, Bool, true, false, if◌then◌else◌}
use Rattle.std.specs.Bool.{Decides}
use Rattle.std.proofs.lemmas.Bool.Decides.{Decides-eqb}
use Rattle.apd_term.specs.declared.term.Sym.{Sym}
use Rattle.apd_cells.specs.declared.heap.TrailNote.{TrailNote}
use Rattle.apd_cells.specs.declared.heap.TrailNote.TheVariants.{Loaded, Bound}
use Rattle.apd_cells.specs.declared.heap.Binding.{Binding}
use Rattle.apd_cells.specs.declared.heap.Binding.TheVariants.{Free, At}
use Rattle.apd_cells.specs.Stored.{Stored}
use Rattle.apd_cells.specs.Store.{binding_of, IsStore, before_note, before_notes, at_mark}
use Rattle.apd_cells.proofs.Meaning.{leads_to}

pub le_or_lt : (a b : ℕ) → (a ≤ b) ⊎ (b < a)
le_or_lt zero b = inl (omega arith)
le_or_lt (suc a) zero = inr (omega arith)
le_or_lt (suc a) (suc b) = elim (le_or_lt a b) [ inl l ↦ inl (omega arith) | inr l ↦ inr (omega arith) ]

-- a variable that isn't below the number of variables is free
pub free-above : (cells : List Sym) (n : ℕ) (notes : List TrailNote) (v : ℕ) → IsStore cells n notes → n ≤ v → binding_of notes v ≡ Free
free-above cells n notes v h l = by (binding_of notes v) refl
  where
    by : (b : Binding) → binding_of notes v ≡ b → binding_of notes v ≡ Free
    by Free e = e
    by (At p) e = let k = leads_to cells n notes v p h e in absurd (omega (arith, k.below))

pub before_none : (cells : List Sym) (n : ℕ) (notes : List TrailNote) → before_notes cells n notes 0 ≡ record { cells = cells; variables = n; trail = notes }
before_none cells n [] = refl
before_none cells n (Loaded c m ∷ notes) = refl
before_none cells n (Bound v c ∷ notes) = refl

pub at_mark-here : (k : ℕ) (s : Stored) → length s.trail ≤ k → at_mark k s ≡ s
at_mark-here k s l =
    let e : length s.trail - k ≡ 0 = omega arith in
    ap (before_notes s.cells s.variables s.trail) e ∙ before_none s.cells s.variables s.trail

pub not_zero : {X : Type 0} (k : ℕ) (x y : X) → k ≢ 0 → (if k == 0 then x else y) ≡ y
not_zero k x y n = by (k == 0) (Decides-eqb k 0)
  where
    by : (b : Bool) → Decides b (k ≡ 0) → (if b then x else y) ≡ y
    by true d = absurd (n (d.0 refl))
    by false d = refl

-- the newest note first, and then the others
pub before_more : (cells : List Sym) (n : ℕ) (note : TrailNote) (notes : List TrailNote) (j : ℕ)
    → before_notes cells n (note ∷ notes) (suc j) ≡ (let s = before_note cells n (note ∷ notes) in before_notes s.cells s.variables s.trail j)
before_more cells n (Loaded c m) notes j =
    let e : suc j - 1 ≡ j = omega arith in
    not_zero (suc j) (record { cells = cells; variables = n; trail = Loaded c m ∷ notes }) (before_notes (take c cells) m notes (suc j - 1)) (omega arith)
    ∙ ap (before_notes (take c cells) m notes) e
before_more cells n (Bound v c) notes j =
    let e : suc j - 1 ≡ j = omega arith in
    not_zero (suc j) (record { cells = cells; variables = n; trail = Bound v c ∷ notes }) (before_notes cells n notes (suc j - 1)) (omega arith)
    ∙ ap (before_notes cells n notes) e

-- the notes at a mark
pub before_trail : (cells : List Sym) (n : ℕ) (notes : List TrailNote) (j : ℕ) → (before_notes cells n notes j).trail ≡ drop j notes
before_trail cells n [] zero = refl
before_trail cells n [] (suc j) = refl
before_trail cells n (Loaded c m ∷ notes) zero = refl
before_trail cells n (Loaded c m ∷ notes) (suc j) = ap (λ (s : Stored). s.trail) (before_more cells n (Loaded c m) notes j) ∙ before_trail (take c cells) m notes j
before_trail cells n (Bound v c ∷ notes) zero = refl
before_trail cells n (Bound v c ∷ notes) (suc j) = ap (λ (s : Stored). s.trail) (before_more cells n (Bound v c) notes j) ∙ before_trail cells n notes j
