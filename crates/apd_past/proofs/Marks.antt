-- A store at each place of its trail.
use Rattle.std.proofs.Common.{◌≡◌, ℕ, zero, suc, ◌+◌, ◌-◌, ◌<◌, List, [], ◌∷◌, ◌++◌, length, get_or, take, drop, reverse, sym, ◌∙◌, ap, subst, arith, append_assoc}
use Rattle.std.proofs.Math.Seq.{drop-append_seam}
use Rattle.std.proofs.lemmas.List.{append-nil, take-append-drop, length-drop, length-reverse, reverse-append, take_more, length-take-le}
use Rattle.apd_term.specs.declared.term.Sym.{Sym}
use Rattle.apd_cells.specs.declared.heap.TrailNote.{TrailNote}
use Rattle.apd_cells.specs.declared.heap.TrailNote.TheVariants.{Loaded, Bound}
use Rattle.apd_cells.specs.Stored.{Stored}
use Rattle.apd_cells.specs.Store.{before_note, before_notes, at_mark, bound, MayBind, IsStore, IsSound}
use Rattle.apd_cells.proofs.Keeping.{at_mark-at_mark}
use Rattle.apd_cells.proofs.Undoing.{before_more, before_trail}
use Rattle.apd_cells.proofs.Longer.{sound_at_mark}
use Rattle.apd_cells.proofs.Sizing.{before_is}

-- the cells at a mark are the first ones
front_before : (cells : List Sym) (n : ℕ) (notes : List TrailNote) (j : ℕ) → (rest : List Sym) × (cells ≡ (before_notes cells n notes j).cells ++ rest)
front_before cells n [] zero = ([], sym (append-nil cells))
front_before cells n [] (suc j) = ([], sym (append-nil cells))
front_before cells n (Loaded c m ∷ notes) zero = ([], sym (append-nil cells))
front_before cells n (Loaded c m ∷ notes) (suc j) =
    let k = front_before (take c cells) m notes j in
    let same = ap (λ (s : Stored). s.cells) (before_more cells n (Loaded c m) notes j) in (
      k.0 ++ drop c cells,
      sym (take-append-drop c cells) ∙ ap (λ z. z ++ drop c cells) k.1
          ∙ append_assoc (before_notes (take c cells) m notes j).cells k.0 (drop c cells)
          ∙ ap (λ z. z ++ (k.0 ++ drop c cells)) (sym same),
    )
front_before cells n (Bound v c ∷ notes) zero = ([], sym (append-nil cells))
front_before cells n (Bound v c ∷ notes) (suc j) =
    let k = front_before cells n notes j in
    let same = ap (λ (s : Stored). s.cells) (before_more cells n (Bound v c) notes j) in
    (k.0, k.1 ∙ ap (λ z. z ++ k.0) (sym same))

pub front_at_mark : (k : ℕ) (s : Stored) → (rest : List Sym) × (s.cells ≡ (at_mark k s).cells ++ rest)
front_at_mark k s = front_before s.cells s.variables s.trail (length s.trail - k)

-- the note at a place of the trail, whose notes are given the oldest first
pub record IsStep (s : Stored) (k : ℕ) (note : TrailNote) : Type 0 where
  pub rest : List TrailNote
  pub trail : (at_mark (k + 1) s).trail ≡ note ∷ rest
  pub before : at_mark k s ≡ before_note (at_mark (k + 1) s).cells (at_mark (k + 1) s).variables (at_mark (k + 1) s).trail

pub step_at : (s : Stored) (notes : List TrailNote) (k : ℕ) (d : TrailNote) → s.trail ≡ reverse notes → k < length notes → IsStep s k (get_or notes k d)
step_at s notes k d e l =
    let b = at_mark (k + 1) s in
    let count : length s.trail ≡ length notes = ap length e ∙ length-reverse notes in
    let front = take (k + 1) notes in
    let back = drop (k + 1) notes in
    let j : length s.trail - (k + 1) ≡ length (reverse back) = omega (arith, count, length-reverse back, length-drop (k + 1) notes) in
    let whole : s.trail ≡ reverse back ++ reverse front = e ∙ ap reverse (sym (take-append-drop (k + 1) notes)) ∙ reverse-append front back in
    let trail : b.trail ≡ get_or notes k d ∷ reverse (take k notes) =
    before_trail s.cells s.variables s.trail (length s.trail - (k + 1))
    ∙ ap (λ z. drop z s.trail) j ∙ ap (drop (length (reverse back))) whole ∙ drop-append_seam (reverse back) (reverse front)
    ∙ ap reverse (take_more notes k d l) ∙ reverse-append (take k notes) (get_or notes k d ∷ []) in
    let size : length (reverse (take k notes)) ≡ k = length-reverse (take k notes) ∙ length-take-le k notes (omega arith) in
    record {
      rest = reverse (take k notes);
      trail = trail;
      before = sym (at_mark-at_mark k (k + 1) s (omega arith) (omega (arith, count))) ∙ ap (λ z. at_mark z b) (sym size) ∙ before_is b (get_or notes k d) (reverse (take k notes)) trail;
    }

-- a step that binds
pub record IsBindingStep (s : Stored) (k v c : ℕ) : Type 0 where
  pub made : at_mark (k + 1) s ≡ bound (at_mark k s) v c
  pub may : MayBind (at_mark k s).cells (at_mark k s).variables (at_mark k s).trail v c

pub binding_step : (s : Stored) (k v c : ℕ) → IsSound s → IsStep s k (Bound v c) → IsBindingStep s k v c
binding_step s k v c h p =
    let b = at_mark (k + 1) s in
    let a : at_mark k s ≡ record { cells = b.cells; variables = b.variables; trail = p.rest } = p.before ∙ ap (before_note b.cells b.variables) p.trail in
    let u : IsStore b.cells b.variables (Bound v c ∷ p.rest) = subst (IsStore b.cells b.variables) p.trail (sound_at_mark (k + 1) s h) in
    record {
      made = ap (λ (z : List TrailNote). record { cells = b.cells; variables = b.variables; trail = z }) p.trail ∙ ap (λ (x : Stored). bound x v c) (sym a);
      may = subst (λ (x : Stored). MayBind x.cells x.variables x.trail v c) (sym a) u.0;
    }
