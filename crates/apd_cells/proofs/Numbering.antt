-- The numbers of a store's variables.
use Rattle.std.proofs.Common.{◌≡◌, inl, inr, ℕ, ◌<◌, List, [], ◌∷◌, length, take, refl, ◌∙◌, ap, subst}
use Rattle.apd_term.specs.declared.term.Sym.{Sym}
use Rattle.apd_term.specs.Term.{Term, variable, apply, variables, IsAmong, Occurs}
use Rattle.apd_term.specs.Substitution.{term_for, single}
use Rattle.apd_term.proofs.Among.{IsAmong-flat_map}
use Rattle.apd_term.proofs.Applying.{variables-apply}
use Rattle.apd_term.proofs.Pairs.{term_for-other}
use Rattle.apd_cells.proofs.Bindings.{Occurs-single}
use Rattle.apd_cells.specs.declared.heap.TrailNote.{TrailNote}
use Rattle.apd_cells.specs.declared.heap.TrailNote.TheVariants.{Loaded, Bound}
use Rattle.apd_cells.specs.Stored.{Stored}
use Rattle.apd_cells.specs.Store.{written, meaning, term_at, IsStore}
use Rattle.apd_cells.specs.Numbered.{IsNumbered}
use Rattle.apd_cells.proofs.Meaning.{HasCells-of, meaning-free}
use Rattle.apd_cells.proofs.Undoing.{le_or_lt, free-above}
use Rattle.apd_cells.proofs.Touching.{occurs_in_cells, from_image, untouched, touched-all}

-- a variable of a term under a substitution stands in what one of its variables became
pub occurs_in_image : (s : ℕ → Term) (v : ℕ) (t : Term) → Occurs v (apply s t) → (w : ℕ) × IsAmong (variables t) w × Occurs v (s w)
occurs_in_image s v t o = IsAmong-flat_map (λ w. variables (s w)) (variables t) v (subst (λ r. IsAmong r v) (variables-apply s t) o)

-- a variable that stands in what another means is free
settled_in : (cells : List Sym) (n : ℕ) (notes : List TrailNote) (v w : ℕ) → IsStore cells n notes → Occurs v (meaning cells notes w) → meaning cells notes v ≡ variable v
settled_in cells n [] v w h o = refl
settled_in cells n (Loaded c m ∷ notes) v w h o = settled_in (take c cells) m notes v w h.1.1.1 o
settled_in cells n (Bound x c ∷ notes) v w h o =
    let s = meaning cells notes in
    let t = apply s (written cells c) in
    let p = Occurs-single x t (s w) v h.0.acyclic o in
    let here : s v ≡ variable v = elim p.1 [
      | inl q ↦ (let k = occurs_in_image s v (written cells c) q in settled_in cells n notes v k.0 h.1 k.2)
      | inr q ↦ settled_in cells n notes v w h.1 q
    ] in
    ap (apply (term_for (single x t))) here ∙ term_for-other (x, t) [] v p.0

numbered_below : (s : Stored) (c v : ℕ) → IsStore s.cells s.variables s.trail → c < length s.cells → Occurs v (term_at s c) → v < s.variables
numbered_below s c v h l o = elim (le_or_lt s.variables v) [
  | inl g ↦
      let p : Occurs v (written s.cells c) = from_image (meaning s.cells s.trail) v (written s.cells c)
      (λ w r. untouched s.cells s.variables s.trail s.variables v w h (touched-all s.cells s.variables s.trail h) g r) o in
      occurs_in_cells s.cells s.variables c v (HasCells-of s.cells s.variables s.trail h) l p
  | inr g ↦ g
]

pub is_numbered : (s : Stored) → IsStore s.cells s.variables s.trail → IsNumbered s
is_numbered s h = record {
  below = λ c v l o. numbered_below s c v h l o;
  settled = λ c v l o. (let k = occurs_in_image (meaning s.cells s.trail) v (written s.cells c) o in settled_in s.cells s.variables s.trail v k.0 h k.2);
  unused = λ v g. meaning-free s.cells s.trail v (free-above s.cells s.variables s.trail v h g);
}
