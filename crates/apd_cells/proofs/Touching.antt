-- Why a new variable can't stand in older terms.
use Rattle.std.proofs.Common.{◌≡◌, ◌⊎◌, inl, inr, ℕ, ◌<◌, ◌≤◌, List, [], ◌∷◌, ◌++◌, length, get_or, take, drop, set, refl, sym, ◌∙◌, ap, subst, arith}
use Rattle.std.specs.List.{flat_map}
use Rattle.std.specs.Prelude.{min, max}
use Rattle.std.proofs.lemmas.List.{take_at, take-append-drop, length-take, length-drop, length-set, get_or-set_same, get_or-set_other}
use Rattle.std.proofs.lemmas.List.Concat.{flat_map-append}
use Rattle.apd_term.specs.declared.term.Sym.{Sym}
use Rattle.apd_term.specs.Term.{Term, apply, spell, first_of, read_all, variables, IsAmong, Occurs}
use Rattle.apd_term.specs.Spelling.{variable_in}
use Rattle.apd_term.proofs.Among.{IsAmong-left, IsAmong-right, IsAmong-flat_map}
use Rattle.apd_term.proofs.Applying.{variables-apply}
use Rattle.apd_term.proofs.Spelling.{split_terms, flat_map-variables}
use Rattle.apd_cells.proofs.Written.{IsTerms-drop, written-take}
use Rattle.apd_cells.proofs.Bindings.{Occurs-single}
use Rattle.apd_cells.specs.declared.front.Front.{Front}
use Rattle.apd_cells.specs.declared.heap.TrailNote.{TrailNote}
use Rattle.apd_cells.specs.declared.heap.TrailNote.TheVariants.{Loaded, Bound}
use Rattle.apd_cells.specs.declared.heap.Binding.{Binding}
use Rattle.apd_cells.specs.declared.heap.Binding.TheVariants.{Free, At}
use Rattle.apd_cells.specs.Heap.{IsHeap, AllTouched, IsMarked}
use Rattle.apd_cells.specs.Stored.{Stored}
use Rattle.apd_cells.specs.Store.{written, meaning, term_at, binding_of, HasCells, MayBind, IsStore}
use Rattle.apd_cells.proofs.Meaning.{HasCells-of, binding-same, binding-other}
use Rattle.apd_cells.proofs.Undoing.{le_or_lt}
use Rattle.std.proofs.lemmas.Bool.{cases_eq}

-- a variable of a written term stands among the cells
pub occurs_in_cells : (cells : List Sym) (n c u : ℕ) → HasCells cells n → c < length cells → Occurs u (written cells c) → u < n
occurs_in_cells cells n c u h l o =
    let d = drop c cells in
    let t = first_of (read_all d) in
    let rest = flat_map spell (drop 1 (read_all d)) in
    let e : d ≡ spell t ++ rest = split_terms d (IsTerms-drop c cells h.whole) (omega (arith, length-drop c cells)) in
    let i : IsAmong (flat_map variable_in (spell t) ++ flat_map variable_in rest) u =
    IsAmong-left (flat_map variable_in (spell t)) (flat_map variable_in rest) u (subst (λ r. IsAmong r u) (sym (flat_map-variables t)) o) in
    let j : IsAmong (flat_map variable_in d) u = subst (λ r. IsAmong r u) (sym (ap (flat_map variable_in) e ∙ flat_map-append variable_in (spell t) rest)) i in
    let k : IsAmong (flat_map variable_in (take c cells) ++ flat_map variable_in d) u = IsAmong-right (flat_map variable_in (take c cells)) (flat_map variable_in d) u j in
    h.below u (subst (λ r. IsAmong r u) (sym (flat_map-append variable_in (take c cells) d) ∙ ap (flat_map variable_in) (take-append-drop c cells)) k)

-- what a substitution brings in comes from its terms
pub from_image : (s : ℕ → Term) (v : ℕ) (t : Term) → ((w : ℕ) → Occurs v (s w) → v ≡ w) → Occurs v (apply s t) → Occurs v t
from_image s v t h o =
    let m = IsAmong-flat_map (λ w. variables (s w)) (variables t) v (subst (λ r. IsAmong r v) (variables-apply s t) o) in
    subst (IsAmong (variables t)) (sym (h m.0 m.2)) m.1

-- no binding brings in a variable that none has touched
pub untouched : (cells : List Sym) (n : ℕ) (notes : List TrailNote) (k v w : ℕ) → IsStore cells n notes → AllTouched cells notes k → k ≤ v → Occurs v (meaning cells notes w) → v ≡ w
untouched cells n [] k v w h a l (inl e) = sym e
untouched cells n [] k v w h a l (inr b) = absurd b
untouched cells n (Loaded c m ∷ notes) k v w h a l o = untouched (take c cells) m notes k v w h.1.1.1 a l o
untouched cells n (Bound x c ∷ notes) k v w h a l o =
    let s = meaning cells notes in
    let t = apply s (written cells c) in
    elim ((Occurs-single x t (s w) v h.0.acyclic o).1) [
      | inl p ↦ (let q = a.0 v (from_image s v (written cells c) (λ y r. untouched cells n notes k v y h.1 a.1 l r) p) in absurd (omega arith))
      | inr q ↦ untouched cells n notes k v w h.1 a.1 l q
    ]

-- a new variable doesn't stand in the term at a cell of the front
pub apart : (s : Stored) (touched : ℕ) (front : Front) (v at : ℕ) → IsStore s.cells s.variables s.trail → IsMarked s.cells s.trail touched front
    → at < front.cells → front.variables ≤ v → touched ≤ v → ¬ Occurs v (term_at s at)
apart s touched front v at h m l f g o =
    let there : at < length (take front.cells s.cells) = omega (arith, length-take front.cells s.cells, m.within) in
    let p : Occurs v (written s.cells at) = from_image (meaning s.cells s.trail) v (written s.cells at) (λ w r. untouched s.cells s.variables s.trail touched v w h m.bindings g r) o in
    let q : Occurs v (written (take front.cells s.cells) at) = subst (Occurs v) (sym (written-take s.cells front.cells at m.whole.whole there)) p in
    let k = occurs_in_cells (take front.cells s.cells) front.variables at v m.whole there q in
    omega arith

touched-more : (cells : List Sym) (notes : List TrailNote) (j k : ℕ) → j ≤ k → AllTouched cells notes j → AllTouched cells notes k
touched-more cells [] j k l a = tt
touched-more cells (Loaded c n ∷ notes) j k l a = touched-more (take c cells) notes j k l a
touched-more cells (Bound v c ∷ notes) j k l a = (λ u o. (let q = a.0 u o in omega arith), touched-more cells notes j k l a.1)

-- all variables of bindings' terms are below the number of variables
pub touched-all : (cells : List Sym) (n : ℕ) (notes : List TrailNote) → IsStore cells n notes → AllTouched cells notes n
touched-all cells n [] h = tt
touched-all cells n (Loaded c m ∷ notes) h = touched-more (take c cells) notes m n h.1.1.0 (touched-all (take c cells) m notes h.1.1.1)
touched-all cells n (Bound v c ∷ notes) h = (λ u o. occurs_in_cells cells n c u (HasCells-of cells n notes h.1) h.0.inside o, touched-all cells n notes h.1)

-- after a binding
pub marked_bound : (cells : List Sym) (n : ℕ) (notes trail : List TrailNote) (touched touched' : ℕ) (front : Front) (v c : ℕ) → IsStore cells n notes → IsMarked cells notes touched front
    → c < length cells → trail ≡ Bound v c ∷ notes → touched ≤ touched' → ((c < front.cells) × (front.variables ≤ touched')) ⊎ (n ≤ touched') → IsMarked cells trail touched' front
marked_bound cells n notes trail touched touched' front v c h m l e k o =
    let below : (u : ℕ) → Occurs u (written cells c) → u < touched' = λ u p. elim o [
      | inl q ↦
          (let there : c < length (take front.cells cells) = omega (arith, length-take front.cells cells, m.within, q.0) in
          let r = occurs_in_cells (take front.cells cells) front.variables c u m.whole there (subst (Occurs u) (sym (written-take cells front.cells c m.whole.whole there)) p) in
          omega (arith, r, q.1))
      | inr q ↦ (let r = occurs_in_cells cells n c u (HasCells-of cells n notes h) l p in omega arith)
    ] in
    rw e (record { bindings = (below, touched-more cells notes touched touched' k m.bindings); within = m.within; whole = m.whole })

-- after a load
pub marked_loaded : (cells new more : List Sym) (n : ℕ) (notes trail : List TrailNote) (touched : ℕ) (old front : Front) → IsStore cells n notes → IsMarked cells notes touched old
    → new ≡ cells ++ more → trail ≡ Loaded (length cells) n ∷ notes → front ≡ record { cells = length cells; variables = n } → IsMarked new trail touched front
marked_loaded cells new more n notes trail touched old front h m e is f =
    let t : take (length cells) (cells ++ more) ≡ cells = take_at cells more (length cells) refl in
    rw (e, is, f) (record {
      bindings = subst (λ z. AllTouched z notes touched) (sym t) m.bindings;
      within = omega (arith, ap length t, length-take (length cells) (cells ++ more));
      whole = subst (λ z. HasCells z n) (sym t) (HasCells-of cells n notes h);
    })

-- after a load was taken back
pub marked_unloaded : (cells : List Sym) (n : ℕ) (trail notes : List TrailNote) (touched touched' c k : ℕ) (old front : Front) → IsStore cells n trail → IsMarked cells trail touched old
    → trail ≡ Loaded c k ∷ notes → front ≡ record { cells = 0; variables = 0 } → (touched' ≡ touched) ⊎ (touched' ≡ k) → IsMarked (take c cells) notes touched' front
marked_unloaded cells n trail notes touched touched' c k old front h m e f o =
    let h' : IsStore cells n (Loaded c k ∷ notes) = subst (IsStore cells n) e h in
    let a : AllTouched cells (Loaded c k ∷ notes) touched = subst (λ z. AllTouched cells z touched) e m.bindings in
    let all : AllTouched (take c cells) notes touched' = elim o [
      | inl q ↦ subst (AllTouched (take c cells) notes) (sym q) a
      | inr q ↦ subst (AllTouched (take c cells) notes) (sym q) (touched-all (take c cells) k notes h'.1.1.1)
    ] in
    rw f (record { bindings = all; within = omega arith; whole = record { whole = refl; below = λ v o. absurd o } })

-- after a binding was taken back
pub marked_unbound : (cells : List Sym) (trail notes : List TrailNote) (touched v c : ℕ) (front : Front) → IsMarked cells trail touched front → trail ≡ Bound v c ∷ notes → IsMarked cells notes touched front
marked_unbound cells trail notes touched v c front m e =
    let a : AllTouched cells (Bound v c ∷ notes) touched = subst (λ z. AllTouched cells z touched) e m.bindings in
    record { bindings = a.1; within = m.within; whole = m.whole }

-- after a binding, as the program finds the number above its term's variables
pub marked_bound_by : (cells : List Sym) (n : ℕ) (notes trail : List TrailNote) (touched touched' above : ℕ) (front : Front) (v c : ℕ) → IsStore cells n notes → IsMarked cells notes touched front
    → c < length cells → trail ≡ Bound v c ∷ notes → touched' ≡ max touched above → ((c < front.cells) × (above ≡ front.variables)) ⊎ (above ≡ n) → IsMarked cells trail touched' front
marked_bound_by cells n notes trail touched touched' above front v c h m l e k (inl q) =
    marked_bound cells n notes trail touched touched' front v c h m l e (omega arith) (inl (q.0, (let r = q.1 in omega arith)))
marked_bound_by cells n notes trail touched touched' above front v c h m l e k (inr q) =
    marked_bound cells n notes trail touched touched' front v c h m l e (omega arith) (inr (omega arith))

-- after a load was taken back, as the program finds the number
pub marked_unloaded_by : (cells : List Sym) (n : ℕ) (trail notes : List TrailNote) (touched touched' c k : ℕ) (old front : Front) → IsStore cells n trail → IsMarked cells trail touched old
    → trail ≡ Loaded c k ∷ notes → front ≡ record { cells = 0; variables = 0 } → touched' ≡ min touched k → IsMarked (take c cells) notes touched' front
marked_unloaded_by cells n trail notes touched touched' c k old front h m e f q =
    marked_unloaded cells n trail notes touched touched' c k old front h m e f (elim (le_or_lt touched k) [ inl l ↦ inl (omega arith) | inr l ↦ inr (omega arith) ])

-- the heap after a binding
pub heap_bound : (cells : List Sym) (bindings : List Binding) (notes trail : List TrailNote) (v c : ℕ) → IsHeap cells bindings notes → MayBind cells (length bindings) notes v c
    → trail ≡ Bound v c ∷ notes → IsHeap cells (set bindings v (At c)) trail
heap_bound cells bindings notes trail v c h m e = record {
  kept = rw (e, length-set bindings v (At c)) (m, h.kept);
  agrees = λ w. elim (cases_eq v w) [
    | inl q ↦ ap (λ y. get_or (set bindings v (At c)) y Free) (sym q) ∙ get_or-set_same bindings v (At c) Free m.below
        ∙ sym (binding-same v c notes w q) ∙ ap (λ z. binding_of z w) (sym e)
    | inr n ↦ get_or-set_other bindings v w (At c) Free (λ q. n (sym q)) ∙ h.agrees w
        ∙ sym (binding-other v c notes w n) ∙ ap (λ z. binding_of z w) (sym e)
  ];
}

-- the heap before a binding
pub heap_unbound : (cells : List Sym) (bindings : List Binding) (trail notes : List TrailNote) (v c : ℕ) → IsHeap cells bindings trail → trail ≡ Bound v c ∷ notes
    → IsHeap cells (set bindings v Free) notes
heap_unbound cells bindings trail notes v c h e =
    let k : IsStore cells (length bindings) (Bound v c ∷ notes) = subst (IsStore cells (length bindings)) e h.kept in
    record {
      kept = subst (λ n. IsStore cells n notes) (sym (length-set bindings v Free)) k.1;
      agrees = λ w. elim (cases_eq v w) [
        | inl q ↦ ap (λ y. get_or (set bindings v Free) y Free) (sym q) ∙ get_or-set_same bindings v Free Free k.0.below ∙ sym k.0.free ∙ ap (binding_of notes) q
        | inr n ↦ get_or-set_other bindings v w Free Free (λ q. n (sym q)) ∙ h.agrees w ∙ ap (λ z. binding_of z w) e ∙ binding-other v c notes w n
      ];
    }
