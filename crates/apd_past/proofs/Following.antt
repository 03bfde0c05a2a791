-- What a journal has of a store that it follows.
use Rattle.std.proofs.Common.{◌≡◌, ℕ, zero, suc, ◌+◌, ◌-◌, ◌<◌, ◌≤◌, List, [], ◌∷◌, ◌++◌, length, take, drop, refl, sym, ◌∙◌, ap, subst, arith, ◌==◌, if◌then◌else◌, Result, Ok, Err}
use Rattle.std.specs.Prelude.{OnOk}
use Rattle.std.proofs.lemmas.List.{take-append-drop}
use Rattle.apd_term.specs.declared.term.Sym.{Sym}
use Rattle.apd_term.specs.Term.{apply, Occurs}
use Rattle.apd_term.specs.Substitution.{term_for, single}
use Rattle.apd_term.proofs.Variants.{apply-agree}
use Rattle.apd_cells.specs.declared.heap.TrailNote.{TrailNote}
use Rattle.apd_cells.specs.declared.heap.TrailNote.TheVariants.{Loaded, Bound}
use Rattle.apd_cells.specs.declared.heap.Binding.TheVariants.{At}
use Rattle.apd_cells.specs.Stored.{Stored}
use Rattle.apd_cells.specs.Store.{written, meaning, term_at, binding_of, before_note, before_notes, at_mark, HasCells, MayBind, IsStore, IsSound}
use Rattle.apd_cells.proofs.Undoing.{before_more}
use Rattle.apd_cells.proofs.Longer.{meaning-more, store-more, MayBind-more, sound_at_mark}
use Rattle.apd_past.specs.declared.past.PastCell.{PastCell}
use Rattle.apd_past.specs.Done.{Done}
use Rattle.apd_past.specs.Follows.{bindings_in, Follows, MayFollow}
use Rattle.apd_past.specs.History.{bindings_of, history_of, present, IsRight}
use Rattle.apd_past.specs.Tuples.{terms_at, tuple_at}
use Rattle.apd_past.proofs.Marks.{front_at_mark, IsStep, binding_step}
use Rattle.apd_past.proofs.Moments.{right_cells}

-- all cells are there before the notes of loads
wide : (cells : List Sym) (n c m : ℕ) (notes : List TrailNote) → IsStore cells n (Loaded c m ∷ notes) → IsStore cells n notes
wide cells n c m notes h =
    let is : take c cells ++ drop c cells ≡ cells = take-append-drop c cells in
    subst (λ z. IsStore z n notes) is
    (store-more (take c cells) (drop c cells) m n notes (subst (λ z. HasCells z n) (sym is) h.0) h.1.1.0 h.1.1.1)

-- without the notes of loads a trail says the same
pub meaning-bare : (cells : List Sym) (n : ℕ) (notes : List TrailNote) (v : ℕ) → IsStore cells n notes → meaning cells (bindings_in notes) v ≡ meaning cells notes v
meaning-bare cells n [] v h = refl
meaning-bare cells n (Loaded c m ∷ notes) v h =
    meaning-bare cells n notes v (wide cells n c m notes h)
    ∙ ap (λ z. meaning z notes v) (sym (take-append-drop c cells))
    ∙ meaning-more (take c cells) (drop c cells) m notes v h.1.1.1
meaning-bare cells n (Bound w c ∷ notes) v h =
    let t = apply-agree (meaning cells (bindings_in notes)) (meaning cells notes) (written cells c) (λ u o. meaning-bare cells n notes u h.1) in
    ap (λ z. apply (term_for (single w z)) (meaning cells (bindings_in notes) v)) t
    ∙ ap (apply (term_for (single w (apply (meaning cells notes) (written cells c))))) (meaning-bare cells n notes v h.1)

pub binding-bare : (notes : List TrailNote) (v : ℕ) → binding_of (bindings_in notes) v ≡ binding_of notes v
binding-bare [] v = refl
binding-bare (Loaded c m ∷ notes) v = binding-bare notes v
binding-bare (Bound w c ∷ notes) v = ap (λ z. if w == v then At c else z) (binding-bare notes v)

MayBind-bare : (cells : List Sym) (n : ℕ) (notes : List TrailNote) (v c : ℕ) → IsStore cells n notes → MayBind cells n notes v c → MayBind cells n (bindings_in notes) v c
MayBind-bare cells n notes v c h b = record {
  inside = b.inside;
  below = b.below;
  free = binding-bare notes v ∙ b.free;
  acyclic = λ o. b.acyclic (subst (Occurs v) (apply-agree (meaning cells (bindings_in notes)) (meaning cells notes) (written cells c) (λ u q. meaning-bare cells n notes u h)) o);
  down = b.down;
}

-- a term and a tuple are at present what they are in the store
term_now : (d : Done) (s : Stored) (c : ℕ) → IsSound s → Follows d s → term_at (present (history_of s.cells d)) c ≡ term_at s c
term_now d s c h f =
    ap (λ z. apply (meaning s.cells z) (written s.cells c)) f
    ∙ apply-agree (meaning s.cells (bindings_in s.trail)) (meaning s.cells s.trail) (written s.cells c) (λ u q. meaning-bare s.cells s.variables s.trail u h)

terms_now : (d : Done) (s : Stored) (cs : List PastCell) → IsSound s → Follows d s → terms_at (present (history_of s.cells d)) cs ≡ terms_at s cs
terms_now d s [] h f = refl
terms_now d s (c ∷ cs) h f =
    ap (λ t. t ∷ terms_at (present (history_of s.cells d)) cs) (term_now d s c.0 h f)
    ∙ ap (λ ts. term_at s c.0 ∷ ts) (terms_now d s cs h f)

pub tuple_now : (d : Done) (s : Stored) (head : ℕ) (goals : List PastCell) → IsSound s → Follows d s → tuple_at (present (history_of s.cells d)) head goals ≡ tuple_at s head goals
tuple_now d s head goals h f =
    ap (λ t. record { head = t; body = terms_at (present (history_of s.cells d)) goals }) (term_now d s head h f)
    ∙ ap (λ ts. record { head = term_at s head; body = ts }) (terms_now d s goals h f)

-- at a mark there are no more variables
fewer_before : (cells : List Sym) (n : ℕ) (notes : List TrailNote) (j : ℕ) → IsStore cells n notes → (before_notes cells n notes j).variables ≤ n
fewer_before cells n [] j h = omega arith
fewer_before cells n (Loaded c m ∷ notes) zero h = omega arith
fewer_before cells n (Loaded c m ∷ notes) (suc j) h =
    let q = ap (λ (s : Stored). s.variables) (before_more cells n (Loaded c m) notes j) in
    omega (arith, q, fewer_before (take c cells) m notes j h.1.1.1, h.1.1.0)
fewer_before cells n (Bound v c ∷ notes) zero h = omega arith
fewer_before cells n (Bound v c ∷ notes) (suc j) h =
    let q = ap (λ (s : Stored). s.variables) (before_more cells n (Bound v c) notes j) in
    omega (arith, q, fewer_before cells n notes j h.1)

-- one note of the trail is followed
module _ (d : Done) (s : Stored) (k : ℕ) (h : MayFollow d s k) (l : k < length s.trail) where
  fewer : (at_mark k s).variables ≤ d.variables
  fewer = omega (arith, fewer_before s.cells s.variables s.trail (length s.trail - k) h.sound, h.room)

  pub may_bind : (v c : ℕ) → IsStep s k (Bound v c) → MayBind s.cells d.variables (bindings_of d) v c
  may_bind v c p =
      let e = at_mark k s in
      let front = front_at_mark k s in
      let sound = sound_at_mark k s h.sound in
      let whole : HasCells (e.cells ++ front.0) d.variables = subst (λ z. HasCells z d.variables) front.1 (right_cells s.cells d.variables d.spans h.right) in
      let may : MayBind (e.cells ++ front.0) d.variables e.trail v c =
      MayBind-more e.cells front.0 e.variables d.variables e.trail v c sound fewer (binding_step s k v c h.sound p).may in
      let there : IsStore (e.cells ++ front.0) d.variables e.trail = store-more e.cells front.0 e.variables d.variables e.trail whole fewer sound in
      subst (λ z. MayBind s.cells d.variables z v c) (sym h.follows)
      (subst (λ z. MayBind z d.variables (bindings_in e.trail) v c) (sym front.1) (MayBind-bare (e.cells ++ front.0) d.variables e.trail v c there may))

  pub step_bound : (v c : ℕ) (d' : Done) → IsStep s k (Bound v c) → d'.variables ≡ d.variables → bindings_of d' ≡ Bound v c ∷ bindings_of d → IsRight s.cells d.variables d'.spans
      → MayFollow d' s (k + 1)
  step_bound v c d' p same e r = record {
    sound = h.sound;
    there = omega arith;
    follows = e ∙ ap (λ z. Bound v c ∷ z) h.follows ∙ sym (ap (λ (x : Stored). bindings_in x.trail) (binding_step s k v c h.sound p).made);
    room = omega (arith, h.room, same);
    right = subst (λ n. IsRight s.cells n d'.spans) (sym same) r;
  }

  pub step_loaded : (c m : ℕ) → IsStep s k (Loaded c m) → MayFollow d s (k + 1)
  step_loaded c m p =
      let b = at_mark (k + 1) s in
      record {
        sound = h.sound;
        there = omega arith;
        follows = h.follows
            ∙ ap (λ (x : Stored). bindings_in x.trail) p.before
            ∙ ap (λ z. bindings_in (before_note b.cells b.variables z).trail) p.trail
            ∙ sym (ap bindings_in p.trail);
        room = h.room;
        right = h.right;
      }

-- what a call that succeeded gives, put together
pub on_ok_all : {X E : Type 0} {A B C D : Type 0} (r : Result X E) → (A → B → C → D) → OnOk r A → OnOk r B → OnOk r C → OnOk r D
on_ok_all (Ok x) f a b c = f a b c
on_ok_all (Err e) f a b c = tt
