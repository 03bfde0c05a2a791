use Rattle.std.proofs.Common.{◌≡◌, ◌∷◌, ◌∙◌, ap, arith, get_or, length, refl, subst, sym, take}
use Rattle.std.specs.Prelude.{max}
use Rattle.std.proofs.lemmas.List.{length-set}
use Rattle.apd_term.specs.declared.term.Sym.TheVariants.{Var}
use Rattle.apd_cells.proofs.Following.{viewed}
use Rattle.apd_cells.proofs.Recent.{sizes_undone}
use Rattle.apd_cells.proofs.Undone.{compound_left, heap_left, marked_left, short_left, sized_left}
use Rattle.apd_cells.proofs.Touching.{heap_unbound, marked_unbound, marked_unloaded_by}
use Rattle.apd_cells.specs.Heap.{IsHeap, IsMarked}
use Rattle.apd_cells.specs.Flat.{compound_count, compound_in}
use Rattle.apd_cells.specs.Stored.{Stored}
use Rattle.apd_cells.specs.Undone.{IsFront}
use Rattle.apd_cells.specs.declared.heap.Binding.TheVariants.{Free}
use Rattle.apd_cells.specs.declared.heap.TrailNote.TheVariants.{Bound, Loaded}
use Rattle.apd_cells.proofs.heap.Heap.undo_note.Goals as goal

pub invariant_of-self-in-Loaded : goal.invariant_of-self-in-Loaded
invariant_of-self-in-Loaded c =
    let cells = c.self.inside.cells.items in
    let bindings = c.self.inside.bindings.items in
    let trail = c.self.inside.trail in
    let notes = c.pop.new.self in
    let at = c.in-Loaded.cells in
    let n = c.in-Loaded.variables in
    let newest : trail ≡ Loaded at n ∷ notes = c.in-Some.ensures ∙ ap (λ n. n ∷ notes) (sym c.get.ensures ∙ c.in-Loaded.is) in
    let front : IsFront c.args.kept cells = subst (λ (s : Stored). IsFront c.args.kept s.cells) (sym c.self.view_is) c.requires in
    let here = viewed cells bindings trail in
    let left : c.truncate.new.self.items ≡ take (max at c.args.kept.cells) cells = c.truncate.ensures.items ∙ ap (λ j. take j cells) c.max-least_cells.ensures in
    let left_bindings : c.truncate-in-Loaded.new.self.items ≡ take (max n c.args.kept.variables) bindings =
    c.truncate-in-Loaded.ensures.items ∙ ap (λ j. take j bindings) c.max-least_variables.ensures in
    rw (left, left_bindings) (
      heap_left c.args.kept cells bindings trail notes at n c.self.invariant.0 front newest,
      marked_left c.args.kept cells bindings trail notes at n c.self.invariant.0 front newest _ _ refl
          (marked_unloaded_by cells (length bindings) trail notes c.self.inside.touched _ at n c.self.inside.front _
          c.self.invariant.0.kept c.self.invariant.1 newest refl c.min-self-inside.ensures),
      compound_left c.args.kept cells bindings trail notes at n c.self.invariant.0 front newest c.self.inside.compounds c.self.invariant.2,
      short_left c.args.kept cells bindings trail notes at n c.self.invariant.0 front newest c.self.inside.longest c.self.invariant.3,
      sized_left c.args.kept cells bindings trail notes at n c.self.invariant.0 front newest c.forget_since_note.new.self
          (c.forget_since_note.ensures here c.len-notes.ensures c.self.invariant.4),
    )

pub invariant_of-self-in-Bound : goal.invariant_of-self-in-Bound
invariant_of-self-in-Bound c =
    let newest : c.self.inside.trail ≡ Bound c.in-Bound.v c.in-Bound.to ∷ c.pop.new.self = c.in-Some.ensures ∙ ap (λ n. n ∷ c.pop.new.self) (sym c.get.ensures ∙ c.in-Bound.is) in
    let here = viewed c.self.inside.cells.items c.self.inside.bindings.items c.self.inside.trail in
    rw c.free.ensures (
      heap_unbound c.self.inside.cells.items c.self.inside.bindings.items c.self.inside.trail c.pop.new.self c.in-Bound.v c.in-Bound.to c.self.invariant.0 newest,
      marked_unbound c.self.inside.cells.items c.self.inside.trail c.pop.new.self c.self.inside.touched c.in-Bound.v c.in-Bound.to c.self.inside.front c.self.invariant.1 newest,
      omega (
        arith,
        c.self.invariant.2,
        ap (compound_count c.self.inside.cells.items) newest,
        c.compound_at.ensures ∙ ap (λ xs. compound_in (get_or xs c.in-Bound.to (Var 0))) c.as_slice.ensures.value,
      ),
      c.self.invariant.3,
      sizes_undone here _ c.forget_since_note.new.self
          (rw (newest, length-set c.self.inside.bindings.items c.in-Bound.v Free) refl)
          (c.forget_since_note.ensures here c.len-notes.ensures c.self.invariant.4),
    )

pub invariant_of-self : goal.invariant_of-self
invariant_of-self c =
    let here = viewed c.self.inside.cells.items c.self.inside.bindings.items c.self.inside.trail in
    let e : c.self.inside.trail ≡ c.pop.new.self = c.in_default.ensures.0 ∙ sym c.in_default.ensures.1 in (
      subst (IsHeap c.self.inside.cells.items c.self.inside.bindings.items) e c.self.invariant.0,
      subst (λ z. IsMarked c.self.inside.cells.items z c.self.inside.touched c.self.inside.front) e c.self.invariant.1,
      c.self.invariant.2 ∙ ap (compound_count c.self.inside.cells.items) e,
      c.self.invariant.3,
      sizes_undone here _ c.forget_since_note.new.self (rw (c.in_default.ensures.0, c.in_default.ensures.1) refl)
          (c.forget_since_note.ensures here c.len-notes.ensures c.self.invariant.4),
    )
