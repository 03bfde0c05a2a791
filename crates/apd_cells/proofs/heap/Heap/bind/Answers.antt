use Rattle.std.proofs.Common.{◌≡◌, ◌∷◌, ◌+◌, ap, get_or, length, subst, sym, refl, arith, ◌∙◌, inl, inr}
use Rattle.apd_cells.specs.Stored.{Stored}
use Rattle.apd_cells.specs.Store.{MayBind}
use Rattle.apd_cells.proofs.Following.{viewed}
use Rattle.apd_cells.proofs.Recent.{sizes_bound}
use Rattle.apd_cells.proofs.Touching.{heap_bound, marked_bound_by}
use Rattle.apd_cells.specs.declared.heap.Binding.TheVariants.{At}
use Rattle.apd_cells.specs.declared.heap.TrailNote.TheVariants.{Bound}
use Rattle.std.proofs.lemmas.List.{length-set}
use Rattle.apd_term.specs.declared.term.Sym.TheVariants.{Var}
use Rattle.apd_cells.specs.Flat.{compound_count, compound_in}
use Rattle.apd_cells.proofs.Flat.{compound_bound, compounds_within}
use Rattle.apd_cells.proofs.heap.Heap.bind.Goals as goal

pub invariant_of-self-2 : goal.invariant_of-self-2
invariant_of-self-2 c =
    let may : MayBind c.self.inside.cells.items (length c.self.inside.bindings.items) c.self.inside.trail c.args.v c.args.to =
    subst (λ (s : Stored). MayBind s.cells s.variables s.trail c.args.v c.args.to) (sym c.self.view_is) c.requires in
    let count : c.len-count.result ≡ length c.self.inside.bindings.items = omega arith in
    let pushed : c.push.new.self ≡ Bound c.args.v c.args.to ∷ c.self.inside.trail = c.in_ok-push.ensures.ok ∙ ap (λ n. n ∷ c.self.inside.trail) c.in_ok-note.ensures.note in
    rw c.at.ensures (
      heap_bound c.self.inside.cells.items c.self.inside.bindings.items c.self.inside.trail c.push.new.self c.args.v c.args.to c.self.invariant.0 may pushed,
      marked_bound_by c.self.inside.cells.items (length c.self.inside.bindings.items) c.self.inside.trail c.push.new.self c.self.inside.touched _ c.above_term-above.result
          c.self.inside.front c.args.v c.args.to c.self.invariant.0.kept c.self.invariant.1 may.inside pushed c.max-self-inside.ensures
          (elim c.above_term-above.ensures [ inl p ↦ inl p | inr q ↦ inr (q ∙ count) ]),
      compound_bound c.self.inside.cells.items c.self.inside.trail c.push.new.self c.args.v c.args.to c.self.inside.compounds c.compound_at-compound.result
          may.inside c.self.invariant.2 pushed (c.compound_at-compound.ensures ∙ ap (λ xs. compound_in (get_or xs c.args.to (Var 0))) c.as_slice.ensures.value),
      c.self.invariant.3,
      sizes_bound (viewed c.self.inside.cells.items c.self.inside.bindings.items c.self.inside.trail) _ c.args.v c.args.to c.self.inside.sizes c.forget_bound.new.self
          (rw (pushed, length-set c.self.inside.bindings.items c.args.v (At c.args.to)) refl)
          (c.forget_bound.ensures (viewed c.self.inside.cells.items c.self.inside.bindings.items c.self.inside.trail) (sym c.as_slice-2.ensures.value)) c.self.invariant.4,
    )

pub overflow_add-self : goal.overflow_add-self
overflow_add-self c =
    let may : MayBind c.self.inside.cells.items (length c.self.inside.bindings.items) c.self.inside.trail c.args.v c.args.to =
    subst (λ (s : Stored). MayBind s.cells s.variables s.trail c.args.v c.args.to) (sym c.self.view_is) c.requires in
    let later : c.self.inside.compounds + c.compound_at-compound.result ≡ compound_count c.self.inside.cells.items c.push.new.self =
    compound_bound c.self.inside.cells.items c.self.inside.trail c.push.new.self c.args.v c.args.to c.self.inside.compounds c.compound_at-compound.result
    may.inside c.self.invariant.2 (c.in_ok-push.ensures.ok ∙ ap (λ n. n ∷ c.self.inside.trail) c.in_ok-note.ensures.note) (c.compound_at-compound.ensures ∙ ap (λ xs. compound_in (get_or xs c.args.to (Var 0))) c.as_slice.ensures.value) in
    omega (arith, later, compounds_within c.self.inside.cells.items c.push.new.self, c.len-notes.ensures, c.len-notes.type_inv)
