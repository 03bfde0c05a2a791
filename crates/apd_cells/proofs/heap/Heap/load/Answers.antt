use Rattle.std.proofs.Common.{◌≡◌, ◌∷◌, ◌-◌, ◌∙◌, ap, length, arith, refl, sym}
use Rattle.std.specs.Prelude.{max}
use Rattle.apd_term.specs.Term.{spell, variables}
use Rattle.apd_term.specs.Canonical.{shifted}
use Rattle.apd_cells.specs.Store.{above}
use Rattle.apd_cells.proofs.Following.{viewed}
use Rattle.apd_cells.proofs.Loading.{heap_loaded}
use Rattle.apd_cells.proofs.Recent.{sizes_behind}
use Rattle.apd_cells.proofs.Touching.{marked_loaded}
use Rattle.apd_cells.proofs.Flat.{compound_loaded, short_put}
use Rattle.apd_cells.proofs.heap.Heap.load.Goals as goal

pub invariant_of-self-2 : goal.invariant_of-self-2
invariant_of-self-2 c =
    let e : c.len-cells.result ≡ length c.self.inside.cells.items = omega arith in
    let f : c.len-variables.result ≡ length c.self.inside.bindings.items = omega arith in
    let longest : c.max-self-inside.result ≡ max c.self.inside.longest (length c.append.new.cells.items - length c.self.inside.cells.items) =
    omega (arith, c.max-self-inside.ensures) in
    let g = c.in_ok-push.ensures.ok ∙ ap (λ n. n ∷ c.self.inside.trail) c.in_ok-note.ensures ∙ rw (e, f) refl in (
      heap_loaded c.self.inside.cells.items c.append.new.cells.items c.self.inside.bindings.items c.append.new.bindings.items
          c.self.inside.trail c.push.new.self c.args.t.now c.args.base
          c.self.invariant.0 c.in_default.ensures.cells c.in_default.ensures.variables c.in_default.ensures.more g,
      marked_loaded c.self.inside.cells.items c.append.new.cells.items (spell (shifted c.args.base c.args.t.now)) (length c.self.inside.bindings.items)
          c.self.inside.trail c.push.new.self c.self.inside.touched c.self.inside.front _
          c.self.invariant.0.kept c.self.invariant.1 c.in_default.ensures.cells g (rw (e, f) refl),
      c.self.invariant.2 ∙ sym (compound_loaded c.self.inside.cells.items c.append.new.cells.items c.self.inside.trail c.push.new.self _ c.in_default.ensures.front g),
      short_put c.self.inside.cells.items c.append.new.cells.items (length c.self.inside.bindings.items) c.self.inside.trail (shifted c.args.base c.args.t.now) c.self.inside.longest _
          c.self.invariant.0.kept c.in_default.ensures.cells c.self.invariant.3 longest,
      sizes_behind (viewed c.self.inside.cells.items c.self.inside.bindings.items c.self.inside.trail) _ (spell (shifted c.args.base c.args.t.now))
          (above (length c.self.inside.bindings.items) (variables (shifted c.args.base c.args.t.now))) c.self.inside.sizes c.self.invariant.0.kept
          (rw (c.in_default.ensures.cells, c.in_default.ensures.variables, g) refl) c.self.invariant.4,
    )
