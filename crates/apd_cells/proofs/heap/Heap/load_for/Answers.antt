use Rattle.std.proofs.Common.{◌≡◌, ◌∷◌, ◌-◌, ◌∙◌, ap, length, arith, refl, subst, sym}
use Rattle.std.specs.Prelude.{max}
use Rattle.apd_term.specs.Term.{spell, term_of, variables}
use Rattle.apd_term.specs.Canonical.{shifted}
use Rattle.apd_cells.specs.Stretches.{AreMeant}
use Rattle.apd_cells.specs.Slots.{HasLoaded}
use Rattle.apd_cells.specs.Store.{above, meaning}
use Rattle.apd_cells.specs.Stored.{Stored}
use Rattle.apd_cells.proofs.Following.{viewed}
use Rattle.apd_cells.proofs.Loading.{heap_loaded, viewed_loaded}
use Rattle.apd_cells.proofs.Recent.{sizes_behind}
use Rattle.apd_cells.proofs.Touching.{marked_loaded}
use Rattle.apd_cells.proofs.Flat.{compound_loaded, short_put}
use Rattle.apd_cells.proofs.heap.Heap.load_for.Goals as goal

pub invariant_of-self-2 : goal.invariant_of-self-2
invariant_of-self-2 c =
    let e : c.len-cells.result ≡ length c.self.inside.cells.items = omega arith in
    let f : c.len-variables.result ≡ length c.self.inside.bindings.items = omega arith in
    let longest : c.max-self-inside.result ≡ max c.self.inside.longest (length c.append_for.new.cells.items - length c.self.inside.cells.items) =
    omega (arith, c.max-self-inside.ensures) in
    let meant = subst (λ (s : Stored). AreMeant (meaning s.cells s.trail) c.args.symbols.now c.args.copied.now) (sym c.self.view_is) c.requires.meant in
    let put = c.in_default.ensures.put (meaning c.self.inside.cells.items c.self.inside.trail) meant in
    let t = put.term in
    let g = c.in_ok-push.ensures.ok ∙ ap (λ n. n ∷ c.self.inside.trail) c.in_ok-note.ensures ∙ rw (e, f) refl in (
      heap_loaded c.self.inside.cells.items c.append_for.new.cells.items c.self.inside.bindings.items c.append_for.new.bindings.items
          c.self.inside.trail c.push.new.self t 0
          c.self.invariant.0 put.put put.count c.in_default.ensures.more g,
      marked_loaded c.self.inside.cells.items c.append_for.new.cells.items (spell (shifted 0 t)) (length c.self.inside.bindings.items)
          c.self.inside.trail c.push.new.self c.self.inside.touched c.self.inside.front _
          c.self.invariant.0.kept c.self.invariant.1 put.put g (rw (e, f) refl),
      c.self.invariant.2 ∙ sym (compound_loaded c.self.inside.cells.items c.append_for.new.cells.items c.self.inside.trail c.push.new.self _ c.in_default.ensures.front g),
      short_put c.self.inside.cells.items c.append_for.new.cells.items (length c.self.inside.bindings.items) c.self.inside.trail (shifted 0 t) c.self.inside.longest _
          c.self.invariant.0.kept put.put c.self.invariant.3 longest,
      sizes_behind (viewed c.self.inside.cells.items c.self.inside.bindings.items c.self.inside.trail) _ (spell (shifted 0 t))
          (above (length c.self.inside.bindings.items) (variables (shifted 0 t))) c.self.inside.sizes c.self.invariant.0.kept
          (viewed_loaded (viewed c.self.inside.cells.items c.self.inside.bindings.items c.self.inside.trail) c.self.inside.cells.items c.append_for.new.cells.items
          c.self.inside.bindings.items c.append_for.new.bindings.items c.self.inside.trail c.push.new.self t 0 refl put.put put.count g) c.self.invariant.4,
    )

pub returns-clause-ok : goal.returns-clause-ok
returns-clause-ok c =
    let e : c.len-cells.result ≡ length c.self.inside.cells.items = omega arith in
    let f : c.len-variables.result ≡ length c.self.inside.bindings.items = omega arith in
    let meant = subst (λ (s : Stored). AreMeant (meaning s.cells s.trail) c.args.symbols.now c.args.copied.now) (sym c.self.view_is) c.requires.meant in
    let put = c.in_default.ensures.put (meaning c.self.inside.cells.items c.self.inside.trail) meant in
    let g = c.in_ok-push.ensures.ok ∙ ap (λ n. n ∷ c.self.inside.trail) c.in_ok-note.ensures ∙ rw (e, f) refl in
    let old = viewed c.self.inside.cells.items c.self.inside.bindings.items c.self.inside.trail in
    let new = viewed c.append_for.new.cells.items c.append_for.new.bindings.items c.push.new.self in
    let k : HasLoaded old new c.args.slots.now.items c.append_for.new.slots.items (term_of c.args.symbols.now) =
    record {
      term = put.term;
      is = viewed_loaded old c.self.inside.cells.items c.append_for.new.cells.items c.self.inside.bindings.items c.append_for.new.bindings.items c.self.inside.trail c.push.new.self put.term 0 refl put.put put.count g;
      same = put.same;
      slots = put.slots;
      newer = put.newer;
      set = put.set;
    } in
    subst (λ (s : Stored). HasLoaded s new c.args.slots.now.items c.append_for.new.slots.items (term_of c.args.symbols.now)) c.self.view_is k
