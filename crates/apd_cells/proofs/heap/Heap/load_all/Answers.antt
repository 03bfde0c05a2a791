use Rattle.std.proofs.Common.{◌≡◌, ◌∷◌, ◌-◌, ◌∙◌, ap, length, arith, refl, subst, sym}
use Rattle.std.specs.Prelude.{max}
use Rattle.apd_cells.specs.Slots.{HasLoadedAll, put_terms}
use Rattle.apd_cells.specs.Store.{with_symbols}
use Rattle.apd_cells.specs.Stored.{Stored}
use Rattle.apd_cells.proofs.Following.{viewed}
use Rattle.apd_cells.proofs.Loading.{heap_behind, viewed_behind}
use Rattle.apd_cells.proofs.Recent.{sizes_behind}
use Rattle.apd_cells.proofs.Together.{are_put}
use Rattle.apd_cells.proofs.Touching.{marked_loaded}
use Rattle.apd_cells.proofs.Flat.{compound_loaded, short_behind}
use Rattle.apd_cells.proofs.heap.Heap.load_all.Goals as goal

pub invariant_of-self-2 : goal.invariant_of-self-2
invariant_of-self-2 c =
    let cells = c.self.inside.cells.items in
    let new = c.append_all.new.cells.items in
    let bindings = c.self.inside.bindings.items in
    let n = length bindings in
    let m = length c.append_all.new.bindings.items in
    let trail = c.self.inside.trail in
    let xs = put_terms new c.append_all.new.slots.items c.args.terms.now in
    let e : c.len-cells.result ≡ length cells = omega arith in
    let f : c.len-variables.result ≡ n = omega arith in
    let longest : c.max-self-inside.result ≡ max c.self.inside.longest (length new - length cells) =
    omega (arith, c.max-self-inside.ensures) in
    let put = are_put cells new n m c.args.slots.now.items c.append_all.new.slots.items c.args.terms.now c.in_default.ensures.put in
    let g = c.in_ok-push.ensures.ok ∙ ap (λ n. n ∷ trail) c.in_ok-note.ensures ∙ rw (e, f) refl in (
      heap_behind cells new xs bindings c.append_all.new.bindings.items trail c.push.new.self c.self.invariant.0 put.whole put.put put.count c.in_default.ensures.more g,
      marked_loaded cells new xs n trail c.push.new.self c.self.inside.touched c.self.inside.front _ c.self.invariant.0.kept c.self.invariant.1 put.put g (rw (e, f) refl),
      c.self.invariant.2 ∙ sym (compound_loaded cells new trail c.push.new.self _ c.in_default.ensures.front g),
      short_behind cells new xs n trail c.self.inside.longest _ c.self.invariant.0.kept put.whole put.put c.self.invariant.3 longest,
      sizes_behind (viewed cells bindings trail) _ xs m c.self.inside.sizes c.self.invariant.0.kept
          (viewed_behind (viewed cells bindings trail) cells new xs bindings c.append_all.new.bindings.items trail c.push.new.self refl put.put g) c.self.invariant.4,
    )

pub returns-clause-ok : goal.returns-clause-ok
returns-clause-ok c =
    let cells = c.self.inside.cells.items in
    let new = c.append_all.new.cells.items in
    let bindings = c.self.inside.bindings.items in
    let n = length bindings in
    let m = length c.append_all.new.bindings.items in
    let trail = c.self.inside.trail in
    let slots = c.append_all.new.slots.items in
    let xs = put_terms new slots c.args.terms.now in
    let e : c.len-cells.result ≡ length cells = omega arith in
    let f : c.len-variables.result ≡ n = omega arith in
    let placing = c.in_default.ensures.put in
    let put = are_put cells new n m c.args.slots.now.items slots c.args.terms.now placing in
    let g = c.in_ok-push.ensures.ok ∙ ap (λ n. n ∷ trail) c.in_ok-note.ensures ∙ rw (e, f) refl in
    let old = viewed cells bindings trail in
    let now = viewed new c.append_all.new.bindings.items c.push.new.self in
    let k : HasLoadedAll old now c.args.slots.now.items slots c.args.terms.now =
    record {
      is = viewed_behind old cells new xs bindings c.append_all.new.bindings.items trail c.push.new.self refl put.put g ∙ ap (with_symbols old xs) put.count;
      slots = placing.slots;
      newer = placing.newer;
      set = put.set;
    } in
    subst (λ (s : Stored). HasLoadedAll s now c.args.slots.now.items slots c.args.terms.now) c.self.view_is k
