use Rattle.std.proofs.Common.{◌≡◌, ◌∷◌, ◌++◌, ◌-◌, ◌∙◌, [], ap, length, arith, refl, rules, sym, w64, FitsSigned}
use Rattle.std.specs.Prelude.{max}
use Rattle.std.proofs.lemmas.Int.{to_z-of_z}
use Rattle.std.proofs.lemmas.List.{append-nil, length-append, take_at}
use Rattle.apd_term.specs.declared.term.Sym.TheVariants.{Int}
use Rattle.apd_term.specs.Term.{integer}
use Rattle.apd_cells.proofs.Following.{viewed}
use Rattle.apd_cells.proofs.Loading.{heap_loaded}
use Rattle.apd_cells.proofs.Recent.{sizes_behind}
use Rattle.apd_cells.proofs.Touching.{marked_loaded}
use Rattle.apd_cells.proofs.Flat.{compound_loaded, short_put}
use Rattle.apd_cells.proofs.heap.Heap.load_integer.Goals as goal

pub invariant_of-self-2 : goal.invariant_of-self-2
invariant_of-self-2 c =
    let cells = c.self.inside.cells.items in
    let new = c.push_reserved.new.self.items in
    let bindings = c.self.inside.bindings.items in
    let one = Int c.args.value ∷ [] in
    let e : c.len-cells.result ≡ length cells = omega arith in
    let f : c.len-variables.result ≡ length bindings = omega arith in
    let fits : FitsSigned w64 c.args.value = search rules in
    let put : new ≡ cells ++ one =
    c.push_reserved.ensures.items ∙ ap (λ i. c.room_for_one.new.v.items ++ Int i ∷ []) (to_z-of_z w64 c.args.value fits) ∙ ap (λ xs. xs ++ one) c.room_for_one.ensures.items in
    let longest : c.max-self-inside.result ≡ max c.self.inside.longest (length new - length cells) =
    omega (arith, c.max-self-inside.ensures, ap length put, length-append cells one) in
    let g = c.in_ok-push.ensures.ok ∙ ap (λ n. n ∷ c.self.inside.trail) c.in_ok-note.ensures ∙ rw (e, f) refl in (
      heap_loaded cells new bindings bindings c.self.inside.trail c.push.new.self (integer c.args.value) 0
          c.self.invariant.0 put refl (0, sym (append-nil bindings)) g,
      marked_loaded cells new one (length bindings) c.self.inside.trail c.push.new.self c.self.inside.touched c.self.inside.front _
          c.self.invariant.0.kept c.self.invariant.1 put g (rw (e, f) refl),
      c.self.invariant.2 ∙ sym (compound_loaded cells new c.self.inside.trail c.push.new.self _ (rw put (take_at cells one (length cells) refl)) g),
      short_put cells new (length bindings) c.self.inside.trail (integer c.args.value) c.self.inside.longest _
          c.self.invariant.0.kept put c.self.invariant.3 longest,
      sizes_behind (viewed cells bindings c.self.inside.trail) _ one (length bindings) c.self.inside.sizes c.self.invariant.0.kept (rw (put, g) refl) c.self.invariant.4,
    )
