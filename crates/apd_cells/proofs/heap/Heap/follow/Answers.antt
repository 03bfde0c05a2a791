use Rattle.apd_cells.proofs.Following.{HeapFollows, heap_below, heap_follows}
use Rattle.std.proofs.Common.{inl, inr, subst, sym, arith, get_or}
use Rattle.apd_term.specs.declared.term.Sym.TheVariants.{Var}
use Rattle.apd_cells.specs.Heap.{IsVariable}
use Rattle.apd_cells.proofs.heap.Heap.follow.Goals as goal
use Rattle.std.proofs.Common.{◌∙◌}

pub index-requires-in-Var : goal.index-requires-in-Var
index-requires-in-Var c =
    let h = heap_below c.args.self.now c.self.inside.cells.items c.self.inside.bindings.items c.self.inside.trail c.bindings.at c.in-Var.v c.index.result.now
    c.self.view_is c.self.invariant.0 c.bindings.invariant.inside c.index.ensures c.in-Var.is in
    omega (arith, h)

step : (c : goal.In-At) → HeapFollows c.args.self.now c.bindings.at c.in-At.next
step c =
    heap_follows c.args.self.now c.self.inside.cells.items c.self.inside.bindings.items c.self.inside.trail c.bindings.at c.in-Var.v c.in-At.next c.index.result.now c.index-in-Var.result.now
    c.self.view_is c.self.invariant.0 c.bindings.invariant.inside c.index.ensures c.in-Var.is c.index-in-Var.ensures (sym c.get.ensures ∙ c.in-At.is)

pub bindings-smaller : goal.bindings-smaller
bindings-smaller c = (step c).smaller

pub bindings-preserved : goal.bindings-preserved
bindings-preserved c = record {
  inside = (step c).inside;
  same = (step c).same ∙ c.bindings.invariant.same;
  start = elim c.bindings.invariant.start [
    | inl e ↦ inr (subst (λ x. IsVariable (get_or c.args.self.now.cells x (Var 0))) e (step c).start)
    | inr v ↦ inr v
  ];
}
