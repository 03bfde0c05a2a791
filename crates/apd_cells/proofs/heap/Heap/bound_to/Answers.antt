use Rattle.std.proofs.Common.{◌<◌, ◌∙◌, length, arith, sym}
use Rattle.apd_cells.proofs.Following.{heap_leads}
use Rattle.apd_cells.proofs.heap.Heap.bound_to.Goals as goal

pub returns-in-At : goal.returns-in-At
returns-in-At c =
    let there : c.args.v < length c.self.inside.bindings.items = omega (arith, c.if-v-len.false) in
    heap_leads c.args.self.now c.self.inside.cells.items c.self.inside.bindings.items c.self.inside.trail c.args.v c.in-At.to c.index.result.now
    c.self.view_is c.self.invariant.0 there c.index.ensures (sym c.get.ensures ∙ c.in-At.is)
