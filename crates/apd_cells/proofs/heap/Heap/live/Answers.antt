use Rattle.std.proofs.Common.{◌∙◌, length}
use Rattle.apd_cells.proofs.Seen.{parts_are}
use Rattle.apd_cells.proofs.heap.Heap.live.Goals as goal

pub returns-clause-parts : goal.returns-clause-parts
returns-clause-parts c =
    parts_are c.self.inside.cells.items c.as_slice.result.now (length c.self.inside.bindings.items) c.len.result c.self.inside.trail c.as_slice-2.result.now c.args.self.now
    c.as_slice.ensures.value (c.len.ensures ∙ c.self.inside.bindings.ok.0) c.as_slice-2.ensures c.self.view_is
