use Rattle.std.proofs.Common.{◌∙◌, ap, arith}
use Rattle.apd_frames.specs.Linked.{oldest}
use Rattle.apd_frames.proofs.Spans.{keeps_links, keeps_spanned, left_so}
use Rattle.apd_frames.proofs.links.Links.keep.Goals as goal

pub invariant_of-self : goal.invariant_of-self
invariant_of-self c =
    keeps_spanned c.self.inside.cells.items c.self.inside.oldest_first.items c.args.count c.self.invariant c.truncate.new.self.items c.cells_left-cells.result c.truncate-2.new.self.items
    (left_so c.self.inside.cells.items c.self.inside.oldest_first.items c.as_slice.result.now c.args.count c.len.result c.cells_left-cells.result c.as_slice.ensures.value (omega arith) c.cells_left-cells.ensures)
    c.truncate.ensures.items c.truncate-2.ensures.items

pub returns : goal.returns
returns c =
    keeps_links c.self.inside.cells.items c.self.inside.oldest_first.items c.args.count c.self.invariant c.truncate.new.self.items c.cells_left-cells.result c.truncate-2.new.self.items
    (left_so c.self.inside.cells.items c.self.inside.oldest_first.items c.as_slice.result.now c.args.count c.len.result c.cells_left-cells.result c.as_slice.ensures.value (omega arith) c.cells_left-cells.ensures)
    c.truncate.ensures.items c.truncate-2.ensures.items
    ∙ ap (oldest c.args.count) c.self.view_is
