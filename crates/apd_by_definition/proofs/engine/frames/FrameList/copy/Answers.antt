use Rattle.std.proofs.Common.{map, ap, ◌∙◌}
use Rattle.apd_by_definition.specs.Shared.{frame_of}
use Rattle.apd_by_definition.proofs.Nodes.{shared_all}
use Rattle.apd_by_definition.proofs.engine.frames.FrameList.copy.Goals as goal

pub returns : goal.returns
returns c =
    shared_all c.deref-node-items.result.now c.nodes.nodes.items c.args.self.now c.nodes.node-index
    (ap (map frame_of) c.deref-node-items.ensures.value ∙ c.self.view_is) c.nodes-test.false c.nodes.invariant
