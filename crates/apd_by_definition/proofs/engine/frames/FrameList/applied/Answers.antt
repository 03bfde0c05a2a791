use Rattle.std.proofs.Common.{map, ap, ◌∙◌}
use Rattle.apd_term.specs.Substitution.{term_for}
use Rattle.apd_trace.specs.Frames.{apply_frame}
use Rattle.apd_by_definition.specs.Shared.{frame_of}
use Rattle.apd_by_definition.proofs.Nodes.{nodes_all}
use Rattle.apd_by_definition.proofs.engine.frames.FrameList.applied.Goals as goal

pub returns : goal.returns
returns c =
    nodes_all (term_for c.args.s.now) (apply_frame (term_for c.args.s.now) c.args.first.now) c.deref-node-items.result.now c.nodes.nodes.items c.args.self.now c.nodes.node-index
    (ap (map frame_of) c.deref-node-items.ensures.value ∙ c.self.view_is) c.nodes-test.false c.nodes.invariant
