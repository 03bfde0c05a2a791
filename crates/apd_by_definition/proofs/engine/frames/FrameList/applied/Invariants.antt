use Rattle.std.proofs.Common.{◌≡◌, ◌∷◌, map, take}
use Rattle.apd_term.specs.Substitution.{term_for}
use Rattle.apd_trace.specs.Frames.{apply_frame}
use Rattle.apd_by_definition.specs.Shared.{frame_of}
use Rattle.apd_by_definition.proofs.Nodes.{applied_frame_of}
use Rattle.apd_by_definition.proofs.engine.frames.FrameList.applied.Given as goal

abbrev pub invariant-nodes : goal.invariant-nodes
invariant-nodes l = map frame_of l.nodes.items ≡ apply_frame (term_for l.s) l.first ∷ map (applied_frame_of (term_for l.s)) (take l.node-index l.node-items)
