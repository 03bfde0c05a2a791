use Rattle.std.proofs.Common.{◌≡◌, map, take}
use Rattle.apd_by_definition.specs.Shared.{frame_of}
use Rattle.apd_by_definition.proofs.engine.frames.FrameList.copy.Given as goal

abbrev pub invariant-nodes : goal.invariant-nodes
invariant-nodes l = map frame_of l.nodes.items ≡ map frame_of (take l.node-index l.node-items)
