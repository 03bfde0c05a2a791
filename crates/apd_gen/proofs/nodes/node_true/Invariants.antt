use Rattle.std.proofs.Common.{}
use Rattle.apd_gen.specs.Nodes.{IsReached, wrong_node}
use Rattle.apd_gen.proofs.nodes.node_true.Given as goal

abbrev pub invariant-halvings : goal.invariant-halvings
invariant-halvings l = record {
  below : IsReached l.i l.at → IsReached l.i (wrong_node l.n);
  back : IsReached l.i (wrong_node l.n) → IsReached l.i l.at;
}

abbrev pub decreases-halvings : goal.decreases-halvings
decreases-halvings l = l.at
