use Rattle.std.proofs.Common.{arith}
use Rattle.apd_gen.specs.Nodes.{wrong_node}
use Rattle.apd_gen.proofs.Halving.{reached-half, half-reached, right-by, test-by}
use Rattle.std.proofs.lemmas.Bool.Decides.{nat_tests}
use Rattle.apd_gen.proofs.nodes.node_true.Goals as goal

pub halvings-preserved : goal.halvings-preserved
halvings-preserved c = record {
  below = λ h. c.halvings.invariant.below (reached-half c.args.i c.halvings.at h);
  back = λ h. half-reached c.args.i c.halvings.at c.halvings-test.true (c.halvings.invariant.back h);
}

pub returns-clause-right : goal.returns-clause-right
returns-clause-right c =
    right-by c.args.i c.halvings.at (wrong_node c.args.n) _ (λ e. grind (arith, nat_tests)) c.halvings.invariant.back

pub returns-clause-test : goal.returns-clause-test
returns-clause-test c =
    test-by c.args.i c.halvings.at (wrong_node c.args.n) c.requires.node.0 c.halvings-test.false c.halvings.invariant.below c.halvings.invariant.back
