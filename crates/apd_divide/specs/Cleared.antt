-- A tree once each suspect with such a label was judged true, one after another in pre-order.
use Rattle.std.specs.Prelude.{Bool, if◌then◌else◌}
use Rattle.apd_term.specs.Term.{Term}
use Rattle.apd_divide.specs.declared.node.Standing.TheVariants.{Open, Cleared, Doubted}
use Rattle.apd_divide.specs.Tree.{Tree, Forest, node, bare, beside}

-- from its root on; what is below a node that is judged true stays as it stands
abbrev mutual
  pub cleared : (Term → Bool) → Tree → Tree
  cleared such (node Open c t ts) = if such t.head then node Cleared c t ts else node Open c t (all_cleared such ts)
  cleared such (node Cleared c t ts) = node Cleared c t ts
  cleared such (node Doubted c t ts) = node Doubted c t (all_cleared such ts)

  pub all_cleared : (Term → Bool) → Forest → Forest
  all_cleared such bare = bare
  all_cleared such (beside x xs) = beside (cleared such x) (all_cleared such xs)

-- below its root
abbrev pub cleared_below : (Term → Bool) → Tree → Tree
cleared_below such (node s c t ts) = node s c t (all_cleared such ts)
