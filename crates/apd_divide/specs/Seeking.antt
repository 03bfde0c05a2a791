-- From where on a suspect is looked for.
use Rattle.std.specs.Prelude.{◌≡◌, ℕ, ◌+◌, ◌≤◌, List, ◌++◌, drop, Some}
use Rattle.apd_divide.specs.declared.node.NodeRow.{NodeRow}
use Rattle.apd_divide.specs.Tree.{Tree, Forest, weights, suspects, children}
use Rattle.apd_divide.specs.Choice.{Way, stepping}
use Rattle.apd_divide.specs.Rows.{rows_of, number_among}
use Rattle.apd_divide.specs.Kept.{Kept, tree_of}

-- from a place on there are rows of trees, and the way on them leads to where it leads on the whole
pub record Seeks (way : Way) (whole : Forest) (rs : List NodeRow) (at : ℕ) : Type 0 where
  pub left : Forest
  pub back : List NodeRow
  pub rows_are : drop at rs ≡ rows_of left ++ back
  pub some : 1 ≤ weights left
  pub leads : (j : ℕ) → number_among way left ≡ Some j → number_among way whole ≡ Some (at + j)

-- below a root with suspects the first of them, in the order in which a node comes after those below it, is found from this
-- place on, which is counted from the row behind the root
abbrev pub LeadsBelow : Tree → ℕ → Type 0
LeadsBelow x at = 1 ≤ suspects x → Seeks stepping (children x) (rows_of (children x)) at

abbrev pub Leads : Kept → ℕ → Type 0
Leads k at = LeadsBelow (tree_of k) at
