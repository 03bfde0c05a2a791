-- The nodes of a tree, numbered from 1: those right below node i are 2i and 2i + 1. One of them is wrong.
use Rattle.std.specs.Prelude.{◌≡◌, ℕ, zero, suc, ◌+◌, ◌*◌, ◌/◌, ◌≤◌, ◌==◌, ◌||◌, not, Bool, false}
use Rattle.apd_gen.specs.declared.nodes.TheConstants.{MOST_NODES}

-- how many nodes a tree may have
abbrev pub IsNodeCount : ℕ → Type 0
IsNodeCount n = (1 ≤ n) × (n ≤ MOST_NODES)

-- a node of n
abbrev pub IsNode : ℕ → ℕ → Type 0
IsNode n i = (1 ≤ i) × (i ≤ n)

-- the node that is wrong, of n
abbrev pub wrong_node : ℕ → ℕ
wrong_node n = 7 * n / 10 + 1

-- a number after k halvings
abbrev pub halved : ℕ → ℕ → ℕ
halved zero j = j
halved (suc k) j = halved k (j / 2)

-- some number of halvings of j gives i: node i is j, or stands above it
abbrev pub IsReached : ℕ → ℕ → Type 0
IsReached i j = (k : ℕ) × (halved k j ≡ i)

-- the same as a test: whether one of the first m numbers that halving j gives is i
abbrev pub is_reached_in : ℕ → ℕ → ℕ → Bool
is_reached_in zero i j = false
is_reached_in (suc m) i j = (j == i) || is_reached_in m i (j / 2)

-- whether node i of n is true: neither the wrong one nor above it
abbrev pub is_true_node : ℕ → ℕ → Bool
is_true_node n i = not (is_reached_in (wrong_node n) i (wrong_node n))
