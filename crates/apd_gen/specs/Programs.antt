-- The program of a tree: a clause on a line for each node, whose goals are the nodes right below it.
use Rattle.std.specs.Prelude.{ℕ, ◌+◌, ◌*◌, nat_le, List, [], ◌∷◌, ◌++◌, filter, flat_map, codes}
use Rattle.std.specs.List.{range_with_len}
use Rattle.std.specs.Fmt.{decimal}

-- the node as an atom
abbrev pub name_of : ℕ → List ℕ
name_of i = codes "n" ++ decimal i

-- the nodes right below node i, of n
abbrev pub below : ℕ → ℕ → List ℕ
below n i = filter (λ j. nat_le j n) (2 * i ∷ (2 * i + 1) ∷ [])

-- the body whose goals are these nodes
abbrev pub body_of : List ℕ → List ℕ
body_of [] = []
body_of (j ∷ js) = codes " :- " ++ name_of j ++ flat_map (λ k. codes ", " ++ name_of k) js

-- the line of node i, of n
abbrev pub line_of : ℕ → ℕ → List ℕ
line_of n i = name_of i ++ body_of (below n i) ++ codes ".\n"

-- the program of n nodes
abbrev pub tree_text : ℕ → List ℕ
tree_text n = flat_map (line_of n) (range_with_len 1 n)
