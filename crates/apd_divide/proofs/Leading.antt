-- Judging a node: from where on the first suspect is found then.
use Rattle.std.proofs.Common.{◌≡◌, ℕ, ◌+◌, ◌-◌, ◌<◌, ◌≤◌, Bool, true, [], Some, refl, sym, ◌∙◌, ap, subst, arith}
use Rattle.std.proofs.lemmas.List.{append-nil}
use Rattle.apd_divide.specs.declared.node.Standing.{Standing}
use Rattle.apd_divide.specs.declared.node.Standing.TheVariants.{Open, Cleared, Doubted}
use Rattle.apd_divide.specs.Tree.{Tree, Forest, node, bare, beside, standing, weight, weight_by, weights, suspects, children}
use Rattle.apd_divide.specs.Choice.{stepping}
use Rattle.apd_divide.specs.Rows.{rows_of, nodes}
use Rattle.apd_divide.specs.Kept.{Kept, IsKept, tree_of}
use Rattle.apd_divide.specs.Seeking.{Seeks, LeadsBelow, Leads}
use Rattle.apd_divide.proofs.Weights.{le_is}
use Rattle.apd_divide.proofs.Rows.{one_node}
use Rattle.apd_divide.proofs.Seeking.{no_suspects, has_below, pass_tree, enter_tree}

-- trees below the root, from a place on that is counted from the row behind it: where they have suspects, the first suspect is
-- found from there on
abbrev IsNext : Tree → ℕ → Forest → Type 0
IsNext x at F = 1 ≤ weights F → (s : Seeks stepping (children x) (rows_of (children x)) at) × (s.left ≡ F)

-- the trees to which the walk has come: the root; or others, and the first suspect is found among them while no suspect was
-- passed by
pub data Below (x : Tree) (root : ℕ) (on : Bool) (at : ℕ) (F : Forest) : Type 0 where
  at_root : at ≡ root → F ≡ beside x bare → Below x root on at F
  further : root < at → (on ≡ true → IsNext x (at - (root + 1)) F) → Below x root on at F

zero_more : (j : ℕ) → j ≡ 0 + j
zero_more j = omega arith

next_first : (x : Tree) → IsNext x 0 (children x)
next_first x some = (
  record { left = children x; back = []; rows_are = sym (append-nil (rows_of (children x))); some = some; leads = λ j f. f ∙ ap Some (zero_more j) },
  refl,
)

pub leads_first : (x : Tree) → LeadsBelow x 0
leads_first x some = (next_first x some).0

pub kept_leads : (k : Kept) → IsKept k → Leads k 0
kept_leads k h = leads_first (tree_of k)

pub stands_open : (s : Standing) (n : ℕ) → 1 ≤ weight_by s n → ¬ (s ≡ Cleared)
stands_open Open n h = λ e. absurd (cc)
stands_open Cleared n h = absurd (omega (arith, h))
stands_open Doubted n h = λ e. absurd (cc)

no_more : (x : Tree) → ¬ (standing x ≡ Cleared) → suspects x ≤ weight x
no_more (node Open c t ts) n = omega arith
no_more (node Cleared c t ts) n = absurd (n refl)
no_more (node Doubted c t ts) n = omega arith

same_tree : (x y : Tree) (xs ys : Forest) → beside x xs ≡ beside y ys → (x ≡ y) × (xs ≡ ys)
same_tree x y xs ys e = (cc, cc)

none_bare : (F : Forest) → F ≡ bare → ¬ (1 ≤ weights F)
none_bare F e some = let z : weights F ≡ 0 = ap weights e in absurd (omega (arith, z, some))

-- a tree is passed by
pub below_passes : (x : Tree) (root at : ℕ) (on now : Bool) (y : Tree) (F : Forest) → (now ≡ true → (on ≡ true) × (weight y ≡ 0)) → Below x root on at (beside y F) → Below x root now (at + nodes y) F
below_passes x root at on now y F g h = elim h [
  | at_root e f ↦
      let o = one_node y in
      further (omega (arith, e, o)) (λ t some. absurd (none_bare F (same_tree y x F bare f).1 some))
  | further l b ↦
      further (omega (arith, l)) (λ t some.
      let z : weight y ≡ 0 = (g t).1 in
      let s = b (g t).0 (omega (arith, some)) in
      let i : at - (root + 1) + nodes y ≡ at + nodes y - (root + 1) = omega (arith, l) in
      subst (λ m. (s : Seeks stepping (children x) (rows_of (children x)) m) × (s.left ≡ F)) i
      (pass_tree stepping (children x) (rows_of (children x)) (at - (root + 1)) y F s.0 s.1 (no_suspects y z) some))
]

-- a tree is entered
pub below_enters : (x : Tree) (root at : ℕ) (on : Bool) (y : Tree) (F : Forest) → ¬ (standing y ≡ Cleared) → Below x root on at (beside y F) → Below x root on (at + 1) (children y)
below_enters x root at on y F n h = elim h [
  | at_root e f ↦
      let i : 0 ≡ at + 1 - (root + 1) = omega (arith, e) in
      further (omega (arith, e)) (λ t. subst (λ (z : Tree). IsNext x (at + 1 - (root + 1)) (children z)) (sym (same_tree y x F bare f).0) (subst (λ m. IsNext x m (children x)) i (next_first x)))
  | further l b ↦
      further (omega (arith, l)) (λ t some.
      let w : suspects y ≤ weight y = no_more y n in
      let some_below : 1 ≤ suspects y = some in
      let heavy : 1 ≤ weight y = omega (arith, w, some_below) in
      let s = b t (omega (arith, heavy)) in
      let i : at - (root + 1) + 1 ≡ at + 1 - (root + 1) = omega (arith, l) in
      subst (λ m. (s : Seeks stepping (children x) (rows_of (children x)) m) × (s.left ≡ children y)) i
      (enter_tree stepping (children x) (rows_of (children x)) (at - (root + 1)) y F s.0 s.1 (le_is 1 (weight y) heavy) (has_below (suspects y) some_below) some))
]

-- a tree that has suspects is a place from which on the first is found
pub below_leads : (x : Tree) (root at : ℕ) (on : Bool) (y : Tree) (F : Forest) → on ≡ true → 1 ≤ weight y → Below x root on at (beside y F) → LeadsBelow x (at - (root + 1))
below_leads x root at on y F t heavy h = elim h [
  | at_root e f ↦
      let i : 0 ≡ at - (root + 1) = omega (arith, e) in
      subst (LeadsBelow x) i (leads_first x)
  | further l b ↦ λ some. (b t (omega (arith, heavy))).0
]
