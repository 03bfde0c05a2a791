-- The rows of a state once its suspects with such a label were judged true in one walk.
use Rattle.std.proofs.Common.{◌≡◌, ℕ, suc, ◌+◌, ◌-◌, ◌≤◌, max, Bool, List, [], ◌∷◌, ◌++◌, map, length, get_or, take, drop, refl, sym, ◌∙◌, ap, subst, arith, append_assoc}
use Rattle.std.proofs.lemmas.List.{append-nil, length-map, drop_at, drop-drop, take_at, take_more}
use borrow.Rule.Slice.PartMut.{put_mid}
use Rattle.apd_term.specs.Term.{Term}
use Rattle.apd_divide.specs.declared.node.NodeRow.{NodeRow}
use Rattle.apd_divide.specs.Tree.{Tree, node, bare, beside, children}
use Rattle.apd_divide.specs.Choice.{EachIsTrue}
use Rattle.apd_divide.specs.Cleared.{all_cleared, cleared_below}
use Rattle.apd_divide.specs.Growing.{blank}
use Rattle.apd_divide.specs.Rows.{rows, rows_of, forest_of, nodes, nodes_of, broadest}
use Rattle.apd_divide.specs.Kept.{Kept, IsKept, tree_of, forest_from, replaced}
use Rattle.apd_divide.proofs.Rows.{length-rows_of}
use Rattle.apd_divide.proofs.Kept.{own_row, own-span, at_root, front_length, replaced-is, marked-tree, marked-kept, marked-length}
use Rattle.apd_divide.proofs.Choosing.{root_at, kept_rows, broadest-three}
use Rattle.apd_divide.proofs.Seeking.{forest-of, whole-of}
use Rattle.apd_divide.proofs.Stacked.{read_rows-blank, blank-forest}
use Rattle.apd_divide.proofs.Cleared.{each-is_true, nodes-cleared_of, nodes-below, standing-below, branching-below, blank-cleared}

module _ (such : Term → Bool) (k : Kept) (r : NodeRow) (kept : IsKept k) (is : r ≡ get_or k.rows k.root r) where
  abbrev end : ℕ
  end = k.root + r.span

  -- the rows below the root
  abbrev part : List NodeRow
  part = take (end - (k.root + 1)) (drop (k.root + 1) k.rows)

  part_is : part ≡ rows_of (children (tree_of k))
  part_is = (root_at k r kept is).below end refl

  pub part-whole : part ≡ rows_of (forest_from part)
  part-whole = whole-of part (children (tree_of k)) part_is

  pub part-fits : end ≤ length k.rows
  part-fits = (root_at k r kept is).fits

  abbrev wanted : Tree
  wanted = cleared_below such (tree_of k)

  below-nodes : (x : Tree) → nodes x ≡ nodes_of (children x) + 1
  below-nodes (node s c t ts) = refl

  span_is : r.span ≡ nodes (tree_of k)
  span_is = ap (λ (q : NodeRow). q.span) (is ∙ (at_root k kept).is r) ∙ own-span (tree_of k)

  -- once they were walked over
  module _ (mid : List NodeRow) (walked : map blank mid ≡ map blank (rows_of (all_cleared such (forest_from part)))) where
    mid_blank : map blank mid ≡ map blank (rows_of (all_cleared such (children (tree_of k))))
    mid_blank = walked ∙ ap (λ f. map blank (rows_of (all_cleared such f))) (forest-of part (children (tree_of k)) part_is)

    mid_long : suc (length mid) ≡ r.span
    mid_long =
        let a : length mid ≡ nodes_of (children (tree_of k)) =
        sym (length-map mid blank) ∙ ap length mid_blank ∙ length-map (rows_of (all_cleared such (children (tree_of k)))) blank ∙ length-rows_of (all_cleared such (children (tree_of k))) ∙ nodes-cleared_of such (children (tree_of k)) in
        let b = below-nodes (tree_of k) in
        let s = span_is in
        omega (arith, a, b, s)

    abbrev walked_rows : List NodeRow
    walked_rows = put_mid (k.root + 1) (end - (k.root + 1)) k.rows mid

    abbrev front : List NodeRow
    front = take k.root k.rows

    abbrev behind : List NodeRow
    behind = drop (end - (k.root + 1)) (drop (k.root + 1) k.rows)

    abbrev own : NodeRow
    own = own_row (tree_of k)

    walked_is : walked_rows ≡ front ++ own ∷ (mid ++ behind)
    walked_is =
        let a = at_root k kept in
        ap (λ z. z ++ (mid ++ behind)) (take_more k.rows k.root own a.within ∙ ap (λ z. front ++ z ∷ []) (a.is own)) ∙ append_assoc front (own ∷ []) (mid ++ behind)

    from_root : drop k.root walked_rows ≡ own ∷ (mid ++ behind)
    from_root = ap (drop k.root) walked_is ∙ drop_at front (own ∷ (mid ++ behind)) k.root (front_length k kept)

    abbrev tree_part : List NodeRow
    tree_part = take (end - k.root) (drop k.root walked_rows)

    tree_part_is : tree_part ≡ own ∷ mid
    tree_part_is =
        let m = mid_long in
        ap (take (end - k.root)) from_root ∙ take_at (own ∷ mid) behind (end - k.root) (omega (arith, m))

    blank_root : (x : Tree) (m : List NodeRow) → map blank m ≡ map blank (rows_of (all_cleared such (children x))) → map blank (own_row x ∷ m) ≡ map blank (rows (cleared_below such x))
    blank_root (node s c t ts) m e = ap (λ z. z ∷ map blank m) (sym (blank-cleared such s c t ts)) ∙ ap (λ z. blank (own_row (node s c t (all_cleared such ts))) ∷ z) e

    tree_blank : map blank tree_part ≡ map blank (rows wanted)
    tree_blank = ap (map blank) tree_part_is ∙ blank_root (tree_of k) mid mid_blank

    tree_forest : forest_from tree_part ≡ beside wanted bare
    tree_forest = ap forest_of (sym (read_rows-blank tree_part)) ∙ ap forest_from tree_blank ∙ blank-forest wanted

    pub tree-alike : map blank tree_part ≡ map blank (rows_of (forest_from tree_part))
    tree-alike = tree_blank ∙ ap (map blank) (sym (append-nil (rows wanted))) ∙ ap (λ f. map blank (rows_of f)) (sym tree_forest)

    pub tree-replaced : (new : List NodeRow) → new ≡ rows_of (forest_from tree_part) → put_mid k.root (end - k.root) walked_rows new ≡ replaced k wanted
    tree-replaced new e =
        let m = mid_long in
        let n = span_is in
        let w = nodes-below such (tree_of k) in
        let length_is : end - k.root ≡ suc (length mid) = omega (arith, m) in
        let new_is : new ≡ rows wanted = e ∙ ap rows_of tree_forest ∙ append-nil (rows wanted) in
        let first : take k.root walked_rows ≡ front = ap (take k.root) walked_is ∙ take_at front (own ∷ (mid ++ behind)) k.root (front_length k kept) in
        let last : drop (end - k.root) (drop k.root walked_rows) ≡ behind = ap (drop (end - k.root)) from_root ∙ drop_at (own ∷ mid) behind (end - k.root) (sym length_is) in
        let places : k.root + 1 + (end - (k.root + 1)) ≡ k.root + nodes wanted = omega (arith, m, n, w) in
        let rest : behind ≡ drop (k.root + nodes wanted) k.rows = drop-drop (end - (k.root + 1)) (k.root + 1) k.rows ∙ ap (λ i. drop i k.rows) places in
        ap (λ z. z ++ (new ++ drop (end - k.root) (drop k.root walked_rows))) first ∙ ap (λ z. front ++ (z ++ drop (end - k.root) (drop k.root walked_rows))) new_is
        ∙ ap (λ z. front ++ (rows wanted ++ z)) (last ∙ rest)

-- The state then.
pub record Passed (such : Term → Bool) (k new : Kept) : Type 0 where
  pub kept : IsKept new
  pub each : EachIsTrue such (tree_of k) (tree_of new)
  pub nodes : length new.rows ≡ length k.rows
  pub branching : broadest new.rows ≡ broadest k.rows

abbrev with_rows : Kept → List NodeRow → Kept
with_rows k rs = record { rows = rs; root = k.root }

pub passed : (such : Term → Bool) (k : Kept) (rs : List NodeRow) → IsKept k → rs ≡ replaced k (cleared_below such (tree_of k)) → Passed such k (with_rows k rs)
passed such k rs h e =
    let y = cleared_below such (tree_of k) in
    let n = nodes-below such (tree_of k) in
    let front = take k.root k.rows in
    record {
      kept = subst (λ z. IsKept (with_rows k z)) (sym e) (marked-kept k y h n (standing-below such (tree_of k)));
      each = subst (EachIsTrue such (tree_of k)) (sym (ap (λ z. tree_of (with_rows k z)) e ∙ marked-tree k y h n)) (each-is_true such (tree_of k));
      nodes = ap length e ∙ marked-length k y h n;
      branching =
          ap broadest (e ∙ replaced-is k y h n) ∙ broadest-three front y h.back ∙ ap (λ b. max (broadest front) (max b (broadest h.back))) (branching-below such (tree_of k))
          ∙ sym (broadest-three front (tree_of k) h.back) ∙ ap broadest (sym (kept_rows k h));
    }
