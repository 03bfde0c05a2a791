-- The first suspect that has such a label, by its place.
use Rattle.std.proofs.Common.{◌≡◌, suc, ◌+◌, Bool, false, List, [], ◌∷◌, ◌++◌, get_or, length, None, refl, sym, ◌∙◌, ap, arith}
use Rattle.std.specs.Option.{option_map}
use Rattle.apd_term.specs.Term.{Term}
use Rattle.apd_term.specs.declared.term.Pred.{Pred}
use Rattle.apd_divide.specs.declared.node.Standing.TheVariants.{Open, Cleared, Doubted}
use Rattle.apd_divide.specs.declared.node.NodeRow.{NodeRow}
use Rattle.apd_term.specs.declared.instance.Instance.{Instance}
use Rattle.apd_divide.specs.Tree.{Tree, Forest, node, bare, beside, children, clause_at, instance, doubts_of, candidates}
use Rattle.apd_divide.specs.Choice.{Way, cut, to_such, first_such, has_such, have_such, is_listed}
use Rattle.apd_divide.specs.Rows.{nodes, rows_of, way_number, number_among}
use Rattle.apd_divide.specs.Kept.{Kept, IsKept, tree_of, forest_from}
use Rattle.apd_divide.proofs.Seeking.{forest-of}
use Rattle.apd_divide.proofs.Kept.{own_row, own-clause, own-instance, at_root}
use Rattle.apd_divide.proofs.Doubting.{is_there, cut-number, there_none, instance_is}

way_below : (way : Way) (x : Tree) → way_number way x ≡ option_map suc (number_among way (children x))
way_below way (node s c t ts) = refl

module _ (such : Term → Bool) where
  abbrev way : Way
  way = to_such such

  pub next_none : (x : Tree) (part : List NodeRow) → part ≡ rows_of (children x) → number_among way (forest_from part) ≡ None → first_such such x ≡ None
  next_none x part is e =
      let f : number_among way (children x) ≡ None = ap (number_among way) (sym (forest-of part (children x) is)) ∙ e in
      let g : way_number way x ≡ None = way_below way x ∙ ap (option_map suc) f in
      there_none (cut way x) (cut-number way x ∙ ap is_there g)

-- the root's instance, and those of the nodes that were judged unknown
pub candidates_are : (k : Kept) (r : NodeRow) (i : Instance) (part : List NodeRow) (first made out : List Instance) → IsKept k → r ≡ get_or k.rows k.root r → i.clause ≡ r.clause → i.tuple ≡ r.tuple
    → part ≡ rows_of (children (tree_of k)) → first ≡ [] → made ≡ first ++ i ∷ [] → out ≡ made ++ doubts_of (forest_from part) → out ≡ candidates (tree_of k)
candidates_are k r i part first made out kept is c t trees none one more =
    let x = tree_of k in
    let own : r ≡ own_row x = is ∙ (at_root k kept).is r in
    let same : i ≡ record { clause = clause_at x; tuple = instance x } =
    instance_is i (clause_at x) (instance x) (c ∙ ap (λ (q : NodeRow). q.clause) own ∙ own-clause x) (t ∙ ap (λ (q : NodeRow). q.tuple) own ∙ own-instance x) in
    let m : made ≡ i ∷ [] = one ∙ ap (λ z. z ++ i ∷ []) none in
    more ∙ ap (λ z. z ++ doubts_of (forest_from part)) m ∙ ap (λ ts. i ∷ doubts_of ts) (forest-of part (children x) trees) ∙ ap (λ j. j ∷ doubts_of (children x)) same

-- Where nothing is listed, no suspect is.
nothing_listed : (ps : List Pred) → length ps ≡ 0 → (t : Term) → is_listed ps t ≡ false
nothing_listed [] e t = refl
nothing_listed (p ∷ ps) e t = absurd (omega (arith, e))

module _ (such : Term → Bool) (none : (t : Term) → such t ≡ false) where
  mutual
    has_none_such : (x : Tree) → has_such such x ≡ false
    has_none_such (node Open c t ts) = rw (none t.head, have_none_such ts) refl
    has_none_such (node Cleared c t ts) = refl
    has_none_such (node Doubted c t ts) = have_none_such ts

    have_none_such : (xs : Forest) → have_such such xs ≡ false
    have_none_such bare = refl
    have_none_such (beside x xs) = rw (has_none_such x, have_none_such xs) refl

  none_among : (xs : Forest) → number_among (to_such such) xs ≡ None
  none_among bare = refl
  none_among (beside x xs) = rw (has_none_such x) (ap (option_map (λ j. nodes x + j)) (none_among xs))

pub none_listed : (ps : List Pred) (xs : Forest) → length ps ≡ 0 → number_among (to_such (is_listed ps)) xs ≡ None
none_listed ps xs e = none_among (is_listed ps) (nothing_listed ps e) xs
