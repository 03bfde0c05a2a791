use Rattle.std.proofs.Common.{get_or, sym, ◌∙◌, ap, arith}
use Rattle.std.proofs.lemmas.List.{get_or_default, length-set}
use Rattle.apd_divide.specs.declared.node.NodeRow.{NodeRow}
use Rattle.apd_divide.specs.declared.node.Standing.TheVariants.{Cleared}
use Rattle.apd_divide.specs.Choice.{is_listed}
use Rattle.apd_divide.specs.Kept.{forest_from}
use Rattle.apd_divide.proofs.Doubting.{by_true, by_false}
use Rattle.apd_divide.proofs.Cleared.{clears_first, clears_at, clears_all}
use Rattle.apd_divide.proofs.walk.clear_listed.Goals as goal

pub rows-init : goal.rows-init
rows-init c = clears_first (is_listed c.args.preds.now) c.args.rows.now c.requires

pub rows-smaller-then-is_cleared : goal.rows-smaller-then-is_cleared
rows-smaller-then-is_cleared c =
    let s = clears_at (is_listed c.args.preds.now) (forest_from c.args.rows.now) c.rows.rows c.rows.at (get_or c.rows.rows c.rows.at c.index-rows-at.result) c.rows-test.true c.rows.invariant (ap (λ x. get_or c.rows.rows c.rows.at x) c.index-rows-at.is) in
    let p = s.positive in
    let l = c.rows-test.true in
    omega (arith, p, l)

pub rows-preserved-then-is_cleared : goal.rows-preserved-then-is_cleared
rows-preserved-then-is_cleared c =
    let s = clears_at (is_listed c.args.preds.now) (forest_from c.args.rows.now) c.rows.rows c.rows.at (get_or c.rows.rows c.rows.at c.index-rows-at.result) c.rows-test.true c.rows.invariant (ap (λ x. get_or c.rows.rows c.rows.at x) c.index-rows-at.is) in
    s.passes (by_true c.is_cleared.result _ _ c.if-is_cleared.true c.is_cleared.ensures)

pub rows-smaller-then-is_listed_suspect : goal.rows-smaller-then-is_listed_suspect
rows-smaller-then-is_listed_suspect c =
    let s = clears_at (is_listed c.args.preds.now) (forest_from c.args.rows.now) c.rows.rows c.rows.at (get_or c.rows.rows c.rows.at c.index-rows-at.result) c.rows-test.true c.rows.invariant (ap (λ x. get_or c.rows.rows c.rows.at x) c.index-rows-at.is) in
    let p = s.positive in
    let l = c.rows-test.true in
    let n = length-set c.rows.rows c.rows.at (record (get_or c.rows.rows c.rows.at c.index-rows-at-then-is_listed_suspect.result) { standing = Cleared }) in
    omega (arith, p, l, n)

pub rows-preserved-then-is_listed_suspect : goal.rows-preserved-then-is_listed_suspect
rows-preserved-then-is_listed_suspect c =
    let s = clears_at (is_listed c.args.preds.now) (forest_from c.args.rows.now) c.rows.rows c.rows.at (get_or c.rows.rows c.rows.at c.index-rows-at.result) c.rows-test.true c.rows.invariant (ap (λ x. get_or c.rows.rows c.rows.at x) c.index-rows-at.is) in
    s.strikes (sym c.is_listed_suspect.ensures ∙ c.if-is_listed_suspect.true) _
    (ap (λ (x : NodeRow). record x { standing = Cleared }) (get_or_default c.rows.rows c.rows.at c.index-rows-at-then-is_listed_suspect.result c.index-rows-at.result c.rows-test.true))

pub rows-preserved : goal.rows-preserved
rows-preserved c =
    let s = clears_at (is_listed c.args.preds.now) (forest_from c.args.rows.now) c.rows.rows c.rows.at (get_or c.rows.rows c.rows.at c.index-rows-at.result) c.rows-test.true c.rows.invariant (ap (λ x. get_or c.rows.rows c.rows.at x) c.index-rows-at.is) in
    s.enters_it (by_false c.is_cleared.result _ _ c.if-is_cleared.false c.is_cleared.ensures)
    (sym c.is_listed_suspect.ensures ∙ c.if-is_listed_suspect.false)

pub returns : goal.returns
returns c = clears_all (is_listed c.args.preds.now) (forest_from c.args.rows.now) c.rows.rows c.rows.at c.rows-test.false c.rows.invariant
