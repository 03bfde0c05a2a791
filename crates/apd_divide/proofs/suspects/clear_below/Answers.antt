use Rattle.std.proofs.Common.{get_or, ap, arith}
use Rattle.apd_divide.specs.Choice.{is_listed}
use Rattle.apd_divide.specs.Kept.{kept_at}
use Rattle.apd_divide.proofs.Passing.{part-whole, part-fits, tree-alike, tree-replaced}
use Rattle.apd_divide.proofs.suspects.clear_below.Goals as goal

pub slice_bounds-clear_listed-end : goal.slice_bounds-clear_listed-end
slice_bounds-clear_listed-end c =
    let p = part-fits (is_listed c.args.preds.now) (kept_at c.args.rows.now c.args.root) (get_or c.args.rows.now c.args.root c.index-rows-root.result) c.requires.kept (ap (λ x. get_or c.args.rows.now c.args.root x) c.index-rows-root.is) in
    omega (arith, p)

pub clear_listed-requires : goal.clear_listed-requires
clear_listed-requires c =
    part-whole (is_listed c.args.preds.now) (kept_at c.args.rows.now c.args.root) (get_or c.args.rows.now c.args.root c.index-rows-root.result) c.requires.kept (ap (λ x. get_or c.args.rows.now c.args.root x) c.index-rows-root.is)

pub set_spans-requires-clause-alike : goal.set_spans-requires-clause-alike
set_spans-requires-clause-alike c =
    tree-alike (is_listed c.args.preds.now) (kept_at c.args.rows.now c.args.root) (get_or c.args.rows.now c.args.root c.index-rows-root.result) c.requires.kept (ap (λ x. get_or c.args.rows.now c.args.root x) c.index-rows-root.is)
    c.clear_listed.new.rows c.clear_listed.ensures

pub returns : goal.returns
returns c =
    tree-replaced (is_listed c.args.preds.now) (kept_at c.args.rows.now c.args.root) (get_or c.args.rows.now c.args.root c.index-rows-root.result) c.requires.kept (ap (λ x. get_or c.args.rows.now c.args.root x) c.index-rows-root.is)
    c.clear_listed.new.rows c.clear_listed.ensures c.set_spans.new.rows c.set_spans.ensures
