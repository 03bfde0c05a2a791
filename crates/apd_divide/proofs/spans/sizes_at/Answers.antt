use Rattle.std.proofs.Common.{◌<◌, ◌≤◌, ◌∙◌, get_or, ap, subst, arith}
use Rattle.apd_divide.proofs.Spanning.{spans_first, spans_at, spans_within, spans_all, weight_at}
use Rattle.apd_divide.proofs.spans.sizes_at.Goals as goal

pub children-init : goal.children-init
children-init c = spans_first c.args.rows.now c.args.at c.requires.followed

pub bounds-rows-end : goal.bounds-rows-end
bounds-rows-end c =
    spans_within c.args.rows.now c.args.at c.children.end c.children._child c.children.below c.children.invariant
    (subst (λ n. c.children._child < n) (c.children.invariant.arity_is (get_or c.args.rows.now c.args.at c.index-rows-at.result) (ap (λ x. get_or c.args.rows.now c.args.at x) c.index-rows-at.is)) c.children-test.true)

pub overflow_add-below : goal.overflow_add-below
overflow_add-below c =
    let more = subst (λ n. c.children._child < n) (c.children.invariant.arity_is (get_or c.args.rows.now c.args.at c.index-rows-at.result) (ap (λ x. get_or c.args.rows.now c.args.at x) c.index-rows-at.is)) c.children-test.true in
    let s = spans_at c.args.rows.now c.args.at c.children.end c.children._child c.children.below c.index-rows-end.result c.children.invariant more c.index-rows-end.is in
    let light = s.light in
    let few = c.requires.few in
    omega (arith, light, few)

pub children-preserved : goal.children-preserved
children-preserved c =
    let more = subst (λ n. c.children._child < n) (c.children.invariant.arity_is (get_or c.args.rows.now c.args.at c.index-rows-at.result) (ap (λ x. get_or c.args.rows.now c.args.at x) c.index-rows-at.is)) c.children-test.true in
    (spans_at c.args.rows.now c.args.at c.children.end c.children._child c.children.below c.index-rows-end.result c.children.invariant more c.index-rows-end.is).next

pub weight_by-requires : goal.weight_by-requires
weight_by-requires c =
    let all = subst (λ n. n ≤ c.children._child) (c.children.invariant.arity_is (get_or c.args.rows.now c.args.at c.index-rows-at.result) (ap (λ x. get_or c.args.rows.now c.args.at x) c.index-rows-at.is)) c.children-test.false in
    let light = (spans_all c.args.rows.now c.args.at c.children.end c.children._child c.children.below c.children.invariant all).light in
    let few = c.requires.few in
    omega (arith, light, few)

pub returns-clause-span : goal.returns-clause-span
returns-clause-span c =
    let all = subst (λ n. n ≤ c.children._child) (c.children.invariant.arity_is (get_or c.args.rows.now c.args.at c.index-rows-at.result) (ap (λ x. get_or c.args.rows.now c.args.at x) c.index-rows-at.is)) c.children-test.false in
    (spans_all c.args.rows.now c.args.at c.children.end c.children._child c.children.below c.children.invariant all).nodes_are

pub returns-clause-weight : goal.returns-clause-weight
returns-clause-weight c =
    let all = subst (λ n. n ≤ c.children._child) (c.children.invariant.arity_is (get_or c.args.rows.now c.args.at c.index-rows-at.result) (ap (λ x. get_or c.args.rows.now c.args.at x) c.index-rows-at.is)) c.children-test.false in
    c.weight_by.ensures
    ∙ weight_at c.args.rows.now c.args.at c.children.below (get_or c.args.rows.now c.args.at c.index-rows-at-2.result) c.requires.followed (ap (λ x. get_or c.args.rows.now c.args.at x) c.index-rows-at-2.is)
    (spans_all c.args.rows.now c.args.at c.children.end c.children._child c.children.below c.children.invariant all).weights_are
