use Rattle.std.proofs.Common.{◌≡◌, length, sym, ap, ◌∙◌, subst}
use Rattle.std.specs.Vec.{with_items}
use Rattle.std.proofs.lemmas.List.{with_items_is}
use Rattle.apd_divide.specs.Tree.{children}
use Rattle.apd_divide.specs.Choice.{is_listed, EachIsTrue, none_left}
use Rattle.apd_divide.specs.Cleared.{cleared_below}
use Rattle.apd_divide.specs.Rows.{broadest}
use Rattle.apd_divide.specs.Kept.{Kept, tree_of, replaced}
use Rattle.apd_divide.proofs.Leading.{kept_leads}
use Rattle.apd_divide.proofs.Seeking.{whole-of}
use Rattle.apd_divide.proofs.Listed.{next_none}
use Rattle.apd_divide.proofs.Passing.{Passed, passed}
use Rattle.apd_divide.proofs.suspects.Suspects.judge_listed.Goals as goal

pub first_listed-requires : goal.first_listed-requires
first_listed-requires c = whole-of c.below.result.now (children (tree_of c.args.self.now)) c.below.ensures.trees

pub returns-in_default-clause-judged : goal.returns-in_default-clause-judged
returns-in_default-clause-judged c =
    none_left (tree_of c.args.self.now) (next_none (is_listed c.args.preds.now) (tree_of c.args.self.now) c.below.result.now c.below.ensures.trees (c.first_listed.ensures.number ∙ c.in_default.is))

pub invariant_of-self : goal.invariant_of-self
invariant_of-self c =
    let p = subst (λ rs. Passed (is_listed c.args.preds.now) (record { rows = c.self.inside.rows.items; root = c.self.inside.root }) (record { rows = rs; root = c.self.inside.root }))
    (sym (with_items_is c.self.inside.rows c.clear_below.new.rows (c.clear_below.auto.rows ∙ ap length c.deref_mut.ensures.value ∙ sym c.self.invariant.1)))
    (passed (is_listed c.args.preds.now) (record { rows = c.self.inside.rows.items; root = c.self.inside.root }) c.clear_below.new.rows c.self.invariant.0
    (subst (λ rs. c.clear_below.new.rows ≡ replaced (record { rows = rs; root = c.self.inside.root }) (cleared_below (is_listed c.args.preds.now) (tree_of (record { rows = rs; root = c.self.inside.root })))) c.deref_mut.ensures.value c.clear_below.ensures)) in
    (p.kept, c.self.invariant.1 ∙ sym p.nodes, kept_leads _ p.kept)

pub returns-clause-judged : goal.returns-clause-judged
returns-clause-judged c =
    let p = subst (λ rs. Passed (is_listed c.args.preds.now) (record { rows = c.self.inside.rows.items; root = c.self.inside.root }) (record { rows = rs; root = c.self.inside.root }))
    (sym (with_items_is c.self.inside.rows c.clear_below.new.rows (c.clear_below.auto.rows ∙ ap length c.deref_mut.ensures.value ∙ sym c.self.invariant.1)))
    (passed (is_listed c.args.preds.now) (record { rows = c.self.inside.rows.items; root = c.self.inside.root }) c.clear_below.new.rows c.self.invariant.0
    (subst (λ rs. c.clear_below.new.rows ≡ replaced (record { rows = rs; root = c.self.inside.root }) (cleared_below (is_listed c.args.preds.now) (tree_of (record { rows = rs; root = c.self.inside.root })))) c.deref_mut.ensures.value c.clear_below.ensures)) in
    let new : Kept = record { rows = (with_items c.self.inside.rows c.clear_below.new.rows).items; root = c.self.inside.root } in
    subst (λ (k : Kept). EachIsTrue (is_listed c.args.preds.now) (tree_of k) (tree_of new)) c.self.view_is p.each

pub returns-clause-branching : goal.returns-clause-branching
returns-clause-branching c =
    let p = subst (λ rs. Passed (is_listed c.args.preds.now) (record { rows = c.self.inside.rows.items; root = c.self.inside.root }) (record { rows = rs; root = c.self.inside.root }))
    (sym (with_items_is c.self.inside.rows c.clear_below.new.rows (c.clear_below.auto.rows ∙ ap length c.deref_mut.ensures.value ∙ sym c.self.invariant.1)))
    (passed (is_listed c.args.preds.now) (record { rows = c.self.inside.rows.items; root = c.self.inside.root }) c.clear_below.new.rows c.self.invariant.0
    (subst (λ rs. c.clear_below.new.rows ≡ replaced (record { rows = rs; root = c.self.inside.root }) (cleared_below (is_listed c.args.preds.now) (tree_of (record { rows = rs; root = c.self.inside.root })))) c.deref_mut.ensures.value c.clear_below.ensures)) in
    p.branching ∙ ap (λ (k : Kept). broadest k.rows) c.self.view_is
