use Rattle.std.proofs.Common.{◌∙◌, ◌∷◌, ◌++◌, ◌≤◌, [], ap, arith, length}
use Rattle.apd_cells.proofs.Keeping.{Keeps-trans}
use Rattle.apd_unify.proofs.Turning.{more_cells}
use Rattle.apd_frames.proofs.Bodies.{body_none, body_more, body_all}
use Rattle.apd_frames.proofs.instance.load_in_turn.Goals as goal

pub goals-init : goal.goals-init
goals-init c = body_none c.args.store.now c.args.made.now.slots.items c.args.body.now c.clear.new.self.items c.requires c.clear.ensures.items

pub load_goal-requires : goal.load_goal-requires
load_goal-requires c = c.goals.invariant.gone.slots

pub returns-in_err-cell-clause-kept : goal.returns-in_err-cell-clause-kept
returns-in_err-cell-clause-kept c = Keeps-trans c.args.store.now c.goals.store c.load_goal.new.store c.goals.invariant.gone.keeps c.load_goal.ensures.kept

pub returns-in_err-cell-clause-more : goal.returns-in_err-cell-clause-more
returns-in_err-cell-clause-more c =
    let l : length c.args.store.now.cells ≤ length c.goals.store.cells = more_cells c.args.store.now c.goals.store c.args.made.now.slots.items c.goals.made.slots.items c.goals.invariant.gone in
    omega (arith, l, c.load_goal.ensures.more)

pub returns-in_err-push-clause-kept : goal.returns-in_err-push-clause-kept
returns-in_err-push-clause-kept c = Keeps-trans c.args.store.now c.goals.store c.load_goal.new.store c.goals.invariant.gone.keeps c.load_goal.ensures.kept

pub returns-in_err-push-clause-more : goal.returns-in_err-push-clause-more
returns-in_err-push-clause-more c =
    let l : length c.args.store.now.cells ≤ length c.goals.store.cells = more_cells c.args.store.now c.goals.store c.args.made.now.slots.items c.goals.made.slots.items c.goals.invariant.gone in
    omega (arith, l, c.load_goal.ensures.more)

pub goals-preserved : goal.goals-preserved
goals-preserved c =
    body_more c.args.store.now c.goals.store c.load_goal.new.store c.args.made.now.slots.items c.goals.made.slots.items c.load_goal.new.made.slots.items c.args.body.now c.goals.goal-index
    c.goals.made.goals.items c.push.new.self.items c.goal-item.result c.in_ok-cell.cell c.goals.invariant c.goals-test.true c.goal-item.is c.in_ok-cell.ensures.ok
    (c.in_ok-push.ensures.items ∙ ap (λ xs. xs ++ c.in_ok-cell.cell ∷ []) c.load_goal.ensures.goals)

pub returns-clause-loaded : goal.returns-clause-loaded
returns-clause-loaded c =
    body_all c.args.store.now c.goals.store c.args.made.now.slots.items c.goals.made.slots.items c.args.body.now c.goals.goal-index c.goals.made.goals.items c.goals.invariant c.goals-test.false

pub returns-clause-kept : goal.returns-clause-kept
returns-clause-kept c = c.goals.invariant.gone.keeps

pub returns-clause-more : goal.returns-clause-more
returns-clause-more c = more_cells c.args.store.now c.goals.store c.args.made.now.slots.items c.goals.made.slots.items c.goals.invariant.gone
