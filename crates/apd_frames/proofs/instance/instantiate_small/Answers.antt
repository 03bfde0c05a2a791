use Rattle.std.proofs.Common.{false, subst, true}
use Rattle.apd_cells.proofs.Keeping.{Keeps-trans}
use Rattle.apd_unify.specs.Heads.{HasBody, Matches}
use Rattle.apd_frames.proofs.Bodies.{entered_by_goal, not_entered}
use Rattle.apd_frames.proofs.instance.instantiate_small.Goals as goal

pub returns-then-not-branch-clause-answer : goal.returns-then-not-branch-clause-answer
returns-then-not-branch-clause-answer c =
    not_entered c.args.store.now c.match_head.new.store c.match_head.new.made.slots.items c.args.goal.0 c.args.rule.now c.in_ok-match_head.ensures.gone
    (subst (λ b. Matches b c.args.store.now c.match_head.new.store _ c.match_head.new.made.slots.items c.args.goal.0 c.args.rule.now.head) c.if-not-branch.true c.in_ok-match_head.ensures.answer)

pub returns-in_err-load_goals-clause-kept : goal.returns-in_err-load_goals-clause-kept
returns-in_err-load_goals-clause-kept c = Keeps-trans c.args.store.now c.match_head.new.store c.load_goals.new.store c.match_head.ensures.kept c.load_goals.ensures.kept

pub returns-clause-kept : goal.returns-clause-kept
returns-clause-kept c = Keeps-trans c.args.store.now c.match_head.new.store c.load_goals.new.store c.match_head.ensures.kept c.load_goals.ensures.kept

pub returns-clause-answer : goal.returns-clause-answer
returns-clause-answer c =
    entered_by_goal c.args.store.now c.match_head.new.store c.load_goals.new.store c.match_head.new.made.slots.items c.load_goals.new.made.slots.items c.args.goal c.load_goals.new.made.goals.items c.args.rule.now
    c.in_ok-match_head.ensures.sound c.requires.goal c.in_ok-match_head.ensures.gone
    (subst (λ b. Matches b c.args.store.now c.match_head.new.store _ c.match_head.new.made.slots.items c.args.goal.0 c.args.rule.now.head) c.if-not-branch.false c.in_ok-match_head.ensures.answer)
    (subst (λ xs. HasBody c.match_head.new.store c.load_goals.new.store c.match_head.new.made.slots.items c.load_goals.new.made.slots.items xs c.load_goals.new.made.goals.items) c.as_slice.ensures c.in_ok-load_goals.ensures.loaded)
