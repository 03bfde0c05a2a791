use Rattle.std.proofs.Common.{rules, ◌≡◌, true, false}
use Rattle.apd_unify.proofs.Worklist.{under_way_first}
use Rattle.apd_by_definition.proofs.Rounds.{round_free, round_goes, round_ends}
use Rattle.apd_by_definition.proofs.unify.textbook_unifier.Goals as goal

pub rules-init : goal.rules-init
rules-init c = rw (c.in_ok-work.ensures.equations, c.in_ok-work.ensures.found) (under_way_first c.args.a.now c.args.b.now)

pub solves-requires : goal.solves-requires
solves-requires c =
    λ v t is. round_free c.args.a.now c.args.b.now c.in-Some.left c.in-Some.right c.rules.work.equations.items c.pop_front.new.self.items c.rules.work.found c.rules.invariant c.in-Some.ensures.items v t is

pub returns-then-not-goes : goal.returns-then-not-goes
returns-then-not-goes c =
    let ends : c.in-Ok.goes ≡ false = search rules in
    round_ends c.args.a.now c.args.b.now c.in-Some.left c.in-Some.right c.rules.work.equations.items c.pop_front.new.self.items c.rules.work.found c.rules.invariant c.in-Some.ensures.items
    c.solves.new.work.equations.items c.solves.new.work.found c.in-Ok.goes ends c.in-Ok.ensures

pub rules-preserved : goal.rules-preserved
rules-preserved c =
    let goes : c.in-Ok.goes ≡ true = search rules in
    (round_goes c.args.a.now c.args.b.now c.in-Some.left c.in-Some.right c.rules.work.equations.items c.pop_front.new.self.items c.rules.work.found c.rules.invariant c.in-Some.ensures.items
    c.solves.new.work.equations.items c.solves.new.work.found c.in-Ok.goes goes c.in-Ok.ensures).kept

pub rules-smaller : goal.rules-smaller
rules-smaller c =
    let goes : c.in-Ok.goes ≡ true = search rules in
    (round_goes c.args.a.now c.args.b.now c.in-Some.left c.in-Some.right c.rules.work.equations.items c.pop_front.new.self.items c.rules.work.found c.rules.invariant c.in-Some.ensures.items
    c.solves.new.work.equations.items c.solves.new.work.found c.in-Ok.goes goes c.in-Ok.ensures).smaller
