use Rattle.apd_past.proofs.Leading.{FollowedOn, follows_on}
use Rattle.apd_past.proofs.then.Then.follow.Goals as goal

step : (c : goal.In-Some) → FollowedOn c.args.self.now c.args.from c.bindings.at c.in-Some.next
step c =
    follows_on c.args.self.now c.args.from c.bindings.at c.in-Some.next c.in-Var.v c.symbol.result c.symbol.ensures.store c.bindings.invariant c.symbol.ensures.symbol
    c.in-Var.is c.in-Some.ensures

pub bindings-smaller : goal.bindings-smaller
bindings-smaller c = (step c).smaller

pub bindings-preserved : goal.bindings-preserved
bindings-preserved c = (step c).followed
