use Rattle.std.proofs.Common.{[], sym, subst}
use Rattle.apd_findings.specs.Reaching.{IsRowOf}
use Rattle.apd_findings.proofs.Ordering.{no-rows}
use Rattle.apd_findings.proofs.reaching.caught_up.Goals as goal

pub catch_up-caught-requires-clause-rows : goal.catch_up-caught-requires-clause-rows
catch_up-caught-requires-clause-rows c = no-rows c.args.lists.now [] c.new-none.result c.new-none.ensures.empty

pub returns-in-Ok : goal.returns-in-Ok
returns-in-Ok c = λ first h.
    c.in-Ok.ensures first (subst (IsRowOf c.args.lists.now c.args.fresh.now first) (sym c.in_ok-whole.ensures) h)
