use Rattle.std.proofs.Common.{arith}
use Rattle.apd_cells.proofs.Passing.{replaces_first, replaces_more, goes_none, goes_on}
use Rattle.apd_cells.proofs.walk.next_run.Goals as goal

pub done-init : goal.done-init
done-init c = replaces_first c.args.here c.args.rest.now

pub returns-in-None : goal.returns-in-None
returns-in-None c = (c.in-None.ensures.1, goes_none c.args.here c.args.rest.now c.done.next c.done.rest c.done.invariant c.done-test.true c.in-None.ensures.0)

pub done-preserved : goal.done-preserved
done-preserved c = replaces_more c.args.here c.args.rest.now c.done.next c.done.rest c.in-Some.waiting c.pop.new.self c.done.invariant c.done-test.true c.in-Some.ensures

pub returns : goal.returns
returns c = goes_on c.args.here c.args.rest.now c.done.next c.done.rest c.done.invariant (omega arith)
