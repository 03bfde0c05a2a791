use Rattle.std.proofs.lemmas.Result.{IfOk-weaker}
use Rattle.apd_trace.specs.Trace.{at_port}
use Rattle.apd_by_definition.proofs.PlainSearch.{followed}
use Rattle.apd_by_definition.proofs.engine.ports.port_after.Goals as goal

pub returns : goal.returns
returns c = IfOk-weaker c.put_after.result _ _
    (λ o h whole made. followed o c.in_ok-item.item (at_port c.args.port c.args.g.now) c.args.first whole h c.in_ok-item.ensures made)
    c.put_after.ensures
