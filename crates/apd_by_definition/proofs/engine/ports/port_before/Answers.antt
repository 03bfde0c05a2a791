use Rattle.std.proofs.lemmas.Result.{IfOk-weaker}
use Rattle.apd_trace.specs.Trace.{at_port}
use Rattle.apd_by_definition.proofs.PlainSearch.{emitted}
use Rattle.apd_by_definition.proofs.engine.ports.port_before.Goals as goal

pub returns : goal.returns
returns c = IfOk-weaker c.put_before.result _ _
    (λ o h whole made. emitted o c.in_ok-item.item (at_port c.args.port c.args.g.now) c.args.rest whole h c.in_ok-item.ensures made)
    c.put_before.ensures
