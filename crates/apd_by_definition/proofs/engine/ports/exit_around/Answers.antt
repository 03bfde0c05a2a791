use Rattle.std.proofs.lemmas.Result.{IfOk-weaker}
use Rattle.apd_trace.specs.Trace.{and_then, again}
use Rattle.apd_by_definition.proofs.engine.ports.exit_around.Goals as goal

pub returns : goal.returns
returns c = IfOk-weaker c.port_before.result _ _
    (λ o h whole made. h (and_then whole (again c.args.g.now)) (c.in_ok-redone.ensures whole made))
    c.port_before.ensures
