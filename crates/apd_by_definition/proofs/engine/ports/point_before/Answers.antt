use Rattle.std.proofs.lemmas.Result.{IfOk-weaker}
use Rattle.apd_by_definition.proofs.PlainSearch.{pointed_made}
use Rattle.apd_by_definition.proofs.engine.ports.point_before.Goals as goal

pub returns : goal.returns
returns c = IfOk-weaker c.put_before.result _ _
    (λ o h whole made. pointed_made c.args.frames.now c.args.before c.in_ok-point.point o whole c.in_ok-point.ensures (h whole made))
    c.put_before.ensures
