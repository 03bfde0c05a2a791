use Rattle.std.proofs.lemmas.Result.{IfOk-weaker}
use Rattle.apd_ports.specs.declared.event.Port.TheVariants.{Exit}
use Rattle.apd_trace.specs.Trace.{emit, and_then, at_port, again, closing}
use Rattle.apd_by_definition.proofs.PlainSearch.{around_made}
use Rattle.apd_by_definition.proofs.engine.ports.success_around.Goals as goal

pub returns : goal.returns
returns c =
    let l = c.in_ok-left.left in
    let g = c.args.g.now in
    IfOk-weaker c.point_before.result _ _
    (λ o h whole made. around_made c.args.frames.now g l c.in_ok-left._newest o whole c.in_ok-left.ensures
    (h (and_then (emit (at_port Exit l) (and_then whole (again l))) (closing g))
    (c.in_ok-failed.ensures (emit (at_port Exit l) (and_then whole (again l))) (c.in_ok-passed.ensures whole made))))
    c.point_before.ensures
