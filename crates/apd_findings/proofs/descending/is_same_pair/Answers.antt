use Rattle.std.proofs.Common.{◌+◌, ◌<◌, length, refl, arith}
use Rattle.apd_findings.proofs.Chains.{same-calls}
use Rattle.apd_findings.proofs.descending.is_same_pair.Goals as goal

pub returns-then-same : goal.returns-then-same
returns-then-same c = λ e.
    let first : c.args.a < length c.args.calls.now = omega (arith, c.requires.first) in
    let second : c.args.b < length c.args.calls.now = omega (arith, c.requires.second) in (
      same-calls c.args.calls.now c.args.a c.index-calls-a.result c.index-calls-b.result c.args.b first second c.index-calls-a.is c.index-calls-b.is (c.if-same.ensures.0 refl),
      same-calls c.args.calls.now (c.args.a + 1) c.index-calls-a-then-same.result c.index-calls-b-then-same.result (c.args.b + 1) c.requires.first c.requires.second c.index-calls-a-then-same.is c.index-calls-b-then-same.is (c.same-then-same.ensures.0 e),
    )
