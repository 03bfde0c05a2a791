use Rattle.std.proofs.lemmas.Result.{IfOk-weaker}
use Rattle.apd_by_definition.proofs.Solving.{attempt_alike, attempt_below}
use Rattle.apd_by_definition.proofs.engine.goals.attempted.Goals as goal

pub returns-clause-alike : goal.returns-clause-alike
returns-clause-alike c = IfOk-weaker c.attempted_by-attempt.result _ _
    (λ t h. attempt_alike c.args.frames.now c.args.called.now c.args.point c.in-Some.goal.now c.in_ok-outcome.outcome c.in-Some.ensures c.in_ok-outcome.ensures t h)
    c.attempted_by-attempt.ensures

pub returns-clause-below : goal.returns-clause-below
returns-clause-below c = IfOk-weaker c.attempted_by-attempt.result _ _
    (λ t h. attempt_below c.args.frames.now c.args.called.now c.args.point c.in-Some.goal.now c.in_ok-outcome.outcome c.in-Some.ensures c.in_ok-outcome.ensures t h)
    c.attempted_by-attempt.ensures
