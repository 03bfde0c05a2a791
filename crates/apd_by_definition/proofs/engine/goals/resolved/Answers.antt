use Rattle.std.proofs.lemmas.Result.{IfOk-weaker}
use Rattle.apd_by_definition.proofs.Entering.{enters_renamed, enters_below}
use Rattle.apd_by_definition.proofs.engine.goals.resolved.Goals as goal

pub returns-clause-renamed : goal.returns-clause-renamed
returns-clause-renamed c = IfOk-weaker c.unified-entered.result _ _
    (λ o h. enters_renamed c.args.frames.now c.args.called.now c.args.rule.now c.in_ok-tuple.tuple c.args.clause c.args.point c.args.fresh c.in-Some.goal.now c.in-Some.ensures c.requires.below c.in_ok-tuple.ensures o h)
    c.unified-entered.ensures

pub returns-clause-below : goal.returns-clause-below
returns-clause-below c = IfOk-weaker c.unified-entered.result _ _
    (λ o h. enters_below c.args.frames.now c.args.called.now c.args.rule.now c.in_ok-tuple.tuple c.args.clause c.args.point c.args.fresh c.in-Some.goal.now c.in-Some.ensures c.requires.below c.in_ok-tuple.ensures c.requires.short o h)
    c.unified-entered.ensures
