use Rattle.std.proofs.Common.{subst}
use Rattle.std.proofs.lemmas.Result.{IfOk-weaker}
use Rattle.apd_trace.specs.Trace.{emit, nothing}
use Rattle.apd_trace.specs.declared.item.Item.TheVariants.{Answer}
use Rattle.apd_by_definition.specs.Searched.{Makes}
use Rattle.apd_by_definition.proofs.engine.ports.answer_alone.Goals as goal

pub returns : goal.returns
returns c = IfOk-weaker c.one_item.result _ _
    (λ o h. subst (λ v. Makes o (emit (Answer v) (nothing c.args.counts.boxes c.args.counts.points))) c.in_ok-copied.ensures h)
    c.one_item.ensures
