use Rattle.std.proofs.lemmas.Result.{IfOk-weaker}
use Rattle.apd_cells.proofs.Bindings.{Keeps-self}
use Rattle.apd_frames.specs.Instances.{instance_where}
use Rattle.apd_frames.proofs.Entering.{instantiates_canonical}
use Rattle.apd_frames.proofs.instance.instantiate.Goals as goal

pub returns-in_err-canonical-clause-kept : goal.returns-in_err-canonical-clause-kept
returns-in_err-canonical-clause-kept c = Keeps-self c.args.store.now

pub returns-clause-answer : goal.returns-clause-answer
returns-clause-answer c =
    IfOk-weaker c.instantiate_small-2.result _ _
    (λ b h. instantiates_canonical (instance_where b c.args.goal c.instantiate_small-2.new.made.goals.items) c.args.store.now c.instantiate_small-2.new.store c.args.goal.0 c.args.rule.now c.in_ok-canonical.canonical c.in_ok-canonical.ensures h)
    c.instantiate_small-2.ensures.answer
