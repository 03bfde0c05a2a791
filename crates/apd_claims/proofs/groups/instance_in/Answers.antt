use Rattle.std.proofs.Common.{ap, length, sym, ◌∙◌}
use Rattle.std.specs.Option.{option_and_then, option_map}
use Rattle.std.proofs.lemmas.Result.{IfOk-weaker}
use Rattle.apd_claims.specs.Saying.{instance_at, instance_with}
use Rattle.apd_claims.proofs.Naming.{instance-named}
use Rattle.apd_claims.proofs.groups.instance_in.Goals as goal

pub returns-clause-instance : goal.returns-clause-instance
returns-clause-instance c = IfOk-weaker c.instance_of.result _ _ (λ o is n grew reader.
    is ∙ ap (option_map (instance_with c.in-Some.led.number)) (c.in_ok-term.ensures.read n grew reader)
    ∙ ap (option_and_then (instance_at reader c.args.means.now.ops.now)) (sym c.in-Some.ensures))
    c.instance_of.ensures

pub returns-clause-named : goal.returns-clause-named
returns-clause-named c = IfOk-weaker c.instance_of.result _ _ (λ o is. rw is (instance-named (length c.read_term.new.names) c.in-Some.led.number c.in_ok-term.term c.in_ok-term.ensures.named)) c.instance_of.ensures
