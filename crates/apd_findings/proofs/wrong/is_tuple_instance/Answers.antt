use Rattle.std.proofs.Common.{sym, ◌∙◌}
use Rattle.apd_findings.proofs.Clauses.{other_length}
use Rattle.apd_findings.proofs.wrong.is_tuple_instance.Goals as goal

pub returns-then-len : goal.returns-then-len
returns-then-len c = sym (other_length c.args.special.now c.args.general.now (λ e. c.if-len.true (c.len.ensures ∙ e ∙ sym c.len-2.ensures)))
