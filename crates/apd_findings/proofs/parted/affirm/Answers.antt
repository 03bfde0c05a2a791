use Rattle.std.proofs.Common.{◌∙◌}
use Rattle.apd_findings.proofs.Parting.{affirmed-ok}
use Rattle.apd_findings.proofs.parted.affirm.Goals as goal

pub returns : goal.returns
returns c = affirmed-ok c.put_all.result c.args.question.now c.args.reply.now c.as_slice.result.now c.args.affirmed.now c.put_all.new.self c.put_all.ensures (c.as_slice.ensures ∙ c.in_ok-atoms.ensures)
