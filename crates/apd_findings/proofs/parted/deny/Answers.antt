use Rattle.std.proofs.Common.{[], ◌∷◌}
use Rattle.apd_findings.proofs.Parting.{denied-none, denied-ok}
use Rattle.apd_findings.proofs.parted.deny.Goals as goal

pub returns-in-Some : goal.returns-in-Some
returns-in-Some c = denied-ok c.put.result c.args.question.now c.args.reply.now (c.in-Some.atom.now ∷ []) c.args.denied.now c.put.new.self c.put.ensures c.in-Some.ensures

pub returns-in-None : goal.returns-in-None
returns-in-None c = λ pairs h. denied-none pairs c.args.question.now c.args.reply.now c.args.denied.now c.in-None.ensures h
