use Rattle.std.proofs.Common.{sym, ◌∙◌}
use Rattle.apd_known.proofs.Scripts.{scripted_fits}
use Rattle.apd_known.proofs.scripted.ScriptedOracle.ask.Goals as goal

pub returns-in-Some-clause-fits : goal.returns-in-Some-clause-fits
returns-in-Some-clause-fits c = scripted_fits c.args.self.now.pairs.pairs c.args.asked.now c.in-Some.reply (sym c.in_ok-reply.ensures ∙ c.in-Some.is)
