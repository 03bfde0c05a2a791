use Rattle.apd_reference.proofs.referee.RefereeReplier.reply.Goals as goal

pub returns-in-Program-clause-fits : goal.returns-in-Program-clause-fits
returns-in-Program-clause-fits c = rw c.in-Program.is c.reply.ensures.fits
