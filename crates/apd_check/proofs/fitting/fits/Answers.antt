use Rattle.std.proofs.lemmas.Result.{IfOk-weaker}
use Rattle.apd_check.proofs.Fits.{fits-is}
use Rattle.apd_check.proofs.fitting.fits.Goals as goal

pub returns : goal.returns
returns c = IfOk-weaker c.fits_asked.result _ _ (λ b is. fits-is c.args.asked.now.question c.args.asked.now.suspects c.args.reply.now b c.requires is) c.fits_asked.ensures
