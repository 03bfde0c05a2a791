use Rattle.apd_parts.proofs.Cutting.{after-told}
use Rattle.apd_parts.proofs.parts.after.Goals as goal

pub returns : goal.returns
returns c = after-told c.args.beginning.now c.args.text.now c.strip_prefix.result c.strip_prefix.ensures.cases
