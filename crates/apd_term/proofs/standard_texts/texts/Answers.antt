use Rattle.std.proofs.Common.{refl}
use Rattle.apd_term.specs.StandardNames.{standard_names}
use Rattle.apd_term.proofs.standard_texts.texts.Goals as goal

pub returns : goal.returns
unfolding standard_names
returns c = refl
