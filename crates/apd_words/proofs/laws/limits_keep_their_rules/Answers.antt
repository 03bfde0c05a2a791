use Rattle.apd_words.proofs.Limited.{words-limited}
use Rattle.apd_words.proofs.laws.limits_keep_their_rules.Goals as goal

pub returns : goal.returns
returns c = words-limited
