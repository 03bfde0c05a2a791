use Rattle.apd_written.proofs.Uttered.{entry-says}
use Rattle.apd_written.proofs.laws.entries_say_their_claims.Goals as goal

pub returns : goal.returns
returns c = λ names reader ops e table all i w s. entry-says reader ops table all e i w s
