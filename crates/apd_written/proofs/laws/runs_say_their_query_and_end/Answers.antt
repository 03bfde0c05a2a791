use Rattle.apd_written.proofs.Quiet.{run-says}
use Rattle.apd_written.proofs.laws.runs_say_their_query_and_end.Goals as goal

pub returns : goal.returns
returns c = λ names reader ops filter q r table all t short. run-says reader ops filter q r table all t short
