use Rattle.apd_kept.proofs.Law.{reads_back_as}
use Rattle.apd_kept.proofs.laws.known_reads_back.Goals as goal

pub returns : goal.returns
returns c = λ ops names store table all can. reads_back_as ops names table all store can
