use Rattle.apd_term.proofs.Opposite.{matching-makes, matching-stays, is_instance-is, matching-only}
use Rattle.apd_term.proofs.laws.matching_matches.Goals as goal

pub returns : goal.returns
returns c = record { makes = matching-makes; stays = matching-stays; test = is_instance-is; only = matching-only }
