use Rattle.apd_session.proofs.Elsewhere.{checked-elsewhere}
use Rattle.apd_session.proofs.Upheld.{checked-holds}
use Rattle.apd_session.proofs.laws.written_logs_hold.Goals as goal

pub returns : goal.returns
returns c = record {
  holds = λ words names reader world. checked-holds reader words world;
  elsewhere = λ words names reader world. checked-elsewhere reader words world;
}
