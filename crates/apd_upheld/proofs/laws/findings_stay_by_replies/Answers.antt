use Rattle.apd_written.specs.Claims.{canonical_finding}
use Rattle.apd_upheld.proofs.Findings.{by_replies-alike, by_replies-bare, by_replies-form}
use Rattle.apd_upheld.proofs.laws.findings_stay_by_replies.Goals as goal

pub returns : goal.returns
returns c = λ P R a b f alike by. by_replies-bare P R b (canonical_finding f) (by_replies-form P R b f (by_replies-alike a b alike P R f by))
