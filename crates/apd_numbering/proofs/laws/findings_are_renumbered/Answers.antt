use Rattle.apd_numbering.proofs.Findings.{by_replies-renumbered}
use Rattle.apd_numbering.proofs.laws.findings_are_renumbered.Goals as goal

pub returns : goal.returns
returns c = by_replies-renumbered
