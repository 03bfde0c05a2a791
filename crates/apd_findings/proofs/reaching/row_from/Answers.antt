use Rattle.apd_findings.proofs.Walks.{row-walked}
use Rattle.apd_findings.proofs.reaching.row_from.Goals as goal

pub returns : goal.returns
returns c = λ fresh rows. row-walked c.args.lists.now fresh c.args.first c.new-row.result c.walk.new.seen c.new-row.ensures (c.in_ok-walk.ensures fresh rows)
