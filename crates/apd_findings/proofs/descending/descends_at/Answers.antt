use Rattle.apd_findings.proofs.Chains.{looked-up, said-again}
use Rattle.apd_findings.proofs.descending.descends_at.Goals as goal

pub returns-then-is_same_pair : goal.returns-then-is_same_pair
returns-then-is_same_pair c = said-again c.args.answers.now c.args.calls.now c.args.known c.args.i c.requires.known (c.is_same_pair.ensures c.if-is_same_pair.true)

pub returns : goal.returns
returns c = looked-up c.args.answers.now c.args.calls.now c.args.i c.index-calls-i-2.result c.index-calls-i.result c.says_below.result c.requires.within c.index-calls-i-2.is c.index-calls-i.is c.says_below.ensures
