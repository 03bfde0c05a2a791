use Rattle.apd_dcg.proofs.rule.rule_parts.Goals as goal

pub returns : goal.returns
returns c = (c.in_ok-body.body, c.in_ok-body.ensures, c.in_ok-found.ensures)
