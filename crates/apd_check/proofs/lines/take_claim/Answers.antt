use Rattle.apd_check.proofs.Taking.{claim-stays, claim-taken}
use Rattle.apd_check.proofs.lines.take_claim.Goals as goal

pub returns-clause-taken : goal.returns-clause-taken
returns-clause-taken c = λ n grew reader.
    claim-taken c.args.source.now.program.now c.args.course.now c.take.new.self c.in_ok-claim.claim _ c.found_in-found.result c.in_ok-why.why c.in_ok-why.ensures c.found_in-found.ensures.found (c.in_ok-claim.ensures.claim n grew reader)

pub returns-clause-stays : goal.returns-clause-stays
returns-clause-stays c = claim-stays c.args.source.now.program.now c.args.course.now c.take.new.self c.in_ok-claim.claim c.in_ok-why.why c.in_ok-why.ensures c.requires.kept c.in_ok-claim.ensures.sayable
