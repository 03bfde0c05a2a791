use Rattle.std.proofs.Common.{arith}
use Rattle.apd_token.proofs.Escapes.{no_element_code, element_code}
use Rattle.apd_token.proofs.quoted.element_at.Goals as goal

pub returns-in-None-clause-none : goal.returns-in-None-clause-none
returns-in-None-clause-none c = no_element_code c.args.q c.args.text.now c.args.at (omega arith) c.if-text-at-eq92.true c.if-text-at-eq10.false c.in-None.ensures.none

pub returns-in-Some-clause-some : goal.returns-in-Some-clause-some
returns-in-Some-clause-some c = element_code _ _ _ _ _ c.if-text-at-eq92.true c.in-Some.ensures.some
