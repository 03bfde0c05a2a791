use Rattle.apd_claims.specs.Claims.{may_end}
use Rattle.apd_claims.proofs.Behind.{box-there, no-end, no-words}
use Rattle.apd_claims.proofs.calls.box_here.Goals as goal

pub returns-in_default-clause-here : goal.returns-in_default-clause-here
returns-in_default-clause-here c = λ n grew reader. no-words (may_end reader c.args.means.now.ops.now) c.args.quote c.args.word.now c.args.text.now c.in_default.ensures

pub returns-then-not-may-clause-here : goal.returns-then-not-may-clause-here
returns-then-not-may-clause-here c = λ n grew reader.
    no-end (may_end reader c.args.means.now.ops.now) c.args.quote c.args.word.now c.args.text.now c.in_ok-may.may (c.in_ok-may.ensures.may n grew reader) c.if-not-may.true

pub returns-clause-here : goal.returns-clause-here
returns-clause-here c = λ n grew reader.
    box-there (may_end reader c.args.means.now.ops.now) c.args.quote c.args.word.now c.args.text.now (record { number = c.in-Some.led.number; rest = c.in-Some.led.rest.now }) c.in_ok-may.may
    (c.in_ok-may.ensures.may n grew reader) c.if-not-may.false c.in-Some.ensures
