use Rattle.std.proofs.Common.{arith, ap, sym, ◌∙◌}
use Rattle.std.specs.Option.{option_and_then}
use Rattle.std.proofs.lemmas.List.{take_rest}
use Rattle.std.proofs.lemmas.Result.{IfOk-weaker}
use Rattle.apd_lines.proofs.Growing.{Grown-more}
use Rattle.apd_claims.specs.Claims.{call_between}
use Rattle.apd_claims.proofs.Behind.{Behind-end, Behind-here, Behind-later, Behind-start}
use Rattle.apd_claims.proofs.calls.claim_behind.Goals as goal

pub places-init : goal.places-init
places-init c = Behind-start c.args.means.now.ops.now c.bytes-text.result.now c.args.names.now

pub returns-in-Some-clause-claim : goal.returns-in-Some-clause-claim
returns-in-Some-clause-claim c = IfOk-weaker c.claim_between.result _ _ (λ o is n grew reader. rw (← c.bytes-text.ensures) (
    is n grew reader
    ∙ ap (option_and_then (call_between reader c.args.means.now.ops.now c.args.line.now.whole c.args.line.now.calling))
    (sym (Behind-here c.args.means.now.ops.now c.bytes-text.result.now c.args.names.now c.places.names c.box_here.new.names c.places.quote c.places.begun c.places.place c.places.invariant
    c.in_ok-led.ensures.names (omega (arith, c.places-test.true)) (record { number = c.in-Some.led.number; rest = c.in-Some.led.rest.now })
    (λ m g r. rw (take_rest c.bytes-text.result.now c.places.place) at (rw c.in-Some.is at (c.in_ok-led.ensures.here m g r)))
    n (Grown-more c.box_here.new.names c.claim_between.new.names n c.claim_between.ensures.names grew) reader))))
    c.claim_between.ensures.claim

pub places-preserved : goal.places-preserved
places-preserved c = rw (c.quote_after-quote.ensures, c.word_begins-begun.ensures)
    (Behind-later c.args.means.now.ops.now c.bytes-text.result.now c.args.names.now c.places.names c.box_here.new.names c.places.quote c.places.begun c.places.place c.places.invariant
    c.in_ok-led.ensures.names (omega (arith, c.places-test.true)) c.in_ok-led.ensures.few
    (λ m g r. rw (take_rest c.bytes-text.result.now c.places.place) at (rw c.in_default.is at (c.in_ok-led.ensures.here m g r))))

pub returns-clause-claim : goal.returns-clause-claim
returns-clause-claim c = λ n grew reader. rw (← c.bytes-text.ensures) (
    sym (ap (option_and_then (call_between reader c.args.means.now.ops.now c.args.line.now.whole c.args.line.now.calling))
    (Behind-end c.args.means.now.ops.now c.bytes-text.result.now c.args.names.now c.places.names c.places.quote c.places.begun c.places.place c.places.invariant (omega (arith, c.places-test.false)) n grew reader)))
