use Rattle.std.proofs.Common.{sym, ◌∙◌, []}
use Rattle.std.specs.Option.{option_and_then}
use Rattle.std.proofs.lemmas.Result.{IfOk-weaker}
use Rattle.apd_lines.proofs.Growing.{Grown-more}
use Rattle.apd_claims.specs.Claims.{call_between, may_end}
use Rattle.apd_parts.specs.Parts.{boxed_in, boxed_where}
use Rattle.apd_parts.specs.declared.boxes.Quote.TheVariants.{Outside}
use Rattle.apd_claims.proofs.Behind.{nothing-first, something-first}
use Rattle.apd_claims.proofs.calls.call_in.Goals as goal

pub returns-then-is_some-clause-claim : goal.returns-then-is_some-clause-claim
returns-then-is_some-clause-claim c = λ n grew reader.
    something-first (option_and_then (call_between reader c.args.means.now.ops.now c.args.line.now.whole c.args.line.now.calling) (boxed_in Outside c.args.line.now.text))
    (option_and_then (call_between reader c.args.means.now.ops.now c.args.line.now.whole c.args.line.now.calling) (boxed_where (may_end reader c.args.means.now.ops.now) Outside [] c.args.line.now.text))
    c.in_ok-first.first (c.in_ok-first.ensures.claim n grew reader) (sym c.is_some.ensures ∙ c.if-is_some.true)

pub returns-clause-names : goal.returns-clause-names
returns-clause-names c = Grown-more c.args.names.now c.claim_outside.new.names c.claim_behind.new.names c.claim_outside.ensures.names c.claim_behind.ensures.names

pub returns-clause-few : goal.returns-clause-few
returns-clause-few c = λ l. c.claim_behind.ensures.few (c.claim_outside.ensures.few l)

pub returns-clause-claim : goal.returns-clause-claim
returns-clause-claim c = IfOk-weaker c.claim_behind.result _ _ (λ o is n grew reader.
    is n grew reader
    ∙ nothing-first (option_and_then (call_between reader c.args.means.now.ops.now c.args.line.now.whole c.args.line.now.calling) (boxed_in Outside c.args.line.now.text))
    (option_and_then (call_between reader c.args.means.now.ops.now c.args.line.now.whole c.args.line.now.calling) (boxed_where (may_end reader c.args.means.now.ops.now) Outside [] c.args.line.now.text))
    c.in_ok-first.first (c.in_ok-first.ensures.claim n (Grown-more c.claim_outside.new.names c.claim_behind.new.names n c.claim_behind.ensures.names grew) reader) (sym c.is_some.ensures ∙ c.if-is_some.false))
    c.claim_behind.ensures.claim
