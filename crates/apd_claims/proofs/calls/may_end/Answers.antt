use Rattle.std.proofs.Common.{ap, sym, ◌∙◌}
use Rattle.std.specs.Prelude.{not}
use Rattle.apd_claims.specs.Claims.{is_operator_read}
use Rattle.apd_claims.proofs.Behind.{no-word, some-word}
use Rattle.apd_claims.proofs.calls.may_end.Goals as goal

pub returns-then-is_empty-clause-may : goal.returns-then-is_empty-clause-may
returns-then-is_empty-clause-may c = λ n grew reader. no-word reader c.args.means.now.ops.now c.args.word.now (sym c.is_empty.ensures ∙ c.if-is_empty.true)

pub returns-clause-may : goal.returns-clause-may
returns-clause-may c = λ n grew reader.
    ap not (c.is_operator_read.ensures ∙ ap (is_operator_read c.args.means.now.ops.now) (c.in_ok-read.ensures.read n grew reader))
    ∙ some-word reader c.args.means.now.ops.now c.args.word.now (sym c.is_empty.ensures ∙ c.if-is_empty.false)
