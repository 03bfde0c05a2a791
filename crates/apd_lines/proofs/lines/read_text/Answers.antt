use Rattle.std.proofs.Common.{◌∙◌, sym}
use Rattle.std.proofs.lemmas.Result.{IfOk-weaker}
use Rattle.apd_lines.proofs.Lined.{asks_nothing, asks, refused_division}
use Rattle.apd_lines.proofs.lines.read_text.Goals as goal

pub returns-then-is_empty-clause-line : goal.returns-then-is_empty-clause-line
returns-then-is_empty-clause-line c = λ n grew reader.
    asks_nothing n reader c.args.ops.now c.args.text.now c.in-Ok.tokens c.in-Ok.ensures.ok.0 c.in-Ok.ensures.ok.1 (rw (← c.as_slice.ensures) (sym c.is_empty.ensures ∙ c.if-is_empty.true))

pub returns-else-is_empty-clause-line : goal.returns-else-is_empty-clause-line
returns-else-is_empty-clause-line c = IfOk-weaker c.read_tokens.result _ _ (λ command is n grew reader.
    is n grew reader ∙ asks n reader c.args.ops.now c.args.text.now c.in-Ok.tokens c.in-Ok.ensures.ok.0 c.in-Ok.ensures.ok.1 (rw (← c.as_slice.ensures) (sym c.is_empty.ensures ∙ c.if-is_empty.false))) c.read_tokens.ensures.line

pub returns-in-Err-clause-line : goal.returns-in-Err-clause-line
returns-in-Err-clause-line c = refused_division c.bad_division.result c.in-Err.fault c.args.names.now c.args.ops.now c.args.text.now c.bad_division.ensures.line c.bad_division.ensures.fault c.in-Err.ensures.err
