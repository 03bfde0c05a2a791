use Rattle.std.proofs.Common.{refl}
use Rattle.apd_query.proofs.Printing.{answer_fails}
use Rattle.apd_query.proofs.printer.PrinterHook.answer.Goals as goal

pub returns-in-Err-clause-step : goal.returns-in-Err-clause-step
returns-in-Err-clause-step g c = (
  refl,
  c.print_line.ensures.log,
  c.print_line.ensures.over,
  refl,
  tt,
  answer_fails c.args.self.now.voice.now.log.ops c.args.self.now.voice.now.log.names c.args.self.now.vars.now c.args.self.now.admit.now _ _ c.args.self.now.answers c.saturating_add-number.result c.args.values.now c.answer_line-line.result c.in-Err.fault c.saturating_add-number.ensures (rw c.log-log.ensures at c.answer_line-line.ensures) c.in-Err.ensures.line,
  c.in-Err.ensures.cause,
)
