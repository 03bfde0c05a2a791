use Rattle.std.proofs.Common.{◌∙◌, sym, refl, List, ℕ}
use Rattle.std.specs.Prelude.{Result, Ok}
use Rattle.std.specs.declared.alloc.AllocError.{AllocError}
use Rattle.apd_console.proofs.Printing.{front_self}
use Rattle.apd_query.proofs.Printing.{event_prints, on_either}
use Rattle.apd_query.proofs.printer.PrinterHook.event.Goals as goal

pub returns-in-Ok-clause-step : goal.returns-in-Ok-clause-step
returns-in-Ok-clause-step g c =
    let line : Result (List ℕ) AllocError = Ok c.bytes.result.now in (
      refl,
      c.print_text.ensures.log,
      c.print_text.ensures.over,
      refl,
      on_either c.print_text.result c.in-Ok-true.ensures.after,
      event_prints c.args.self.now.voice.now.log.ops c.args.self.now.voice.now.log.names c.args.self.now.vars.now c.args.self.now.admit.now _ _ _ c.args.event.now line c.print_text.result (sym c.in-Ok-true.ensures.admitted ∙ c.in-Ok-true.field-0-test) (c.bytes.ensures ∙ (rw c.log-log.ensures at c.in-Ok.ensures)) c.print_text.ensures.line,
      c.print_text.ensures.cause,
    )

pub returns-in-Err-clause-step : goal.returns-in-Err-clause-step
returns-in-Err-clause-step g c = (refl, refl, refl, refl, tt, front_self _ _, refl)

pub returns-in-Err-write-clause-step : goal.returns-in-Err-write-clause-step
returns-in-Err-write-clause-step g c = (refl, refl, refl, refl, tt, front_self _ _, refl)
