use Rattle.apd_console.proofs.Printing.{Prints-more, Prints-front}
use Rattle.std.proofs.Common.{◌∙◌, rules}
use Rattle.std.proofs.lemmas.List.{take_rest}
use Rattle.apd_console.proofs.console.Console.print.Goals as goal

pub bytes-preserved : goal.bytes-preserved
bytes-preserved g c = (Prints-more _ (g.K.Sink.held c.bytes.sink) _ _ c.bytes.rest.now _ c.in-Ok.count c.bytes.invariant.0 c.in-Ok.ensures.bytes (search (rules, take_rest)), c.in-Ok.ensures.cause ∙ c.bytes.invariant.1)

pub returns-in-Err-clause-err : goal.returns-in-Err-clause-err
returns-in-Err-clause-err g c = Prints-front _ (g.K.Sink.held c.bytes.sink) _ _ c.bytes.rest.now c.bytes.invariant.0 c.in-Err.ensures.kept
