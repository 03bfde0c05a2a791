use Rattle.std.proofs.Common.{◌∙◌, sym}
use Rattle.apd_commands.proofs.FilterNames.{filter_known}
use Rattle.apd_commands.proofs.filters.trace_command.Goals as goal

pub returns-in-Some-clause-can : goal.returns-in-Some-clause-can
returns-in-Some-clause-can c = λ n named. filter_known n c.args.term.now c.in-Some.filter named (sym c.in_ok-told.ensures ∙ c.in-Some.is)
