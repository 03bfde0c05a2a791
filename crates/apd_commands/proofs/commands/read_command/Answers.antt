use Rattle.std.proofs.lemmas.Result.{IfOk-weaker}
use Rattle.apd_commands.specs.Commands.{command_in, command_of}
use Rattle.std.proofs.Common.{length, ap, ◌∙◌}
use Rattle.apd_commands.proofs.commands.read_command.Goals as goal

pub returns-clause-command : goal.returns-clause-command
unfolding command_in
returns-clause-command c = IfOk-weaker c.line_command.result _ _ (λ command is n grew reader. is ∙ ap command_of (c.in_ok-read.ensures.line n grew reader)) c.line_command.ensures.command

pub returns-clause-can : goal.returns-clause-can
returns-clause-can c = c.line_command.ensures.can (length c.read_line.new.names) c.in_ok-read.ensures.named
