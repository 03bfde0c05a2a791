use Rattle.apd_commands.proofs.Commanding.{argument_named}
use Rattle.apd_commands.proofs.commands.missing_command.Goals as goal

pub returns-clause-can : goal.returns-clause-can
returns-clause-can c = λ n named. argument_named n c.args.term.now 1 c.in_ok-atom.atom c.in_ok-atom.ensures named
