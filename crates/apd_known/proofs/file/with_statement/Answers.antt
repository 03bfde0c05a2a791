use Rattle.std.proofs.Common.{sym, ◌∙◌}
use Rattle.apd_known.proofs.Saying.{said_fits}
use Rattle.apd_known.proofs.file.with_statement.Goals as goal

pub keep-kept-requires : goal.keep-kept-requires
keep-kept-requires c = said_fits c.args.stated.form c.args.term.now c.in-Ok-Ok.said (sym c.in-Ok-Ok.ensures ∙ c.in-Ok-Ok.field-0-is)
