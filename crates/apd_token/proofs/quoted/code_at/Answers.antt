use Rattle.std.proofs.Common.{sym, ◌∙◌}
use Rattle.apd_token.proofs.Escapes.{octal_none, octal_some}
use Rattle.apd_token.proofs.quoted.code_at.Goals as goal

pub returns-in-None-clause-none : goal.returns-in-None-clause-none
returns-in-None-clause-none c = octal_none _ _ c.requires (sym c.in-Octal.is ∙ c.escape_of.ensures) c.in-None.ensures.none

pub returns-in-Some-clause-some : goal.returns-in-Some-clause-some
returns-in-Some-clause-some c = octal_some _ _ _ _ c.requires (sym c.in-Octal.is ∙ c.escape_of.ensures) c.in-Some.ensures.some
