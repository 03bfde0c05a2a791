use Rattle.apd_read.proofs.lexemes.lexemes.Goals as goal

pub returns-in-Ok-clause-lexemes : goal.returns-in-Ok-clause-lexemes
returns-in-Ok-clause-lexemes c = rw c.replace-texts.ensures.value c.in-Ok.ensures.lexemes
