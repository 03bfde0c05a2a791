use Rattle.std.proofs.Common.{subst}
use Rattle.apd_term.specs.Names.{HasUtf8Texts}
use Rattle.apd_term.proofs.names.Names.count.Goals as goal

pub returns-clause-utf8 : goal.returns-clause-utf8
returns-clause-utf8 c = subst HasUtf8Texts c.self.view_is c.self.invariant.1
