use Rattle.std.proofs.Common.{[], subst, sym}
use Rattle.std.proofs.lemmas.List.{append-nil}
use Rattle.apd_term.specs.StandardNames.{standard_names}
use Rattle.apd_term.proofs.Utf8Texts.{AreNames, HasUtf8Texts-standard_names}
use Rattle.apd_term.proofs.names.Names.standard.Goals as goal

pub invariant_of-result : goal.invariant_of-result
invariant_of-result c = subst AreNames (sym c.in_ok-texts.ensures) (([], sym (append-nil standard_names)), HasUtf8Texts-standard_names)
