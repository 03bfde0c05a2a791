use Rattle.std.proofs.Common.{subst, sym}
use Rattle.apd_term.specs.StandardNames.{standard_names}
use Rattle.apd_term.proofs.Naming.{Grown-with_name}
use Rattle.apd_term.proofs.Utf8Texts.{AreNames, HasUtf8Texts-with_name}
use Rattle.apd_term.proofs.names.Names.intern.Goals as goal

pub invariant_of-self : goal.invariant_of-self
invariant_of-self c = subst AreNames (sym c.in_err-place.ensures.err) c.self.invariant

pub invariant_of-self-2 : goal.invariant_of-self-2
invariant_of-self-2 c =
    let names = c.self.inside.texts in
    subst AreNames (sym c.in_ok-place.ensures.names)
    (Grown-with_name standard_names names c.args.text.now c.self.invariant.0, HasUtf8Texts-with_name names c.args.text.now c.self.invariant.1 c.requires.utf8)
