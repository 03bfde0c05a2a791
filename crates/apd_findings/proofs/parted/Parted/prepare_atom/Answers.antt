use Rattle.std.proofs.Common.{List, subst, sym}
use Rattle.apd_term.specs.Term.{Term}
use Rattle.apd_findings.specs.Parted.{AreDenied}
use Rattle.apd_findings.proofs.parted.Parted.prepare_atom.Goals as goal

pub invariant_of-self : goal.invariant_of-self
invariant_of-self c = λ whole. let i = c.self.invariant whole in (i.0, (subst (λ (xs : List Term). AreDenied c.self.inside.all.pairs xs) (sym c.prepare.ensures) i.1.0, i.1.1))
