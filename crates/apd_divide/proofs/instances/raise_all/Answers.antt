use Rattle.std.proofs.Common.{◌∙◌, ◌+◌, ℕ}
use Rattle.apd_term.specs.Term.{variable, apply}
use Rattle.apd_term.proofs.Pairs.{map-take_more}
use Rattle.apd_divide.proofs.instances.raise_all.Goals as goal

pub atoms-preserved : goal.atoms-preserved
atoms-preserved c =
    let s = λ (v : ℕ). variable (c.args.base + v) in
    c.in_ok-push.ensures.ok
    ∙ map-take_more (apply s) c.args.terms.now c.atoms.out c.atoms.atom-index c.atom-item.result c.in_ok-raised.field-0
    c.atoms-test.true c.atom-item.is c.atoms.invariant c.in_ok-raised.ensures
