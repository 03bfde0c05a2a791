use Rattle.std.proofs.Common.{◌≡◌, ◌+◌, map, take}
use Rattle.apd_term.specs.Term.{variable, apply}
use Rattle.apd_divide.proofs.instances.raise_all.Given as goal

abbrev pub invariant-atoms : goal.invariant-atoms
invariant-atoms l = l.out ≡ map (apply (λ v. variable (l.base + v))) (take l.atom-index l.terms)
