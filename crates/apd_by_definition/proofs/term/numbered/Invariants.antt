use Rattle.std.proofs.Common.{◌≡◌, take}
use Rattle.std.specs.List.{flat_map}
use Rattle.apd_term.specs.Term.{variable}
use Rattle.apd_term.specs.Spelling.{image}
use Rattle.apd_term.specs.Canonical.{place_of}
use Rattle.apd_by_definition.proofs.term.numbered.Given as goal

abbrev pub invariant-loop-symbol : goal.invariant-loop-symbol
invariant-loop-symbol l = l.out ≡ flat_map (image (λ v. variable (place_of l.order v))) (take l.symbol-index l.symbol-items)
