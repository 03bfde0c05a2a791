use Rattle.std.proofs.Common.{◌≡◌, ℕ, map, take}
use Rattle.apd_term.specs.Term.{Term, apply}
use Rattle.apd_by_definition.proofs.engine.frames.is_ground.Given as goal

abbrev pub invariant-atoms : goal.invariant-atoms
invariant-atoms l = (s : ℕ → Term) → map (apply s) (take l.atom-index l.atom-items) ≡ take l.atom-index l.atom-items
