use Rattle.std.proofs.Common.{◌≡◌, ◌∷◌, take}
use Rattle.apd_by_hand.proofs.clauses.put_parts.Given as goal

abbrev pub invariant-atoms : goal.invariant-atoms
invariant-atoms l = l.parts ≡ l.tuple.head ∷ take l.atom-index l.atom-items
