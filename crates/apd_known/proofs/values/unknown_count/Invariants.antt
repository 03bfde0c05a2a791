use Rattle.std.proofs.Common.{◌≡◌, [], take}
use Rattle.std.specs.List.{fold, flat_map}
use Rattle.apd_term.specs.Term.{variables}
use Rattle.apd_term.specs.Canonical.{with_new}
use Rattle.apd_known.proofs.values.unknown_count.Given as goal

abbrev pub invariant-atoms : goal.invariant-atoms
invariant-atoms l = l.seen.keys ≡ fold with_new [] (flat_map variables (take l.atom-index l.atom-items))
