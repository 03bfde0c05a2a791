use Rattle.std.proofs.Common.{◌≡◌, take}
use Rattle.std.specs.List.{fold, flat_map}
use Rattle.apd_term.specs.Spelling.{variable_in}
use Rattle.apd_term.specs.Canonical.{with_new}
use Rattle.apd_known.proofs.values.note_variables.Given as goal

abbrev pub invariant-symbols : goal.invariant-symbols
invariant-symbols l = l.seen.keys ≡ fold with_new l.fn.seen.keys (flat_map variable_in (take l.symbol-index l.symbol-items))
