use Rattle.std.proofs.Common.{◌≡◌, take}
use Rattle.std.specs.List.{fold, flat_map}
use Rattle.apd_term.specs.Spelling.{variable_in}
use Rattle.apd_term.specs.Canonical.{with_new}
use Rattle.apd_by_definition.proofs.term.note_all.Given as goal

abbrev pub invariant-loop-symbol : goal.invariant-loop-symbol
invariant-loop-symbol l = l.seen.items ≡ fold with_new l.fn.seen.items (flat_map variable_in (take l.symbol-index l.symbol-items))
