use Rattle.std.proofs.Common.{◌≡◌, ◌++◌, length}
use Rattle.apd_trace.specs.Trace.{up_to_error}
use Rattle.apd_by_definition.proofs.engine.searched.up_to_error.Given as goal

abbrev pub invariant-items : goal.invariant-items
invariant-items l = up_to_error l.fn.items.items ≡ l.kept.items ++ up_to_error l.items.items

abbrev pub decreases-items : goal.decreases-items
decreases-items l = length l.items.items
