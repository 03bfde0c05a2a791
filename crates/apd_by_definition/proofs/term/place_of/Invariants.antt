use Rattle.std.proofs.Common.{◌≡◌, ◌+◌, drop}
use Rattle.apd_term.specs.Canonical.{place_of}
use Rattle.apd_by_definition.proofs.term.place_of.Given as goal

abbrev pub invariant-loop-i : goal.invariant-loop-i
invariant-loop-i l = place_of l.order l.v ≡ l.i + place_of (drop l.i l.order) l.v
