use Rattle.std.proofs.Common.{◌≡◌, ◌++◌, drop}
use Rattle.apd_text.specs.Lines.{bindings}
use Rattle.apd_by_definition.proofs.text.bindings.Given as goal

abbrev pub invariant-vars : goal.invariant-vars
invariant-vars l = bindings l.ops l.names l.vars l.values ≡ l.texts ++ bindings l.ops l.names (drop l.i l.vars) (drop l.i l.values)
