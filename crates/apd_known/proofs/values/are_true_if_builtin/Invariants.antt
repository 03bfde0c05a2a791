use Rattle.std.proofs.Common.{◌≡◌, drop}
use Rattle.std.specs.List.{list_all}
use Rattle.apd_known.specs.Truths.{is_true_if_builtin}
use Rattle.apd_known.proofs.values.are_true_if_builtin.Given as goal

abbrev pub invariant-atoms : goal.invariant-atoms
invariant-atoms l = list_all is_true_if_builtin l.atoms ≡ list_all is_true_if_builtin (drop l.atom-index l.atom-items)
