use Rattle.std.proofs.Common.{◌≡◌, ◌++◌, take}
use Rattle.std.specs.Prelude.{flat_map}
use Rattle.apd_kept.specs.Kept.{trust_line}
use Rattle.apd_kept.proofs.text.add_trust.Given as goal

abbrev pub invariant-preds : goal.invariant-preds
invariant-preds l = l.out ≡ l.initial.out ++ flat_map (trust_line l.ops l.names) (take l.pred-index l.preds)
