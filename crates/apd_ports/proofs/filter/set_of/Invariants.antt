use Rattle.std.proofs.Common.{take}
use Rattle.apd_ports.specs.Listed.{HaveSame}
use Rattle.apd_ports.proofs.filter.set_of.Given as goal

abbrev pub invariant-preds : goal.invariant-preds
invariant-preds l = HaveSame l.set.keys (take l.pred-index l.preds)
