use Rattle.std.proofs.Common.{◌≡◌, map, take}
use Rattle.apd_clauses.specs.Indicators.{indicator_of}
use Rattle.apd_text.proofs.filter.indicators_of.Given as goal

abbrev pub invariant-preds : goal.invariant-preds
invariant-preds l = l.terms ≡ map indicator_of (take l.pred-index l.preds)
