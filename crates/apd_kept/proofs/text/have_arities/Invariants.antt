use Rattle.std.proofs.Common.{◌≤◌, drop}
use Rattle.std.specs.List.{AllByRecursion}
use Rattle.apd_term.specs.declared.term.Pred.{Pred}
use Rattle.apd_kept.proofs.text.have_arities.Given as goal

abbrev pub invariant-preds : goal.invariant-preds
invariant-preds l = AllByRecursion (λ (p : Pred). p.arity ≤ 255) (drop l.i l.preds) → AllByRecursion (λ (p : Pred). p.arity ≤ 255) l.preds
