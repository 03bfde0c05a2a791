-- A set of predicates has the same as their list.
use Rattle.std.proofs.Common.{◌≡◌, false, List, [], ◌∷◌, refl}
use Rattle.std.specs.Prelude.{None}
use Rattle.apd_term.specs.declared.term.Pred.{Pred}
use Rattle.apd_ports.specs.Listed.{is_one_of}

-- what has no predicate is of none
pub none_of : (preds : List Pred) → is_one_of preds None ≡ false
none_of [] = refl
none_of (p ∷ preds) = none_of preds
