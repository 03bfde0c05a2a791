-- The predicates that a filter lists, as a set.
use Rattle.std.specs.Prelude.{◌≡◌, List, [], ◌∷◌, ◌++◌, Bool, Option, Some, if◌then◌else◌}
use Rattle.std.specs.List.{list_any}
use Rattle.apd_term.specs.declared.term.Pred.{Pred}
use Rattle.apd_ports.specs.Filter.{is_predicate}
use Rattle.apd_ports.specs.declared.filter.Filter.{Filter}
use Rattle.apd_ports.specs.declared.filter.Filter.TheVariants.{Off, All, Leap, Skip}

-- it is one of these
abbrev pub is_one_of : List Pred → Option Pred → Bool
is_one_of preds called = list_any (is_predicate called) preds

abbrev pub with_pred : List Pred → Pred → List Pred
with_pred preds p = if is_one_of preds (Some p) then preds else preds ++ p ∷ []

-- the same predicates are among them
abbrev pub HaveSame : List Pred → List Pred → Type 0
HaveSame xs ys = (called : Option Pred) → is_one_of xs called ≡ is_one_of ys called

-- these are the predicates that the filter lists, if it lists any
abbrev pub AreListed : Filter → List Pred → Type 0
AreListed Off set = Unit {0}
AreListed All set = Unit {0}
AreListed (Leap preds) set = HaveSame set preds
AreListed (Skip b) set = Unit {0}
