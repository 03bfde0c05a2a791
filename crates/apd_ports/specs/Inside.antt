-- What a filter means, by the events of a run.
use Rattle.std.specs.Prelude.{ℕ, ◌≡◌, List, [], ◌∷◌, ◌++◌, Some, Any}
use Rattle.std.specs.List.{fold}
use Rattle.apd_term.specs.Term.{predicate_of}
use Rattle.apd_ports.specs.Filter.{Admission, after_event, before_events}
use Rattle.apd_ports.specs.declared.event.Event.{Event}
use Rattle.apd_ports.specs.declared.filter.Filter.{Filter}
use Rattle.apd_ports.specs.declared.filter.Filter.TheVariants.{Off, All, Leap, Skip}

-- by these events a box is strictly inside box b: an event of it has b as its caller, or a caller that was strictly inside b by the
-- events before that one
pub data IsInside (b : ℕ) : List Event → ℕ → Type 0 where
  by_caller : (before after : List Event) (e : Event) → e.caller ≡ b → IsInside b (before ++ e ∷ after) e.box_no
  by_inner : (before after : List Event) (e : Event) → IsInside b before e.caller → IsInside b (before ++ e ∷ after) e.box_no

-- the port, which comes after these events, is admitted: never, always, where its predicate is listed, or where its box isn't
-- strictly inside the one that is skipped
abbrev pub Admits : Filter → List Event → Event → Type 0
Admits Off before e = ⊥
Admits All before e = Unit {0}
Admits (Leap preds) before e = Any (λ p. predicate_of e.atom ≡ Some p) preds
Admits (Skip b) before e = ¬ IsInside b (before ++ e ∷ []) e.box_no

-- the filter after these events
abbrev pub after_events : Filter → List Event → Admission
after_events f events = fold after_event (before_events f) events
