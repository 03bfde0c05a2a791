-- What holds of the goals of a body holds of the goal to which the record is followed.
use Rattle.std.proofs.Common.{ℕ, List, [], ◌∷◌, Option, Some, None}
use Rattle.std.specs.List.{AllByRecursion}
use Rattle.apd_missing.specs.Missing.{after_exit, at_child, first_exit, followed, from_child, state_after, walk}
use Rattle.apd_missing.specs.declared.state.Unanswered.{Unanswered}
use Rattle.apd_record.specs.Recorded.{Recorded, child, exits, first_point, follow}
use Rattle.apd_term.specs.Term.{Term}

module _ (Q : Term → Type 0) where
  abbrev HoldsOfGoal : Option Unanswered → Type 0
  HoldsOfGoal None = Unit {0}
  HoldsOfGoal (Some s) = Q s.goal

  walk-holds : (R : Recorded) (atoms : List Term) (p : ℕ) → AllByRecursion Q atoms → HoldsOfGoal (walk R atoms p)
  walk-holds R [] p holds = tt
  walk-holds R (a ∷ atoms) p holds = by_child (child R p) (λ q. walk-holds R atoms q holds.1)
    where
      by_follow : (o : Option ℕ) → ((q : ℕ) → HoldsOfGoal (walk R atoms q)) → HoldsOfGoal (after_exit (walk R atoms) o)
      by_follow None rest = tt
      by_follow (Some q) rest = rest q

      by_exit : (m : ℕ) (o : Option ℕ) → ((q : ℕ) → HoldsOfGoal (walk R atoms q)) → HoldsOfGoal (at_child R (walk R atoms) p a m o)
      by_exit m None rest = holds.0
      by_exit m (Some e) rest = by_follow (follow R p e) rest

      by_child : (o : Option ℕ) → ((q : ℕ) → HoldsOfGoal (walk R atoms q)) → HoldsOfGoal (from_child R (walk R atoms) p a o)
      by_child None rest = tt
      by_child (Some m) rest = by_exit m (first_exit R a (exits R m)) rest

  after_exit-holds : (R : Recorded) (atoms : List Term) (o : Option ℕ) → AllByRecursion Q atoms → HoldsOfGoal (after_exit (walk R atoms) o)
  after_exit-holds R atoms None holds = tt
  after_exit-holds R atoms (Some p) holds = walk-holds R atoms p holds

  state_after-holds : (s : Unanswered) (o : Option Unanswered) → Q s.goal → HoldsOfGoal o → Q (state_after s o).goal
  state_after-holds s None first second = first
  state_after-holds s (Some t) first second = second

  pub followed-holds : (R : Recorded) (s : Unanswered) (c : ℕ) (atoms : List Term) → Q s.goal → AllByRecursion Q atoms → Q (state_after s (followed R s c atoms)).goal
  followed-holds R s c atoms first holds = state_after-holds s (followed R s c atoms) first (after_exit-holds R atoms (first_point R s.box_no c) holds)
