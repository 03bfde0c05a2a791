-- How a run ends: what it passes was shown, and these are its end and its counts.
use Rattle.std.proofs.Common.{◌≡◌, ℕ, zero, suc, ◌+◌, ◌-◌, List, refl, ap, subst, ◌∙◌, arith, Result, Ok}
use Rattle.apd_causes.specs.declared.run.RunEnd.{RunEnd}
use Rattle.apd_causes.specs.declared.run.RunEnd.TheVariants.{Exhausted, AnswerLimit, Error as EndsInError}
use Rattle.apd_causes.specs.declared.run.RunError.{RunError}
use Rattle.apd_term.specs.Term.{Term}
use Rattle.apd_term.specs.declared.tuple.Tuple.{Tuple}
use Rattle.apd_ports.specs.Hook.{GoesThrough}
use Rattle.apd_ports.specs.declared.hook.HookFault.{HookFault}
use Rattle.apd_ports.specs.declared.hook.Shown.{Shown}
use Rattle.apd_ports.specs.declared.hook.Shown.TheVariants.{Answer as ShownAnswer}
use Rattle.apd_trace.specs.Run.{Run, stop, pass, ran_of, shown_of, ports_of, answers_of}
use Rattle.apd_trace.specs.declared.item.Item.TheVariants.{Answer, Error}
use Rattle.apd_engine.specs.Progress.{left, Showing, Completes}
use Rattle.apd_engine.specs.Search.{Standing, Gives, Ends}

module _ {H : Type 0} (step : H → Shown → Result (Unit {0}) HookFault → H → Type 0) (faults : H → ℕ) (start : H) (P : List Tuple) (budget answers : ℕ) (all : Run) (ports answered : ℕ) (s : Standing) (hook : H) (was : Showing step faults start P budget answers all ports answered s hook) where
  -- where nothing is passed any more
  shows_all : (end : RunEnd) → left P budget answers ports answered s ≡ stop end → GoesThrough step start (shown_of all.passed) hook
  shows_all end is =
      (subst (λ (r : Run). Completes step start (shown_of all.passed) hook (shown_of r.passed)) is was.completes).through hook refl

  ran_so : (end : RunEnd) → left P budget answers ports answered s ≡ stop end → record { end = end; ports = ports; answers = answered } ≡ ran_of all
  ran_so end is =
      let ended : all.end ≡ end = was.going.end ∙ ap (λ (r : Run). r.end) is in
      let ports_are : ports_of all.passed ≡ ports + zero = was.going.ports_left ∙ ap (λ (r : Run). ports + ports_of r.passed) is in
      let answers_are : answers_of all.passed ≡ answered + zero = was.going.answers_left ∙ ap (λ (r : Run). answered + answers_of r.passed) is in
      let p : ports_of all.passed ≡ ports = omega (arith, ports_are) in
      let a : answers_of all.passed ≡ answered = omega (arith, answers_are) in
      rw (ended, p, a) refl

  -- the search gives nothing more
  module _ (ends : Ends P s.mode s.frames s.stack s.boxes s.points) where
    exhausted : left P budget answers ports answered s ≡ stop Exhausted
    exhausted = rw (ends (budget + 1)) refl

    pub exhausted_shown : GoesThrough step start (shown_of all.passed) hook
    exhausted_shown = shows_all Exhausted exhausted

    pub exhausted_ran : record { end = Exhausted; ports = ports; answers = answered } ≡ ran_of all
    exhausted_ran = ran_so Exhausted exhausted

  -- it gives an error
  module _ (new : Standing) (e : RunError) (b : ℕ) (gives : Gives P s.mode s.frames s.stack s.boxes s.points (Error e b) new) where
    in_error : left P budget answers ports answered s ≡ stop (EndsInError e b)
    in_error = rw (gives.items (budget + 1) (omega (arith, was.going.height, was.going.within))) refl

    pub error_shown : GoesThrough step start (shown_of all.passed) hook
    error_shown = shows_all (EndsInError e b) in_error

    pub error_ran : record { end = EndsInError e b; ports = ports; answers = answered } ≡ ran_of all
    error_ran = ran_so (EndsInError e b) in_error

  -- it gives the last answer that is asked for
  module _ (new : Standing) (a : Term) (last : answered + 1 ≡ answers) (gives : Gives P s.mode s.frames s.stack s.boxes s.points (Answer a) new) where
    at_last : left P budget answers ports answered s ≡ pass (Answer a) (stop AnswerLimit)
    at_last =
        let one : answers - answered ≡ suc zero = omega (arith, last) in
        rw (gives.items (budget + 1) (omega (arith, was.going.height, was.going.within)), one) refl

    pub last_shown : (hook' : H) → step hook (ShownAnswer a) (Ok tt) hook' → GoesThrough step start (shown_of all.passed) hook'
    last_shown hook' shown =
        (subst (λ (r : Run). Completes step start (shown_of all.passed) hook (shown_of r.passed)) at_last was.completes).through hook' (hook', shown, refl)

    pub last_ran : record { end = AnswerLimit; ports = ports; answers = answered + 1 } ≡ ran_of all
    last_ran =
        let ended : all.end ≡ AnswerLimit = was.going.end ∙ ap (λ (r : Run). r.end) at_last in
        let ports_are : ports_of all.passed ≡ ports + zero = was.going.ports_left ∙ ap (λ (r : Run). ports + ports_of r.passed) at_last in
        let answers_are : answers_of all.passed ≡ answered + 1 = was.going.answers_left ∙ ap (λ (r : Run). answered + answers_of r.passed) at_last in
        let p : ports_of all.passed ≡ ports = omega (arith, ports_are) in
        rw (ended, p, answers_are) refl
