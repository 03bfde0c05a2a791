-- What the next item makes of a run that is shown.
use Rattle.std.specs.Bool.{OnTrue}
use Rattle.std.proofs.lemmas.Bool.{OnTrue_at}
use Rattle.std.proofs.Common.{◌≡◌, ℕ, ◌+◌, ◌<◌, ◌≤◌, ◌∙◌, List, length, refl, sym, ap, arith, inl, Result, Ok}
use Rattle.apd_causes.specs.declared.run.RunEnd.TheVariants.{Exhausted, Budget, AnswerLimit, Error as EndsInError}
use Rattle.apd_causes.specs.declared.run.RunError.{RunError}
use Rattle.apd_term.specs.Term.{Term}
use Rattle.apd_term.specs.declared.tuple.Tuple.{Tuple}
use Rattle.apd_ports.specs.declared.event.Event.{Event}
use Rattle.apd_ports.specs.declared.event.Port.{Port}
use Rattle.apd_ports.specs.declared.hook.HookFault.{HookFault}
use Rattle.apd_ports.specs.declared.hook.Shown.{Shown}
use Rattle.apd_ports.specs.declared.hook.Shown.TheVariants.{Port as ShownPort, Answer as ShownAnswer}
use Rattle.apd_ports.specs.declared.point.Point.{Point}
use Rattle.apd_record.specs.Recorded.{query_point}
use Rattle.apd_trace.specs.Run.{Run, hold, query_run, ran_of, shown_of}
use Rattle.apd_trace.specs.declared.item.Item.{Item}
use Rattle.apd_trace.specs.declared.item.Item.TheVariants.{Passed, Answer, Made, Error}
use Rattle.apd_engine.specs.Cut.{FailsAt, IsCut}
use Rattle.apd_engine.specs.Given.{TellsPort}
use Rattle.apd_engine.specs.Progress.{Course, HasShown, Showing, left}
use Rattle.apd_engine.specs.Search.{Standing, stand, Gives, GivesBy, Ends, opened}
use Rattle.apd_engine.specs.Unrecorded.{IsShowing, IsFirstShown}
use Rattle.apd_engine.specs.declared.progress.Limits.{Limits}
use Rattle.apd_engine.specs.declared.unrecorded.Unrecorded.{Unrecorded}
use Rattle.apd_engine.specs.declared.given.Unread.{Unread}
use Rattle.apd_engine.specs.declared.running.RunFault.{RunFault}
use Rattle.apd_engine.specs.declared.running.RunFault.TheVariants.{Memory}
use Rattle.apd_engine.proofs.Ends.{exhausted_shown, exhausted_ran, error_shown, error_ran, last_shown, last_ran}
use Rattle.apd_engine.proofs.RecordFacts.{shows_point, shows_budget, budget_ran, port_fails, answer_fails}
use Rattle.apd_engine.proofs.RunFacts.{first_run, left_first, memory_short, ran_of-hold, shown_of-hold, shows_port, shows_answer, starts_showing}

-- what such a run still passes
abbrev pub all_left : List Tuple → Limits → Unrecorded → Run
all_left P limits p = left P limits.budget limits.answers p.ports p.answered (stand p.search)

-- at first all that is shown is left
pub first_left : (P : List Tuple) (query : Tuple) (limits : Limits) (p : Unrecorded) → IsFirstShown query p → query_run P query limits.budget limits.answers ≡ hold (Made (query_point query)) (all_left P limits p)
first_left P query limits p is =
    first_run P query limits.budget limits.answers ∙ ap (hold (Made (query_point query))) (sym (left_first P limits.budget limits.answers p.ports p.answered (stand p.search) (opened query) is.ports is.answered is.search))

module _ (P : List Tuple) (query : Tuple) (limits : Limits) (p : Unrecorded) (is : IsFirstShown query p) where
  pub first_shown_left : shown_of (all_left P limits p).passed ≡ shown_of (query_run P query limits.budget limits.answers).passed
  first_shown_left = sym (ap (λ (r : Run). shown_of r.passed) (first_left P query limits p is) ∙ shown_of-hold (query_point query) (all_left P limits p).passed)

  pub first_ran_left : ran_of (all_left P limits p) ≡ ran_of (query_run P query limits.budget limits.answers)
  first_ran_left = sym (ap ran_of (first_left P query limits p is) ∙ ran_of-hold (query_point query) (all_left P limits p))

  pub starts_shown : {H : Type 0} (step : H → Shown → Result (Unit {0}) HookFault → H → Type 0) (faults : H → ℕ) (start : H) → 0 < limits.answers → length query.body ≤ 64 → IsShowing step faults (record { start = start; run = all_left P limits p }) P limits p start
  starts_shown step faults start some few =
      rw (is.ports, is.answered)
      (let first = starts_showing step faults start P limits.budget limits.answers query (stand p.search) some few is.search in
      record {
        going = record {
          end = refl;
          ports_left = omega arith;
          answers_left = omega arith;
          goes = first.going.goes;
          waits = first.going.waits;
          height = first.going.height;
          boxes = first.going.boxes;
          points = first.going.points;
          within = first.going.within;
          below = first.going.below;
        };
        completes = record { through = λ end h. h; into = λ end h. h; stops = λ fault end h. h };
        kept = refl;
      })

-- from this search comes this item next
abbrev pub Next : List Tuple → Standing → Item → Standing → Type 0
Next P s i new = Gives P s.mode s.frames s.stack s.boxes s.points i new

module _ {H : Type 0} {step : H → Shown → Result (Unit {0}) HookFault → H → Type 0} {faults : H → ℕ} (course : Course H) {P : List Tuple} {budget answers ports answered : ℕ} {s : Standing} {hook : H} (on : Showing step faults course.start P budget answers course.run ports answered s hook) where
  -- where memory is short
  pub memory_cut : IsCut step course.start (shown_of course.run.passed) hook Memory
  memory_cut = inl (memory_short step faults course.start P budget answers course.run ports answered s hook on)

  -- nothing comes any more
  pub at_end : Ends P s.mode s.frames s.stack s.boxes s.points → HasShown step course hook (record { end = Exhausted; ports = ports; answers = answered })
  at_end ends =
      record {
        shown = exhausted_shown step faults course.start P budget answers course.run ports answered s hook on ends;
        told = exhausted_ran step faults course.start P budget answers course.run ports answered s hook on ends;
      }

  -- an error comes
  pub at_error : {new : Standing} {e : RunError} {b : ℕ} → Next P s (Error e b) new → HasShown step course hook (record { end = EndsInError e b; ports = ports; answers = answered })
  at_error {new} {e} {b} gives =
      record {
        shown = error_shown step faults course.start P budget answers course.run ports answered s hook on new e b gives;
        told = error_ran step faults course.start P budget answers course.run ports answered s hook on new e b gives;
      }

  -- a point is made
  pub after_point : {new : Standing} {point : Point} → Next P s (Made point) new → Showing step faults course.start P budget answers course.run ports answered new hook
  after_point {new} {point} gives = shows_point step faults course.start P budget answers course.run ports answered s hook on new point gives

  -- a port comes
  module _ {new : Standing} {e : Event} (gives : Next P s (Passed e) new) where
    -- and there is no budget for it
    pub at_budget : ports ≡ budget → HasShown step course hook (record { end = Budget; ports = ports; answers = answered })
    at_budget spent =
        record {
          shown = shows_budget step faults course.start P budget answers course.run ports answered s hook on new e spent gives;
          told = budget_ran step faults course.start P budget answers course.run ports answered s hook on new e spent gives;
        }

    module _ (within : ports < budget) where
      pub cut_at_port : (now : H) (f : RunFault) → FailsAt step hook (ShownPort e) now f → IsCut step course.start (shown_of course.run.passed) now f
      cut_at_port now f fails = port_fails step faults course.start P budget answers course.run ports answered s hook on new e now f within gives fails

      pub after_port : (now : H) → step hook (ShownPort e) (Ok tt) now → faults now ≡ faults hook → Showing step faults course.start P budget answers course.run (ports + 1) answered new now
      after_port now shown same = shows_port step faults course.start P budget answers course.run ports answered s hook on new e now within gives shown same

  -- a port comes of which its box alone is told: the hook stays as it is
  pub after_bare : {new : Standing} {unread : Unread} {port : Port} {b : ℕ} → TellsPort unread port b (GivesBy P s new) → ports < budget → OnTrue unread.ports ((e : Event) → step hook (ShownPort e) (Ok tt) hook) → Showing step faults course.start P budget answers course.run (ports + 1) answered new hook
  after_bare bare within ignored = after_port bare.holds within hook (OnTrue_at bare.may ignored bare.event) refl

  -- an answer comes
  module _ {new : Standing} {a : Term} (gives : Next P s (Answer a) new) where
    pub cut_at_answer : (now : H) (f : RunFault) → FailsAt step hook (ShownAnswer a) now f → IsCut step course.start (shown_of course.run.passed) now f
    cut_at_answer now f fails = answer_fails step faults course.start P budget answers course.run ports answered s hook on new a now f gives fails

    module _ (now : H) (shown : step hook (ShownAnswer a) (Ok tt) now) where
      -- the last one that is asked for
      pub at_last : answered + 1 ≡ answers → HasShown step course now (record { end = AnswerLimit; ports = ports; answers = answered + 1 })
      at_last last =
          record {
            shown = last_shown step faults course.start P budget answers course.run ports answered s hook on new a last gives now shown;
            told = last_ran step faults course.start P budget answers course.run ports answered s hook on new a last gives;
          }

      -- one with others after it
      pub after_answer : answered + 1 < answers → faults now ≡ faults hook → Showing step faults course.start P budget answers course.run ports (answered + 1) new now
      after_answer more same = shows_answer step faults course.start P budget answers course.run ports answered s hook on new a now more gives shown same
