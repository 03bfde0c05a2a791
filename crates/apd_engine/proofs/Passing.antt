-- What the next item makes of a run on the way.
use Rattle.std.specs.Bool.{OnTrue}
use Rattle.std.proofs.lemmas.Bool.{OnTrue_at}
use Rattle.std.proofs.lemmas.Option.{get_or_from_slice_get}
use Rattle.std.proofs.Common.{◌≡◌, ◌≢◌, false, ℕ, ◌+◌, ◌-◌, ◌<◌, ◌≤◌, List, length, get_or, refl, ap, subst, sym, ◌∙◌, Option, Some, None, Result, Ok, Err}
use Rattle.std.specs.Prelude.{IfErr, IfOk, MatchOption, OnOk}
use Rattle.apd_base.specs.Counts.{Counts}
use Rattle.apd_causes.specs.declared.run.RunEnd.TheVariants.{Exhausted, Budget, AnswerLimit, Error as EndsInError}
use Rattle.apd_causes.specs.declared.run.Ran.{Ran}
use Rattle.apd_causes.specs.declared.run.RunError.{RunError}
use Rattle.apd_term.specs.Term.{Term}
use Rattle.apd_term.specs.declared.tuple.Tuple.{Tuple}
use Rattle.apd_ports.specs.declared.event.Event.{Event}
use Rattle.apd_ports.specs.declared.event.Port.{Port}
use Rattle.apd_ports.specs.declared.event.Port.TheVariants.{Call}
use Rattle.apd_ports.specs.declared.hook.HookFault.{HookFault}
use Rattle.apd_ports.specs.declared.hook.Shown.{Shown}
use Rattle.apd_ports.specs.declared.hook.Shown.TheVariants.{Port as ShownPort, Answer as ShownAnswer}
use Rattle.apd_ports.specs.declared.point.Point.{Point}
use Rattle.apd_record.specs.Kept.{no_tuple}
use Rattle.apd_record.specs.Open.{AreIn, MayAdd, Rows, made_point, noted_row, rows_held, told_by, with_box_row}
use Rattle.apd_record.specs.Recorded.{Recorded, empty, query_point}
use Rattle.apd_record.specs.declared.ongoing.OpenPoint.{OpenPoint}
use Rattle.apd_record.proofs.Opening.{in_none}
use Rattle.apd_recorded.specs.Told.{told_port}
use Rattle.apd_trace.specs.Run.{Run, query_run, shown_of}
use Rattle.std.specs.Global.{Box}
use Rattle.apd_trace.specs.declared.item.Item.{Item}
use Rattle.apd_trace.specs.declared.item.Item.TheVariants.{Passed, Answer, Made, Error}
use Rattle.apd_engine.specs.Cut.{FailsAt, IsCut, is_write_fault}
use Rattle.apd_engine.specs.Progress.{Course, HasEnded, IsFirst, IsHeld, IsOn, Keeping, PassesAnswer, PassesLater, held_point, left, record_at, to_come}
use Rattle.apd_engine.specs.Given.{IsGoalOf, IsPointAt, IsPortRead, IsToldWhole, TellsPort}
use Rattle.apd_engine.specs.Recording.{newest, told_held, HasRow, MayBeToldAll, MayPass, with_held}
use Rattle.apd_engine.specs.Search.{opened, stand, GivesBy, Grows, Ends}
use Rattle.apd_engine.specs.declared.given.ToldCall.{ToldCall}
use Rattle.apd_engine.specs.declared.given.Unread.{Unread}
use Rattle.apd_engine.specs.declared.progress.Limits.{Limits}
use Rattle.apd_engine.specs.declared.progress.Progress.{Progress}
use Rattle.apd_engine.specs.declared.running.RunFault.{RunFault}
use Rattle.apd_engine.specs.declared.search.Search.{Search}
use Rattle.apd_engine.proofs.OpenRows.{call_below, call_in, call_told, held_in, held_may, held_more, held_told, in_more, later_in, later_row, later_told, told_more}
use Rattle.apd_engine.proofs.RecordFacts.{keeps_first, keeps_point, keeps_port, keeps_answer, port_held, port_next, port_from, answer_held, ends_at_budget, ends_exhausted, ends_in_error, last_agrees}
use Rattle.apd_engine.proofs.Telling.{later_than_call}
use Rattle.apd_engine.proofs.RunFacts.{first_run, left_first, starts_showing}
use Rattle.apd_engine.proofs.Shown.{Next, cut_at_answer, cut_at_port, at_end, at_error, at_budget, at_last, after_point, after_port, after_answer}

-- at first the whole run is to come
pub come_first : (P : List Tuple) (query : Tuple) (limits : Limits) (p : Progress) → IsFirst query p → to_come P limits p ≡ query_run P query limits.budget limits.answers
come_first P query limits p first =
    let point = first.opened.first in
    let read : get_or p.search.frames.tuples first.point.tuple.number no_tuple ≡ point.tuple = get_or_from_slice_get p.search.frames.tuples first.point.tuple.number point.tuple no_tuple point.there in
    let held : held_point p.search.frames.tuples p.held ≡ Some (query_point query) = ap (held_point p.search.frames.tuples) first.held ∙ ap (λ t. Some (made_point first.point t)) read ∙ ap Some (sym point.is) in
    let later : Run = left P limits.budget limits.answers p.ports p.answered (stand p.search) in
    ap (λ (x : Option Point). record { passed = with_held x later.passed; end = later.end }) held
    ∙ ap (λ (r : Run). record { passed = with_held (Some (query_point query)) r.passed; end = r.end }) (left_first P limits.budget limits.answers p.ports p.answered (stand p.search) (opened query) first.ports first.answered first.opened.search)
    ∙ sym (first_run P query limits.budget limits.answers)

pub starts_on : {H : Type 0} (step : H → Shown → Result (Unit {0}) HookFault → H → Type 0) (faults : H → ℕ) (start : H) (P : List Tuple) (query : Tuple) (limits : Limits) (p : Progress) → 0 < limits.answers → length query.body ≤ 64 → IsFirst query p
    → MayBeToldAll empty (query_run P query limits.budget limits.answers).passed → IsOn step faults (record { start = start; run = to_come P limits p }) P limits p start
starts_on step faults start P query limits p some few first may =
    subst (λ (r : Run). IsOn step faults (record { start = start; run = r }) P limits p start) (sym (come_first P query limits p first))
    (record {
      showing = rw (first.ports, first.answered) (starts_showing step faults start P limits.budget limits.answers query (stand p.search) some few first.opened.search);
      point = Some (query_point query);
      held = rw first.held first.opened.first;
      there = rw first.rows (in_none p.search.frames.tuples);
      keeping = rw (first.ports, first.answered, first.rows) (keeps_first P query limits.budget limits.answers (stand p.search) first.opened.search may);
    })

-- a Call is read by the hook, or ignored
pub port_read : {H : Type 0} (step : H → Shown → Result (Unit {0}) HookFault → H → Type 0) (hook : H) (unread : Unread) (e : Event) (port : Option (Box Item)) → IsToldWhole unread (λ i. i ≡ Passed e) port → OnTrue unread.ports ((f : Event) → step hook (ShownPort f) (Ok tt) hook) → IsPortRead step hook e port
port_read step hook unread e None ports ignored = OnTrue_at ports ignored e
port_read step hook unread e (Some item) is ignored = is

-- what is held stays as it was
pub still_held : {H : Type 0} {step : H → Shown → Result (Unit {0}) HookFault → H → Type 0} {faults : H → ℕ} {course : Course H} {P : List Tuple} {limits : Limits} {p : Progress} {hook : H} (held : Option OpenPoint) → held ≡ p.held
    → IsOn step faults course P limits p hook → IsOn step faults course P limits (record { search = p.search; rows = p.rows; held = held; ports = p.ports; answered = p.answered }) hook
still_held {p} held same on =
    record {
      showing = on.showing;
      point = on.point;
      held = subst (λ o. IsHeld p.search.frames.tuples o on.point) (sym same) on.held;
      there = on.there;
      keeping = on.keeping;
    }

-- where a run stands after an item
abbrev after : Search → Rows → Option OpenPoint → ℕ → ℕ → Progress
after s rows held ports answered = record { search = s; rows = rows; held = held; ports = ports; answered = answered }

module _ {H : Type 0} {step : H → Shown → Result (Unit {0}) HookFault → H → Type 0} {faults : H → ℕ} {course : Course H} {P : List Tuple} {limits : Limits} {p : Progress} {hook : H} (on : IsOn step faults course P limits p hook) (new : Search) (grows : Grows p.search.frames.tuples new.frames.tuples) where
  abbrev kept : List Tuple
  kept = new.frames.tuples

  abbrev R : Recorded
  R = told_by kept p.rows

  same : R ≡ record_at p
  same = told_more grows p.rows on.there

  there : AreIn kept p.rows
  there = in_more grows p.rows on.there

  held : IsHeld kept p.held on.point
  held = held_more grows p.held on.point on.held

  keeping : Keeping P limits.budget limits.answers course.run p.ports p.answered (stand p.search) on.point R
  keeping = subst (λ (S : Recorded). Keeping P limits.budget limits.answers course.run p.ports p.answered (stand p.search) on.point S) (sym same) on.keeping

  -- nothing comes any more
  pub on_exhausted : Ends P (stand p.search).mode (stand p.search).frames p.search.stack p.search.boxes p.search.points → HasEnded step course (after new p.rows p.held p.ports p.answered) hook (record { end = Exhausted; ports = p.ports; answers = p.answered })
  on_exhausted ends =
      record {
        shown = at_end course on.showing ends;
        recorded = sym (ends_exhausted P limits.budget limits.answers course.run p.ports p.answered (stand p.search) on.point R keeping ends);
        there = there;
      }

  -- an error comes
  pub on_error : {e : RunError} {b : ℕ} → Next P (stand p.search) (Error e b) (stand new) → HasEnded step course (after new p.rows p.held p.ports p.answered) hook (record { end = EndsInError e b; ports = p.ports; answers = p.answered })
  on_error {e} {b} gives =
      record {
        shown = at_error course on.showing gives;
        recorded = sym (ends_in_error P limits.budget limits.answers course.run p.ports p.answered (stand p.search) on.point R keeping (stand new) e b on.showing.going.height on.showing.going.within gives);
        there = there;
      }

  -- a point is made
  pub on_point : {point : Point} {q : OpenPoint} → Next P (stand p.search) (Made point) (stand new) → IsPointAt kept q point → IsOn step faults course P limits (after new p.rows (Some q) p.ports p.answered) hook
  on_point {point} {q} gives at =
      record {
        showing = after_point course on.showing gives;
        point = Some point;
        held = at;
        there = there;
        keeping = keeps_point P limits.budget limits.answers course.run p.ports p.answered (stand p.search) on.point R keeping (stand new) point on.showing.going.height on.showing.going.within gives;
      }

  abbrev here : Progress
  here = after new p.rows p.held p.ports p.answered

  abbrev X : Rows
  X = rows_held p.rows p.held

  told_X : told_by kept X ≡ told_held R on.point
  told_X = held_told kept p.rows p.held on.point there held

  in_X : AreIn kept X
  in_X = held_in kept p.rows p.held on.point there held

  -- a port comes
  module _ {e : Event} (gives : Next P (stand p.search) (Passed e) (stand new)) where
    -- and there is no budget for it
    pub on_budget : p.ports ≡ limits.budget → HasEnded step course (after new p.rows p.held p.ports p.answered) hook (record { end = Budget; ports = p.ports; answers = p.answered })
    on_budget spent =
        record {
          shown = at_budget course on.showing gives spent;
          recorded = sym (ends_at_budget P limits.budget limits.answers course.run p.ports p.answered (stand p.search) on.point R keeping (stand new) e on.showing.going.height spent gives);
          there = there;
        }

    module _ (within : p.ports < limits.budget) where
      pub add_at_port : MayAdd p.rows p.held
      add_at_port = held_may kept p.rows p.held on.point held (port_held P limits.budget limits.answers course.run p.ports p.answered (stand p.search) on.point R keeping (stand new) e on.showing.going.height within gives)

      may_at_port : MayPass (told_held R on.point) e e.port
      may_at_port = port_next P limits.budget limits.answers course.run p.ports p.answered (stand p.search) on.point R keeping (stand new) e on.showing.going.height within gives

      from_at_port : new.points - 1 ≡ newest (told_held R on.point)
      from_at_port = port_from P limits.budget limits.answers course.run p.ports p.answered (stand p.search) on.point R keeping (stand new) e on.showing.going.height within gives

      -- what was told of it in these rows
      told_port_so : (rows : Rows) → told_by kept rows ≡ told_port (told_held R on.point) e e.port → AreIn kept rows → (now : H) → step hook (ShownPort e) (Ok tt) now → faults now ≡ faults hook
          → IsOn step faults course P limits (after new rows None (p.ports + 1) p.answered) now
      told_port_so rows told in_rows now shown fault =
          record {
            showing = after_port course on.showing gives within now shown fault;
            point = None;
            held = tt;
            there = in_rows;
            keeping = subst (λ (S : Recorded). Keeping P limits.budget limits.answers course.run (p.ports + 1) p.answered (stand new) None S) (sym told)
                (keeps_port P limits.budget limits.answers course.run p.ports p.answered (stand p.search) on.point R keeping (stand new) e on.showing.going.height within gives);
          }

      -- it is later than the Call of its box
      module _ (later : e.port ≢ Call) where
        pub row_at_port : HasRow X e.box_no
        row_at_port = later_row kept X (told_held R on.point) told_X in_X e later may_at_port

        pub on_later : (now : H) → step hook (ShownPort e) (Ok tt) now → faults now ≡ faults hook → IsOn step faults course P limits (after new (noted_row X e.box_no e.port) None (p.ports + 1) p.answered) now
        on_later = told_port_so (noted_row X e.box_no e.port) (later_told kept X (told_held R on.point) told_X in_X e later) (later_in kept X (told_held R on.point) told_X in_X e later)

      -- it is a Call
      module _ {call : ToldCall} (is : e.port ≡ Call) (at : IsGoalOf call e) where
        pub below_at_call : new.points - 1 < length X.points
        below_at_call = call_below kept X (told_held R on.point) told_X in_X e call is at (new.points - 1) from_at_port may_at_port

        pub on_call : (now : H) → step hook (ShownPort e) (Ok tt) now → faults now ≡ faults hook → IsOn step faults course P limits (after new (with_box_row X (new.points - 1) call.is_user call.size) None (p.ports + 1) p.answered) now
        on_call =
            told_port_so (with_box_row X (new.points - 1) call.is_user call.size) (call_told kept X (told_held R on.point) told_X in_X e call is at (new.points - 1) from_at_port may_at_port)
            (call_in kept X (told_held R on.point) told_X in_X e call is at (new.points - 1) from_at_port may_at_port)

    -- it is later than the Call of its box: it was passed, or there was no budget for it
    module _ (later : e.port ≢ Call) where
      passed_later : (q : Progress) (now : H) (o : Option Ran) → PassesLater step limits here hook e q now o → faults now ≡ faults hook → MatchOption o (IsOn step faults course P limits q now) (HasEnded step course q now)
      passed_later q now None is fault = rw is.told (on_later is.within later now is.shown fault)
      passed_later q now (Some ran) is fault = rw (is.same, is.hook_is, is.told) (on_budget is.spent)

      pub on_passed_later : (q : Progress) (now : H) (r : Result (Option Ran) RunFault) → IfOk r (PassesLater step limits here hook e q now) → Counts is_write_fault (faults hook) (faults now) r
          → IfOk r (λ o. MatchOption o (IsOn step faults course P limits q now) (HasEnded step course q now))
      on_passed_later q now (Ok o) is counts = passed_later q now o is counts
      on_passed_later q now (Err fault) is counts = tt

      pub cut_later : (now : H) (r : Result (Option Ran) RunFault) → IfErr r (λ fault. (p.ports < limits.budget) × FailsAt step hook (ShownPort e) now fault) → IfErr r (IsCut step course.start (shown_of course.run.passed) now)
      cut_later now (Ok o) fails = tt
      cut_later now (Err fault) fails = cut_at_port course on.showing gives fails.0 now fault fails.1

  -- a port comes of which its box alone is told
  module _ {unread : Unread} {port : Port} {b : ℕ} (bare : TellsPort unread port b (GivesBy P (stand p.search) (stand new))) where
    pub on_bare_budget : p.ports ≡ limits.budget → HasEnded step course (after new p.rows p.held p.ports p.answered) hook (record { end = Budget; ports = p.ports; answers = p.answered })
    on_bare_budget spent = on_budget bare.holds spent

    -- where points are read it is no Call
    module _ (within : p.ports < limits.budget) (read : unread.points ≡ false) where
      later_bare : bare.event.port ≢ Call
      later_bare = subst (λ (q : Port). q ≢ Call) (sym bare.port_is) (later_than_call unread port read bare.call)

      pub row_at_bare : HasRow X b
      row_at_bare = subst (HasRow X) bare.box_is (row_at_port bare.holds within later_bare)

      -- the hook stays as it is
      pub on_bare : OnTrue unread.ports ((e : Event) → step hook (ShownPort e) (Ok tt) hook) → IsOn step faults course P limits (after new (noted_row X b port) None (p.ports + 1) p.answered) hook
      on_bare ignored =
          subst (λ (q : Port). IsOn step faults course P limits (after new (noted_row X b q) None (p.ports + 1) p.answered) hook) bare.port_is
          (subst (λ (n : ℕ). IsOn step faults course P limits (after new (noted_row X n bare.event.port) None (p.ports + 1) p.answered) hook) bare.box_is
          (on_later bare.holds within later_bare hook (OnTrue_at bare.may ignored bare.event) refl))

  -- an answer comes
  module _ {a : Term} (gives : Next P (stand p.search) (Answer a) (stand new)) where
    pub add_at_answer : MayAdd p.rows p.held
    add_at_answer = held_may kept p.rows p.held on.point held (answer_held P limits.budget limits.answers course.run p.ports p.answered (stand p.search) on.point R keeping (stand new) a on.showing.going.height on.showing.going.within gives on.showing.going.below)

    module _ (now : H) (shown : step hook (ShownAnswer a) (Ok tt) now) where
      -- the last one that is asked for
      pub on_last : p.answered + 1 ≡ limits.answers → HasEnded step course (after new X None p.ports (p.answered + 1)) now (record { end = AnswerLimit; ports = p.ports; answers = p.answered + 1 })
      on_last last =
          record {
            shown = at_last course on.showing gives now shown last;
            recorded = told_X ∙ sym (last_agrees P limits.budget limits.answers course.run p.ports p.answered (stand p.search) on.point R keeping (stand new) a on.showing.going.height on.showing.going.within gives last);
            there = in_X;
          }

      -- one with others after it
      pub on_answer : p.answered + 1 < limits.answers → faults now ≡ faults hook → IsOn step faults course P limits (after new X None p.ports (p.answered + 1)) now
      on_answer more fault =
          record {
            showing = after_answer course on.showing gives now shown more fault;
            point = None;
            held = tt;
            there = in_X;
            keeping = subst (λ (S : Recorded). Keeping P limits.budget limits.answers course.run p.ports (p.answered + 1) (stand new) None S) (sym told_X)
                (keeps_answer P limits.budget limits.answers course.run p.ports p.answered (stand p.search) on.point R keeping (stand new) a on.showing.going.height on.showing.going.within gives more);
          }

    -- it was the last one, or not
    passed_answer : (q : Progress) (now : H) (o : Option Ran) → PassesAnswer limits here q o → step hook (ShownAnswer a) (Ok tt) now → faults now ≡ faults hook → MatchOption o (IsOn step faults course P limits q now) (HasEnded step course q now)
    passed_answer q now None is shown fault = rw is.0 (on_answer now shown is.1 fault)
    passed_answer q now (Some ran) is shown fault = rw (is.same, is.told) (on_last now shown is.last)

    pub on_passed_answer : (q : Progress) (now : H) (r : Result (Option Ran) RunFault) → IfOk r (PassesAnswer limits here q) → OnOk r (step hook (ShownAnswer a) (Ok tt) now) → Counts is_write_fault (faults hook) (faults now) r
        → IfOk r (λ o. MatchOption o (IsOn step faults course P limits q now) (HasEnded step course q now))
    on_passed_answer q now (Ok o) is shown counts = passed_answer q now o is shown counts
    on_passed_answer q now (Err fault) is shown counts = tt

    pub cut_answer : (now : H) (r : Result (Option Ran) RunFault) → IfErr r (FailsAt step hook (ShownAnswer a) now) → IfErr r (IsCut step course.start (shown_of course.run.passed) now)
    cut_answer now (Ok o) fails = tt
    cut_answer now (Err fault) fails = cut_at_answer course on.showing gives now fault fails
