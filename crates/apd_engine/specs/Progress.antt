-- A run on the way: what is left of it, and what holds from one item to the next.
use Rattle.std.specs.Prelude.{◌≡◌, ℕ, ◌+◌, ◌-◌, ◌*◌, ◌<◌, ◌≤◌, List, length, get_or, Option, Some, None, Result, Ok}
use Rattle.apd_causes.specs.declared.run.Ran.{Ran}
use Rattle.apd_causes.specs.declared.run.RunEnd.TheVariants.{Budget, AnswerLimit}
use Rattle.apd_term.specs.declared.tuple.Tuple.{Tuple}
use Rattle.apd_ports.specs.Hook.{GoesThrough, GoesInto, StopsAt}
use Rattle.apd_ports.specs.declared.hook.HookFault.{HookFault}
use Rattle.apd_ports.specs.declared.event.Event.{Event}
use Rattle.apd_ports.specs.declared.hook.Shown.{Shown}
use Rattle.apd_ports.specs.declared.hook.Shown.TheVariants.{Port as ShownPort}
use Rattle.apd_ports.specs.declared.point.Point.{Point}
use Rattle.apd_record.specs.Kept.{no_tuple}
use Rattle.apd_record.specs.Open.{AreIn, made_point, no_rows, noted_row, rows_held, told_by}
use Rattle.apd_record.specs.Recorded.{Recorded}
use Rattle.apd_record.specs.declared.ongoing.OpenPoint.{OpenPoint}
use Rattle.apd_recorded.specs.Told.{record_from, record_of}
use Rattle.apd_trace.specs.Run.{Run, run_of, ran_of, shown_of, ports_of, answers_of}
use Rattle.apd_engine.specs.Recording.{MayBeToldAll, with_held, held_count}
use Rattle.apd_engine.specs.Given.{IsOpened, IsPointAt}
use Rattle.apd_engine.specs.Search.{rest, stand, AllWaits, Goes, Standing, may_make}
use Rattle.apd_engine.specs.declared.progress.Limits.{Limits}
use Rattle.apd_engine.specs.declared.progress.Progress.{Progress}
use Rattle.apd_engine.specs.declared.search.Mode.{Mode}

-- a run that is to be passed, and the hook before its first item
pub record Course (H : Type 0) : Type 0 where
  pub start : H
  pub run : Run

-- nothing was passed yet, and the query's point is held back
pub record IsFirst (query : Tuple) (p : Progress) : Type 0 where
  pub point : OpenPoint
  pub opened : IsOpened query p.search point
  pub rows : p.rows ≡ no_rows
  pub held : p.held ≡ Some point
  pub ports : p.ports ≡ 0
  pub answered : p.answered ≡ 0

-- the point that is held back, where these tuples were kept
abbrev pub IsHeld : List Tuple → Option OpenPoint → Option Point → Type 0
IsHeld kept None None = Unit {0}
IsHeld kept None (Some point) = ⊥
IsHeld kept (Some p) None = ⊥
IsHeld kept (Some p) (Some point) = IsPointAt kept p point

-- the record of a run on the way
abbrev pub record_at : Progress → Recorded
record_at p = told_by p.search.frames.tuples p.rows

-- what a run still passes from this search on
abbrev pub left : List Tuple → ℕ → ℕ → ℕ → ℕ → Standing → Run
left P budget answers ports answered s =
    run_of (rest P (budget + 1) s.mode s.frames s.stack s.boxes s.points) (budget - ports) (answers - answered)

-- the point that is held back, read among these tuples
abbrev pub held_point : List Tuple → Option OpenPoint → Option Point
held_point kept None = None
held_point kept (Some p) = Some (made_point p (get_or kept p.tuple.number no_tuple))

-- the run that is still to come
abbrev pub to_come : List Tuple → Limits → Progress → Run
to_come P limits p =
    record {
      passed = with_held (held_point p.search.frames.tuples p.held) (left P limits.budget limits.answers p.ports p.answered (stand p.search)).passed;
      end = (left P limits.budget limits.answers p.ports p.answered (stand p.search)).end;
    }

-- so many ports and answers were passed, and what is left completes the run
pub record Going (P : List Tuple) (budget answers : ℕ) (all : Run) (ports answered : ℕ) (s : Standing) : Type 0 where
  pub end : all.end ≡ (left P budget answers ports answered s).end
  pub ports_left : ports_of all.passed ≡ ports + ports_of (left P budget answers ports answered s).passed
  pub answers_left : answers_of all.passed ≡ answered + answers_of (left P budget answers ports answered s).passed
  pub goes : Goes s.boxes s.mode s.frames.current
  pub waits : AllWaits s.boxes s.stack s.frames.saved
  pub height : length s.stack ≤ ports
  pub boxes : s.boxes ≤ ports
  pub points : s.points + may_make s.mode ≤ ports + answered + 1
  pub within : ports ≤ budget
  pub below : answered < answers

-- what the hook goes through of what is left from here completes what it goes through from the start
pub record Completes {H : Type 0} (step : H → Shown → Result (Unit {0}) HookFault → H → Type 0) (start : H) (all : List Shown) (here : H) (xs : List Shown) : Type 0 where
  pub through : (end : H) → GoesThrough step here xs end → GoesThrough step start all end
  pub into : (end : H) → GoesInto step here xs end → GoesInto step start all end
  pub stops : (fault : HookFault) (end : H) → StopsAt step fault here xs end → StopsAt step fault start all end

-- a run on the way, and its hook
pub record Showing {H : Type 0} (step : H → Shown → Result (Unit {0}) HookFault → H → Type 0) (faults : H → ℕ) (start : H) (P : List Tuple) (budget answers : ℕ) (all : Run) (ports answered : ℕ) (s : Standing) (hook : H) : Type 0 where
  pub going : Going P budget answers all ports answered s
  pub completes : Completes step start (shown_of all.passed) hook (shown_of (left P budget answers ports answered s).passed)
  pub kept : faults hook ≡ faults start

-- what is left of the run completes the record, which may be told it
pub record Keeping (P : List Tuple) (budget answers : ℕ) (all : Run) (ports answered : ℕ) (s : Standing) (held : Option Point) (R : Recorded) : Type 0 where
  pub may : MayBeToldAll R (with_held held (left P budget answers ports answered s).passed)
  pub agrees : record_of all.passed ≡ record_from R (with_held held (left P budget answers ports answered s).passed)
  pub lone : held_count held + may_make s.mode ≤ 1
  pub points : length R.points + held_count held ≡ s.points
  pub boxes : length R.boxes ≤ ports
  pub begun : 0 < s.points

-- a run on the way, with its hook and its record
pub record IsOn {H : Type 0} (step : H → Shown → Result (Unit {0}) HookFault → H → Type 0) (faults : H → ℕ) (course : Course H) (P : List Tuple) (limits : Limits) (p : Progress) (hook : H) : Type 0 where
  pub showing : Showing step faults course.start P limits.budget limits.answers course.run p.ports p.answered (stand p.search) hook
  pub point : Option Point
  pub held : IsHeld p.search.frames.tuples p.held point
  pub there : AreIn p.search.frames.tuples p.rows
  pub keeping : Keeping P limits.budget limits.answers course.run p.ports p.answered (stand p.search) point (record_at p)

-- the whole run was shown, and this tells how it ended
pub record HasShown {H : Type 0} (step : H → Shown → Result (Unit {0}) HookFault → H → Type 0) (course : Course H) (hook : H) (ran : Ran) : Type 0 where
  pub shown : GoesThrough step course.start (shown_of course.run.passed) hook
  pub told : ran ≡ ran_of course.run

-- and it was recorded
pub record HasEnded {H : Type 0} (step : H → Shown → Result (Unit {0}) HookFault → H → Type 0) (course : Course H) (p : Progress) (hook : H) (ran : Ran) : Type 0 where
  pub shown : HasShown step course hook ran
  pub recorded : record_at p ≡ record_of course.run.passed
  pub there : AreIn p.search.frames.tuples p.rows

-- how many items may still come after so many ports and answers: after a port or an answer at most one point
abbrev pub items_left : Limits → ℕ → ℕ → Mode → ℕ
items_left limits ports answered mode = 2 * ((limits.budget - ports) + (limits.answers - answered)) + may_make mode

-- the budget is spent, and nothing was passed
pub record IsSpent {H : Type 0} (limits : Limits) (old : Progress) (hook : H) (new : Progress) (now : H) (ran : Ran) : Type 0 where
  pub spent : old.ports ≡ limits.budget
  pub same : new ≡ old
  pub hook_is : now ≡ hook
  pub told : ran ≡ record { end = Budget; ports = old.ports; answers = old.answered }

-- the port was shown, and the rows tell of it
pub record IsLater {H : Type 0} (step : H → Shown → Result (Unit {0}) HookFault → H → Type 0) (limits : Limits) (old : Progress) (hook : H) (e : Event) (new : Progress) (now : H) : Type 0 where
  pub within : old.ports < limits.budget
  pub told : new ≡ record old { rows = noted_row (rows_held old.rows old.held) e.box_no e.port; held = None; ports = old.ports + 1 }
  pub shown : step hook (ShownPort e) (Ok tt) now

-- a port other than Call was passed, or there was no budget for it
abbrev pub PassesLater : {H : Type 0} → (H → Shown → Result (Unit {0}) HookFault → H → Type 0) → Limits → Progress → H → Event → Progress → H → Option Ran → Type 0
PassesLater step limits old hook e new now None = IsLater step limits old hook e new now
PassesLater step limits old hook e new now (Some ran) = IsSpent limits old hook new now ran

-- an answer was passed
abbrev pub with_answer : Progress → Progress
with_answer p = record p { rows = rows_held p.rows p.held; held = None; answered = p.answered + 1 }

-- and it was the last that is asked for
pub record IsLast (limits : Limits) (old new : Progress) (ran : Ran) : Type 0 where
  pub last : old.answered + 1 ≡ limits.answers
  pub same : new ≡ with_answer old
  pub told : ran ≡ record { end = AnswerLimit; ports = old.ports; answers = old.answered + 1 }

-- or others may come
abbrev pub PassesAnswer : Limits → Progress → Progress → Option Ran → Type 0
PassesAnswer limits old new None = (new ≡ with_answer old) × (old.answered + 1 < limits.answers)
PassesAnswer limits old new (Some ran) = IsLast limits old new ran
