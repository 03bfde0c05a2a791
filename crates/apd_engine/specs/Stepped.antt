-- What a step of a search has given of a run's next item.
use Rattle.std.specs.Prelude.{◌≡◌, ℕ, List, Option, Result, Ok, false}
use Rattle.std.specs.Bool.{OnTrue}
use Rattle.apd_term.specs.declared.tuple.Tuple.{Tuple}
use Rattle.apd_ports.specs.declared.event.Event.{Event}
use Rattle.apd_ports.specs.declared.hook.HookFault.{HookFault}
use Rattle.apd_ports.specs.declared.hook.Shown.{Shown}
use Rattle.apd_ports.specs.declared.hook.Shown.TheVariants.{Port as ShownPort}
use Rattle.apd_record.specs.declared.ongoing.OpenPoint.{OpenPoint}
use Rattle.apd_engine.specs.Given.{SetsHeldSome, TellsSome}
use Rattle.apd_engine.specs.Progress.{Course, IsOn}
use Rattle.apd_engine.specs.Search.{GivesOrEnds, Grows, stand}
use Rattle.apd_engine.specs.declared.given.Given.{Given}
use Rattle.apd_engine.specs.declared.given.Unread.{Unread}
use Rattle.apd_engine.specs.declared.progress.Limits.{Limits}
use Rattle.apd_engine.specs.declared.progress.Progress.{Progress}
use Rattle.apd_engine.specs.declared.search.Search.{Search}

-- a run whose search was this one, and that held this point back
abbrev pub stood : Search → Option OpenPoint → Progress → Progress
stood search held p = record p { search = search; held = held }

-- a run on the way whose search has given this of the next item, and that is the same in all else
pub record HasStepped {H : Type 0} (step : H → Shown → Result (Unit {0}) HookFault → H → Type 0) (faults : H → ℕ) (course : Course H) (limits : Limits) (given : Option Given) (p : Progress) (hook : H) : Type 0 where
  pub program : List Tuple
  pub search : Search
  pub held : Option OpenPoint
  pub unread : Unread
  pub on : IsOn step faults course program limits (stood search held p) hook
  pub told : TellsSome (record { tuples = p.search.frames.tuples; held = p.held }) unread given (GivesOrEnds program (stand search) (stand p.search))
  pub sets : SetsHeldSome given held p.held
  pub more : Grows search.frames.tuples p.search.frames.tuples
  pub points : unread.points ≡ false
  pub ignored : OnTrue unread.ports ((e : Event) → step hook (ShownPort e) (Ok tt) hook)
