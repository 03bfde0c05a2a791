-- What a run on the way makes of what its search has given.
use Rattle.std.specs.Bool.{OnTrue}
use Rattle.std.proofs.Common.{◌≡◌, ◌≢◌, Bool, false, ℕ, List, refl, subst, sym, Option, Some, None, Result, Ok}
use Rattle.apd_causes.specs.declared.run.RunEnd.TheVariants.{Exhausted}
use Rattle.apd_term.specs.declared.tuple.Tuple.{Tuple}
use Rattle.apd_ports.specs.declared.event.Event.{Event}
use Rattle.apd_ports.specs.declared.event.Port.{Port}
use Rattle.apd_ports.specs.declared.event.Port.TheVariants.{Call}
use Rattle.apd_ports.specs.declared.hook.HookFault.{HookFault}
use Rattle.apd_ports.specs.declared.hook.Shown.{Shown}
use Rattle.apd_ports.specs.declared.hook.Shown.TheVariants.{Port as ShownPort}
use Rattle.apd_ports.specs.declared.point.Point.{Point}
use Rattle.apd_trace.specs.declared.item.Item.{Item}
use Rattle.apd_trace.specs.declared.item.Item.TheVariants.{Passed, Made}
use Rattle.apd_record.specs.declared.ongoing.OpenPoint.{OpenPoint}
use Rattle.apd_engine.specs.Given.{Holding, IsWhole, SetsHeldSome, TellsAlways, TellsCall, TellsPort, TellsSome}
use Rattle.apd_engine.specs.Progress.{Course, HasEnded, IsOn}
use Rattle.apd_engine.specs.Stepped.{HasStepped, stood}
use Rattle.apd_engine.specs.Search.{GivesAlways, GivesBy, GivesOrEnds, Grows, in_mode, stand}
use Rattle.apd_engine.specs.declared.given.Given.{Given}
use Rattle.apd_engine.specs.declared.given.Given.TheVariants.{Port as PortOf, Point as SomePoint, Kept as KeptPoint, Call as CallOf}
use Rattle.apd_engine.specs.declared.given.ToldCall.{ToldCall}
use Rattle.apd_engine.specs.declared.given.Unread.{Unread}
use Rattle.apd_engine.specs.declared.progress.Limits.{Limits}
use Rattle.apd_engine.specs.declared.progress.Progress.{Progress}
use Rattle.apd_engine.specs.declared.search.Mode.{Mode}
use Rattle.apd_engine.specs.declared.search.Search.{Search}
use Rattle.apd_engine.proofs.Passing.{on_exhausted, on_point, still_held}
use Rattle.apd_engine.proofs.Telling.{ends_told, gives_called, gives_kept, gives_of, gives_point, gives_port, grows_same, held_same, later_whole, same_called, same_none, same_port, same_whole, tells_weaker, whole_of}

module _ {H : Type 0} {step : H → Shown → Result (Unit {0}) HookFault → H → Type 0} {faults : H → ℕ} {course : Course H} {limits : Limits} {given : Option Given} {p : Progress} {hook : H} (s : HasStepped step faults course limits given p hook) where
  abbrev kept : Holding
  kept = record { tuples = p.search.frames.tuples; held = p.held }

  -- the run on the way with its search before, where what is held is the same
  stays : p.held ≡ s.held → IsOn step faults course s.program limits (stood s.search p.held p) hook
  stays same = still_held p.held same s.on

  -- nothing comes any more
  pub stepped_none : given ≡ None → HasEnded step course p hook (record { end = Exhausted; ports = p.ports; answers = p.answered })
  stepped_none none = on_exhausted (stays (same_none given s.held p.held s.sets none)) p.search s.more (ends_told s.program kept s.unread (stand s.search) (stand p.search) given s.told none)

  module _ (g : Given) (is : given ≡ Some g) where
    -- no point is given whole or bare
    pub no_point : g ≡ SomePoint → ⊥
    no_point point =
        let h = gives_point s.program kept s.unread (stand s.search) (stand p.search) given s.told g is point in
        let bare : false ≡ s.unread.points = sym s.points in
        let read = h.may in cc

    -- a point is given by its kept instance, and held
    pub stepped_point : g ≡ KeptPoint → IsOn step faults course s.program limits p hook
    stepped_point point =
        let k = gives_kept s.program kept s.unread (stand s.search) (stand p.search) given s.told g is point in
        subst (λ (o : Option OpenPoint). IsOn step faults course s.program limits (record { search = p.search; rows = p.rows; held = o; ports = p.ports; answered = p.answered }) hook) (sym k.held)
        (on_point s.on p.search s.more k.holds k.at)

    -- a Call is told of
    module _ (call : ToldCall) (bare : g ≡ CallOf call) where
      pub called : TellsCall s.unread call (GivesBy s.program (stand s.search) (stand p.search))
      called = gives_called s.program kept s.unread (stand s.search) (stand p.search) given s.told g is call bare

      pub at_called : IsOn step faults course s.program limits (stood s.search p.held p) hook
      at_called = stays (same_called given s.held p.held s.sets g is call bare)

    -- another port is told of by its box
    module _ (port : Port) (b : ℕ) (bare : g ≡ PortOf port b) where
      pub ported : TellsPort s.unread port b (GivesBy s.program (stand s.search) (stand p.search))
      ported = gives_port s.program kept s.unread (stand s.search) (stand p.search) given s.told g is port b bare

      pub at_port : IsOn step faults course s.program limits (stood s.search p.held p) hook
      at_port = stays (same_port given s.held p.held s.sets g is port b bare)

    -- an item is given whole
    module _ (r : Item) (whole : IsWhole g r) where
      pub at_whole : IsOn step faults course s.program limits (stood s.search p.held p) hook
      at_whole = stays (same_whole given s.held p.held s.sets g is r whole)

      pub gives_item : (i : Item) → r ≡ i → GivesBy s.program (stand s.search) (stand p.search) i
      gives_item i e = gives_of s.program kept s.unread (stand s.search) (stand p.search) given s.told g is r i whole e

      -- it is no point, and no Call
      pub no_made : (point : Point) → r ≡ Made point → ⊥
      no_made point e = whole_of s.program kept s.unread (stand s.search) (stand p.search) given s.told g is r (Made point) whole e

      pub no_call : (e : Event) → r ≡ Passed e → e.port ≢ Call
      no_call e same = later_whole s.unread e s.points (whole_of s.program kept s.unread (stand s.search) (stand p.search) given s.told g is r (Passed e) whole same)

-- What a step of the search gives.
module _ {H : Type 0} {step : H → Shown → Result (Unit {0}) HookFault → H → Type 0} {faults : H → ℕ} {course : Course H} {P : List Tuple} {limits : Limits} {p : Progress} {hook : H} (on : IsOn step faults course P limits p hook) (ignores : Bool) (ignored : OnTrue ignores ((e : Event) → step hook (ShownPort e) (Ok tt) hook)) (new : Search) (mode : Mode) (is : p.search.mode ≡ mode) where
  abbrev unread : Unread
  unread = record { ports = ignores; points = false }

  abbrev pub steps_some : (o : Option Given) (held : Option OpenPoint) → TellsSome (record { tuples = new.frames.tuples; held = held }) unread o (GivesOrEnds P (in_mode mode (stand p.search)) (stand new)) → SetsHeldSome o p.held held → Grows p.search.frames.tuples new.frames.tuples
      → HasStepped step faults course limits o (stood new held p) hook
  steps_some o held told sets more =
      record {
        program = P;
        search = p.search;
        held = p.held;
        unread = unread;
        on = on;
        told = subst (λ (m : Mode). TellsSome (record { tuples = new.frames.tuples; held = held }) unread o (GivesOrEnds P (in_mode m (stand p.search)) (stand new))) (sym is) told;
        sets = sets;
        more = more;
        points = refl;
        ignored = ignored;
      }

  abbrev pub steps_always : (given : Given) → TellsAlways unread given (GivesAlways (in_mode mode (stand p.search)) (stand new)) → new.frames.tuples ≡ p.search.frames.tuples → HasStepped step faults course limits (Some given) (stood new p.held p) hook
  steps_always given told same =
      steps_some (Some given) p.held
      (tells_weaker (record { tuples = new.frames.tuples; held = p.held }) unread given (GivesAlways (in_mode mode (stand p.search)) (stand new)) (GivesBy P (in_mode mode (stand p.search)) (stand new)) (λ i gives. gives P) (told (record { tuples = new.frames.tuples; held = p.held })))
      (held_same given refl) (grows_same same)
