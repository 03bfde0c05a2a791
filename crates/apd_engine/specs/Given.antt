-- What is told of an item.
use Rattle.std.specs.Prelude.{◌≡◌, ℕ, Bool, if◌then◌else◌, ◌∷◌, [], List, length, Result, Ok, true, false, Option, Some, None, slice_get}
use Rattle.std.specs.Global.{Box}
use Rattle.apd_term.specs.Canonical.{canonical}
use Rattle.apd_term.specs.declared.tuple.Tuple.{Tuple}
use Rattle.apd_term.specs.Tuple.{canonical_tuple}
use Rattle.apd_ports.specs.declared.event.Event.{Event}
use Rattle.apd_ports.specs.declared.event.Port.{Port}
use Rattle.apd_ports.specs.declared.event.Port.TheVariants.{Call}
use Rattle.apd_ports.specs.declared.hook.HookFault.{HookFault}
use Rattle.apd_ports.specs.declared.hook.Shown.{Shown}
use Rattle.apd_ports.specs.declared.hook.Shown.TheVariants.{Port as ShownPort}
use Rattle.apd_ports.specs.declared.point.Point.{Point}
use Rattle.apd_ports.specs.declared.point.Step.{Step}
use Rattle.apd_record.specs.Kept.{IsSized}
use Rattle.apd_record.specs.Open.{made_point}
use Rattle.apd_record.specs.Recorded.{is_user_atom, query_point}
use Rattle.apd_record.specs.declared.ongoing.OpenPoint.{OpenPoint}
use Rattle.apd_trace.specs.Trace.{at_port}
use Rattle.apd_trace.specs.declared.frame.Called.{Called}
use Rattle.apd_trace.specs.declared.frame.Frame.{Frame}
use Rattle.apd_trace.specs.declared.item.Item.{Item}
use Rattle.apd_trace.specs.declared.item.Item.TheVariants.{Passed, Made, Answer, Error}
use Rattle.apd_frames.specs.Kept.{Calls, Points}
use Rattle.apd_engine.specs.Search.{opened, stand}
use Rattle.apd_engine.specs.declared.given.Unread.{Unread}
use Rattle.apd_engine.specs.declared.given.Given.{Given}
use Rattle.apd_engine.specs.declared.given.Given.TheVariants.{Whole, Port as PortOf, Point as SomePoint, Kept as KeptPoint, Call as CallOf}
use Rattle.apd_engine.specs.declared.given.ToldCall.{ToldCall}
use Rattle.apd_engine.specs.declared.search.Search.{Search}

-- a port is told by its box alone, where nobody reads it; B holds of its item
pub record TellsPort (unread : Unread) (port : Port) (b : ℕ) (B : Item → Type 0) : Type 0 where
  pub event : Event
  pub holds : B (Passed event)
  pub port_is : event.port ≡ port
  pub box_is : event.box_no ≡ b
  pub may : unread.ports ≡ true
  pub call : port ≡ Call → unread.points ≡ true

-- a point isn't told, where nobody reads it; B holds of it
pub record TellsPoint (unread : Unread) (B : Item → Type 0) : Type 0 where
  pub point : Point
  pub holds : B (Made point)
  pub may : unread.points ≡ true

-- the point is told whose instance is one of the tuples that were kept
pub record IsPointAt (kept : List Tuple) (p : OpenPoint) (point : Point) : Type 0 where
  pub tuple : Tuple
  pub there : slice_get kept p.tuple.number ≡ Some tuple
  pub goals : p.tuple.goals ≡ length tuple.body
  pub is : point ≡ made_point p tuple

-- what is kept while a search goes on: tuples, and the point that is held back
pub record Holding : Type 0 where
  pub tuples : List Tuple
  pub held : Option OpenPoint

-- a point is told by its kept instance, and held; B holds of it
pub record TellsKept (kept : Holding) (unread : Unread) (B : Item → Type 0) : Type 0 where
  pub row : OpenPoint
  pub point : Point
  pub holds : B (Made point)
  pub held : kept.held ≡ Some row
  pub at : IsPointAt kept.tuples row point
  pub may : unread.points ≡ false

-- B holds of what is told whole, and it isn't told where nobody reads ports
abbrev pub IsToldWhole : Unread → (Item → Type 0) → Option (Box Item) → Type 0
IsToldWhole unread B None = unread.ports ≡ true
IsToldWhole unread B (Some item) = B item.value

-- the goal of the event is in canonical form, and this is told of it
pub record IsGoalOf (call : ToldCall) (event : Event) : Type 0 where
  pub form : canonical event.atom ≡ event.atom
  pub is_user : call.is_user ≡ is_user_atom event.atom
  pub sized : IsSized call.size event.atom

-- a Call is told by what is told of its goal; B holds of it
pub record TellsCall (unread : Unread) (call : ToldCall) (B : Item → Type 0) : Type 0 where
  pub event : Event
  pub holds : B (Passed event)
  pub port_is : event.port ≡ Call
  pub at : IsGoalOf call event
  pub read : IsToldWhole unread (λ i. i ≡ Passed event) call.port
  pub may : unread.points ≡ false

-- a Call isn't told whole where points are read, and no point ever is
abbrev pub MayBeWhole : Unread → Item → Type 0
MayBeWhole unread (Passed e) = e.port ≡ Call → unread.points ≡ true
MayBeWhole unread (Made p) = ⊥
MayBeWhole unread (Answer a) = Unit {0}
MayBeWhole unread (Error e b) = Unit {0}

-- the item is given whole
abbrev pub IsWhole : Given → Item → Type 0
IsWhole (Whole whole) i = whole.value ≡ i
IsWhole (PortOf port b) i = ⊥
IsWhole SomePoint i = ⊥
IsWhole KeptPoint i = ⊥
IsWhole (CallOf call) i = ⊥

-- B holds of the item of which this is told, where this was kept
abbrev pub Tells : Holding → Unread → Given → (Item → Type 0) → Type 0
Tells kept unread (Whole i) B = MayBeWhole unread i.value × B i.value
Tells kept unread (PortOf port b) B = TellsPort unread port b B
Tells kept unread SomePoint B = TellsPoint unread B
Tells kept unread KeptPoint B = TellsKept kept unread B
Tells kept unread (CallOf call) B = TellsCall unread call B

-- the same whatever was kept, and whatever point is held
abbrev pub TellsAlways : Unread → Given → (Item → Type 0) → Type 0
TellsAlways unread given B = (kept : Holding) → Tells kept unread given B

-- the same where there may be no item
abbrev pub TellsSome : Holding → Unread → Option Given → (Option Item → Type 0) → Type 0
TellsSome kept unread None B = B None
TellsSome kept unread (Some given) B = Tells kept unread given (λ i. B (Some i))

-- what is held changes only where a point is told by its kept instance
abbrev pub SetsHeld : Given → Option OpenPoint → Option OpenPoint → Type 0
SetsHeld (Whole i) old new = new ≡ old
SetsHeld (PortOf port b) old new = new ≡ old
SetsHeld SomePoint old new = new ≡ old
SetsHeld KeptPoint old new = Unit {0}
SetsHeld (CallOf call) old new = new ≡ old

abbrev pub SetsHeldSome : Option Given → Option OpenPoint → Option OpenPoint → Type 0
SetsHeldSome None old new = new ≡ old
SetsHeldSome (Some given) old new = SetsHeld given old new

-- what is given of a point
abbrev pub of_point : Unread → Given
of_point unread = if unread.points then SomePoint else KeptPoint

-- the item is the innermost frame as a point
pub record IsPointOf (F : List Frame) (before : Option Step) (i : Item) : Type 0 where
  pub point : Point
  pub is : i ≡ Made point
  pub points : Points (Some point) F before

-- the innermost frame is told as a point, or isn't where its instance is too large
abbrev pub Makes : Holding → Unread → Bool → List Frame → Option Step → Type 0
Makes kept unread false F before = Points None F before
Makes kept unread true F before = Tells kept unread (of_point unread) (IsPointOf F before)

-- what is held changes only where a point is made and points are read
abbrev pub HoldsWhere : Bool → Bool → Option OpenPoint → Option OpenPoint → Type 0
HoldsWhere false unread old new = new ≡ old
HoldsWhere true true old new = new ≡ old
HoldsWhere true false old new = Unit {0}

-- the item is the Call of the goal that the frames call in box b
pub record IsCalled (F : List Frame) (b : ℕ) (i : Item) : Type 0 where
  pub goal : Called
  pub calls : Calls F b goal
  pub item : i ≡ at_port Call goal

-- the search of a query, whose point was kept alone
pub record IsOpened (query : Tuple) (s : Search) (p : OpenPoint) : Type 0 where
  pub search : stand s ≡ opened query
  pub tuples : s.frames.tuples ≡ canonical_tuple query ∷ []
  pub first : IsPointAt s.frames.tuples p (query_point query)

-- the hook is shown this port, or ignores it where it isn't told
abbrev pub IsPortRead : {H : Type 0} → (H → Shown → Result (Unit {0}) HookFault → H → Type 0) → H → Event → Option (Box Item) → Type 0
IsPortRead step hook e None = step hook (ShownPort e) (Ok tt) hook
IsPortRead step hook e (Some item) = item.value ≡ Passed e
