-- How it is shown of a search that a record may be told its items, up to the kth port.
use Rattle.std.proofs.Common.{◌≡◌, ℕ, zero, suc, ◌<◌, ◌≤◌, List, [], ◌∷◌, ◌++◌, refl, arith}
use Rattle.apd_causes.specs.declared.run.RunError.{RunError}
use Rattle.apd_term.specs.declared.tuple.Tuple.{Tuple}
use Rattle.apd_ports.specs.declared.event.Event.{Event}
use Rattle.apd_ports.specs.declared.event.Port.{Port}
use Rattle.apd_ports.specs.declared.point.Point.{Point}
use Rattle.apd_record.specs.Recorded.{Recorded, with_point}
use Rattle.apd_record.specs.Chain.{AreChained}
use Rattle.apd_trace.specs.Trace.{Out, nothing, emit, and_then, at_port, up_to_error}
use Rattle.apd_trace.specs.Run.{run_of, before_event}
use Rattle.apd_trace.specs.declared.frame.Called.{Called}
use Rattle.apd_trace.specs.declared.item.Item.{Item}
use Rattle.apd_trace.specs.declared.item.Item.TheVariants.{Passed, Answer, Made, Error}
use Rattle.apd_recorded.specs.Told.{told, told_port, record_from, MayPass, May, MayTake}
use Rattle.apd_recorded.specs.Within.{MayTakeTo, Within}

pub Within-less : (xs : List Item) (j k : ℕ) → j ≤ k → Within xs j → Within xs k
Within-less xs zero k le h = elim h [ ]
Within-less xs (suc j) zero le h = absurd (omega arith)
Within-less [] (suc j) (suc k) le h = tt
Within-less (Passed e ∷ xs) (suc j) (suc k) le h = Within-less xs j k (omega arith) h
Within-less (Made p ∷ xs) (suc j) (suc k) le h = Within-less xs (suc j) (suc k) le h
Within-less (Answer a ∷ xs) (suc j) (suc k) le h = Within-less xs (suc j) (suc k) le h
Within-less (Error e b ∷ xs) (suc j) (suc k) le h = elim h [ ]

pub Within-first : (xs ys : List Item) (k : ℕ) → Within (xs ++ ys) k → Within xs k
Within-first xs ys zero h = h
Within-first [] ys (suc k) h = tt
Within-first (Passed e ∷ xs) ys (suc k) h = Within-first xs ys k h
Within-first (Made p ∷ xs) ys (suc k) h = Within-first xs ys (suc k) h
Within-first (Answer a ∷ xs) ys (suc k) h = Within-first xs ys (suc k) h
Within-first (Error e b ∷ xs) ys (suc k) h = elim h [ ]

pub Within-second : (xs ys : List Item) (k : ℕ) → Within (xs ++ ys) k → Within ys k
Within-second xs ys zero h = elim h [ ]
Within-second [] ys (suc k) h = h
Within-second (Passed e ∷ xs) ys (suc k) h = Within-less ys k (suc k) (omega arith) (Within-second xs ys k h)
Within-second (Made p ∷ xs) ys (suc k) h = Within-second xs ys (suc k) h
Within-second (Answer a ∷ xs) ys (suc k) h = Within-second xs ys (suc k) h
Within-second (Error e b ∷ xs) ys (suc k) h = elim h [ ]

pub record_from-append : (R : Recorded) (xs ys : List Item) → record_from R (xs ++ ys) ≡ record_from (record_from R xs) ys
record_from-append R [] ys = refl
record_from-append R (x ∷ xs) ys = record_from-append (told R x) xs ys

module _ (P : List Tuple) where
  taken-less : (xs : List Item) (j k : ℕ) (R : Recorded) → j ≤ k → MayTakeTo P k R xs → MayTakeTo P j R xs
  taken-less [] j k R le h = tt
  taken-less (x ∷ xs) zero k R le h = tt
  taken-less (x ∷ xs) (suc j) zero R le h = absurd (omega arith)
  taken-less (Passed e ∷ xs) (suc j) (suc k) R le h = (h.0, taken-less xs j k (told R (Passed e)) (omega arith) h.1)
  taken-less (Made p ∷ xs) (suc j) (suc k) R le h = (h.0, taken-less xs (suc j) (suc k) (told R (Made p)) le h.1)
  taken-less (Answer a ∷ xs) (suc j) (suc k) R le h = (h.0, taken-less xs (suc j) (suc k) R le h.1)
  taken-less (Error e b ∷ xs) (suc j) (suc k) R le h = tt

  taken-append : (xs ys : List Item) (k : ℕ) (R : Recorded) → MayTakeTo P k R xs → (Within xs k → MayTakeTo P k (record_from R xs) ys) → MayTakeTo P k R (xs ++ ys)
  taken-append [] [] zero R a b = tt
  taken-append [] (y ∷ ys) zero R a b = tt
  taken-append [] ys (suc k) R a b = b tt
  taken-append (x ∷ xs) ys zero R a b = tt
  taken-append (Passed e ∷ xs) ys (suc k) R a b = (a.0, taken-append xs ys k (told R (Passed e)) a.1 (λ w. taken-less ys k (suc k) (record_from (told R (Passed e)) xs) (omega arith) (b w)))
  taken-append (Made p ∷ xs) ys (suc k) R a b = (a.0, taken-append xs ys (suc k) (told R (Made p)) a.1 b)
  taken-append (Answer x ∷ xs) ys (suc k) R a b = (a.0, taken-append xs ys (suc k) R a.1 b)
  taken-append (Error e x ∷ xs) ys (suc k) R a b = tt

  -- the record may be told the items up to the kth port, and Q holds after them if they have fewer ports and no error
  abbrev pub Meets : ℕ → Recorded → Out → (Recorded → ℕ → ℕ → Type 0) → Type 0
  Meets k R o Q = MayTakeTo P k R o.items × (Within o.items k → Q (record_from R o.items) o.boxes o.points)

  pub meets_then : (k : ℕ) (R : Recorded) (o : Out) (f : ℕ → ℕ → Out) (Q Q' : Recorded → ℕ → ℕ → Type 0) → Meets k R o Q → ((S : Recorded) (n m : ℕ) → Q S n m → Meets k S (f n m) Q') → Meets k R (and_then o f) Q'
  meets_then k R o f Q Q' first others = (
    taken-append o.items (f o.boxes o.points).items k R first.0 (λ w. (others (record_from R o.items) o.boxes o.points (first.1 w)).0),
    λ w. rw (record_from-append R o.items (f o.boxes o.points).items)
        ((others (record_from R o.items) o.boxes o.points (first.1 (Within-first o.items (f o.boxes o.points).items k w))).1 (Within-second o.items (f o.boxes o.points).items k w)),
  )

  pub meets_more : (k : ℕ) (R : Recorded) (o : Out) (Q Q' : Recorded → ℕ → ℕ → Type 0) → ((S : Recorded) (n m : ℕ) → Q S n m → Q' S n m) → Meets k R o Q → Meets k R o Q'
  meets_more k R o Q Q' imp h = (h.0, λ w. imp (record_from R o.items) o.boxes o.points (h.1 w))

  -- a point costs no port
  pub meets_made : (k : ℕ) (R : Recorded) (p : Point) (o : Out) (Q : Recorded → ℕ → ℕ → Type 0) → May P R (Made p) → Meets k (with_point R p) o Q → Meets k R (emit (Made p) o) Q
  meets_made zero R p o Q may h = (tt, λ w. elim w [ ])
  meets_made (suc k) R p o Q may h = ((may, h.0), h.1)

  abbrev pub event_of : Port → Called → Event
  event_of port g = record { port = port; box_no = g.box_no; caller = g.caller; depth = g.depth; atom = g.atom }

  pub meets_passed : (k : ℕ) (R : Recorded) (port : Port) (g : Called) (o : Out) (Q : Recorded → ℕ → ℕ → Type 0) → MayPass P R (event_of port g) port × AreChained (told_port R (event_of port g) port) → Meets k (told_port R (event_of port g) port) o Q → Meets k R (emit (at_port port g) o) Q
  meets_passed zero R port g o Q may h = (tt, λ w. elim w [ ])
  meets_passed (suc k) R port g o Q may h =
      ((may, taken-less o.items k (suc k) (told_port R (event_of port g) port) (omega arith) h.0), λ w. h.1 (Within-less o.items k (suc k) (omega arith) w))

  -- the first port of a recursion
  pub meets_port : (k : ℕ) (R : Recorded) (port : Port) (g : Called) (o : Out) (Q : Recorded → ℕ → ℕ → Type 0) → MayPass P R (event_of port g) port × AreChained (told_port R (event_of port g) port) → Meets k (told_port R (event_of port g) port) o Q → Meets (suc k) R (emit (at_port port g) o) Q
  meets_port k R port g o Q may h = ((may, h.0), h.1)

  pub meets_error : (k : ℕ) (R : Recorded) (e : RunError) (b n m : ℕ) (Q : Recorded → ℕ → ℕ → Type 0) → Meets k R (emit (Error e b) (nothing n m)) Q
  meets_error zero R e b n m Q = (tt, λ w. elim w [ ])
  meets_error (suc k) R e b n m Q = (tt, λ w. elim w [ ])

  pub meets_nothing : (k : ℕ) (R : Recorded) (n m : ℕ) (Q : Recorded → ℕ → ℕ → Type 0) → Q R n m → Meets k R (nothing n m) Q
  meets_nothing zero R n m Q h = (tt, λ w. h)
  meets_nothing (suc k) R n m Q h = (tt, λ w. h)

  -- nothing follows an error
  pub taken_up_to : (k : ℕ) (R : Recorded) (xs : List Item) → MayTakeTo P k R xs → MayTakeTo P k R (up_to_error xs)
  taken_up_to k R [] h = tt
  taken_up_to zero R (Passed e ∷ xs) h = tt
  taken_up_to zero R (Made p ∷ xs) h = tt
  taken_up_to zero R (Answer a ∷ xs) h = tt
  taken_up_to zero R (Error e b ∷ xs) h = tt
  taken_up_to (suc k) R (Passed e ∷ xs) h = (h.0, taken_up_to k (told R (Passed e)) xs h.1)
  taken_up_to (suc k) R (Made p ∷ xs) h = (h.0, taken_up_to (suc k) (told R (Made p)) xs h.1)
  taken_up_to (suc k) R (Answer a ∷ xs) h = (h.0, taken_up_to (suc k) R xs h.1)
  taken_up_to (suc k) R (Error e b ∷ xs) h = tt

  hold_taken : (R : Recorded) (i : Item) (xs : List Item) → May P R i → MayTake P (told R i) xs → MayTake P R (before_event i xs)
  hold_taken R i [] a b = tt
  hold_taken R i (x ∷ xs) a b = (a, b)

  -- what a run passes may be told where the trace may, up to a port that the run doesn't reach
  pub passed_taken : (k : ℕ) (R : Recorded) (xs : List Item) (ports answers : ℕ) → ports < k → MayTakeTo P k R xs → MayTake P R (run_of xs ports answers).passed
  passed_taken zero R xs ports answers lt h = absurd (omega arith)
  passed_taken (suc k) R [] ports answers lt h = tt
  passed_taken (suc k) R (Made p ∷ xs) ports answers lt h = hold_taken R (Made p) (run_of xs ports answers).passed h.0 (passed_taken (suc k) (told R (Made p)) xs ports answers lt h.1)
  passed_taken (suc k) R (Error e b ∷ xs) ports answers lt h = tt
  passed_taken (suc k) R (Passed e ∷ xs) zero answers lt h = tt
  passed_taken (suc k) R (Passed e ∷ xs) (suc ports) answers lt h = (h.0, passed_taken k (told R (Passed e)) xs ports answers (omega arith) h.1)
  passed_taken (suc k) R (Answer a ∷ xs) ports zero lt h = (h.0, tt)
  passed_taken (suc k) R (Answer a ∷ xs) ports (suc zero) lt h = (h.0, tt)
  passed_taken (suc k) R (Answer a ∷ xs) ports (suc (suc answers)) lt h = (h.0, passed_taken (suc k) R xs ports (suc answers) lt h.1)
