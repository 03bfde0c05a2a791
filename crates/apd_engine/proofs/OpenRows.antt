-- What the rows of a run on the way tell.
use Rattle.std.proofs.Common.{◌≡◌, ◌≢◌, ℕ, ◌<◌, List, [], length, refl, ap, sym, subst, ◌∙◌, arith, Option, Some, None}
use Rattle.std.specs.Prelude.{slice_get}
use Rattle.std.proofs.lemmas.List.{length-map}
use Rattle.std.proofs.lemmas.Option.{slice_get_within}
use Rattle.apd_base.proofs.Lists.{slice_get-front}
use Rattle.apd_term.specs.declared.tuple.Tuple.{Tuple}
use Rattle.apd_ports.specs.declared.event.Event.{Event}
use Rattle.apd_ports.specs.declared.event.Port.TheVariants.{Call}
use Rattle.apd_ports.specs.declared.point.Point.{Point}
use Rattle.apd_ports.specs.declared.point.Step.{Step}
use Rattle.apd_record.specs.Index.{IsBelow}
use Rattle.apd_record.specs.Kept.{box_from, point_from, seen}
use Rattle.apd_record.specs.Open.{AreIn, MayAdd, Rows, noted_row, rows_held, told_by, with_box_row}
use Rattle.apd_record.specs.Recorded.{Recorded, noted, opened, with_point}
use Rattle.apd_record.specs.Sound.{MayOpen}
use Rattle.apd_record.specs.declared.ongoing.OpenPoint.{OpenPoint}
use Rattle.apd_record.proofs.Opening.{in_box, in_noted, in_on, in_point, told_box, told_noted, told_on, told_point}
use Rattle.apd_record.proofs.Told.{make-below, open-within}
use Rattle.apd_recorded.specs.Told.{told_port}
use Rattle.apd_engine.specs.Given.{IsGoalOf}
use Rattle.apd_engine.specs.Progress.{IsHeld}
use Rattle.apd_engine.specs.Recording.{newest, told_held, HasRow, IsThere, MayBeToldHeld, MayPass}
use Rattle.apd_engine.specs.Search.{Grows}
use Rattle.apd_engine.specs.declared.given.ToldCall.{ToldCall}
use Rattle.apd_engine.proofs.Telling.{later_port, later_there}

-- as many boxes and points as rows
pub box_count : (kept : List Tuple) (r : Rows) → length (told_by kept r).boxes ≡ length r.boxes
box_count kept r = length-map r.boxes (box_from [] (told_by kept r).points)

pub point_count : (kept : List Tuple) (r : Rows) → length (told_by kept r).points ≡ length r.points
point_count kept r = length-map r.points (point_from (seen [] []) kept)

-- other tuples are kept behind those that rows name
module _ {old new : List Tuple} (grows : Grows old new) where
  pub told_more : (r : Rows) → AreIn old r → told_by new r ≡ told_by old r
  told_more r there = subst (λ ts. told_by ts r ≡ told_by old r) (sym grows.is) (told_on old grows.more r there)

  pub in_more : (r : Rows) → AreIn old r → AreIn new r
  in_more r there = subst (λ ts. AreIn ts r) (sym grows.is) (in_on old grows.more r there)

  pub held_more : (o : Option OpenPoint) (x : Option Point) → IsHeld old o x → IsHeld new o x
  held_more None None h = tt
  held_more None (Some x) h = absurd h
  held_more (Some p) None h = absurd h
  held_more (Some p) (Some x) h =
      record {
        tuple = h.tuple;
        there = subst (λ ts. slice_get ts p.tuple.number ≡ Some h.tuple) (sym grows.is) (slice_get-front old grows.more p.tuple.number h.tuple h.there);
        goals = h.goals;
        is = h.is;
      }

-- a point that was held back is made
pub held_told : (kept : List Tuple) (r : Rows) (o : Option OpenPoint) (x : Option Point) → AreIn kept r → IsHeld kept o x → told_by kept (rows_held r o) ≡ told_held (told_by kept r) x
held_told kept r None None there h = refl
held_told kept r None (Some x) there h = absurd h
held_told kept r (Some p) None there h = absurd h
held_told kept r (Some p) (Some x) there h = told_point kept r p h.tuple there h.there ∙ ap (with_point (told_by kept r)) (sym h.is)

pub held_in : (kept : List Tuple) (r : Rows) (o : Option OpenPoint) (x : Option Point) → AreIn kept r → IsHeld kept o x → AreIn kept (rows_held r o)
held_in kept r None None there h = there
held_in kept r None (Some x) there h = absurd h
held_in kept r (Some p) None there h = absurd h
held_in kept r (Some p) (Some x) there h = in_point kept r p there (record { tuple = h.tuple; there = h.there; goals = h.goals })

pub held_may : (kept : List Tuple) (r : Rows) (o : Option OpenPoint) (x : Option Point) → IsHeld kept o x → MayBeToldHeld (told_by kept r) x → MayAdd r o
held_may kept r None None h may = tt
held_may kept r None (Some x) h may = absurd h
held_may kept r (Some p) None h may = absurd h
held_may kept r (Some p) (Some x) h may =
    let owner : x.owner ≡ p.owner = ap (λ (q : Point). q.owner) h.is in
    let before : x.before ≡ p.before = ap (λ (q : Point). q.before) h.is in (
      omega (arith, owner, open-within (told_by kept r) x.owner may.is_open, box_count kept r),
      subst (λ (b : Option Step). IsBelow (length r.points) b) before
          (subst (λ n. IsBelow n x.before) (point_count kept r) (make-below (told_by kept r) x may)),
    )

-- what a port tells the rows, after such a point
module _ (kept : List Tuple) (r : Rows) (R : Recorded) (told : told_by kept r ≡ R) (there : AreIn kept r) (e : Event) where
  module _ (later : e.port ≢ Call) where
    pub later_row : MayPass R e e.port → HasRow r e.box_no
    later_row may =
        let t : IsThere R e.box_no = later_there R e e.port later may in
        let same : length R.boxes ≡ length r.boxes = ap (λ (S : Recorded). length S.boxes) (sym told) ∙ box_count kept r in
        (t.0, omega (arith, t.1, same))

    pub later_told : told_by kept (noted_row r e.box_no e.port) ≡ told_port R e e.port
    later_told = told_noted kept r e.box_no e.port ∙ ap (λ (S : Recorded). noted S e.box_no e.port) told ∙ later_port R e e.port later

    pub later_in : AreIn kept (noted_row r e.box_no e.port)
    later_in = in_noted kept r e.box_no e.port there

  module _ (call : ToldCall) (is : e.port ≡ Call) (at : IsGoalOf call e) (from : ℕ) (newest_is : from ≡ newest R) (may : MayPass R e e.port) where
    may_open : MayOpen (told_by kept r) e.atom from
    may_open = subst (λ (S : Recorded). MayOpen S e.atom from) (sym told) (subst (MayOpen R e.atom) (sym newest_is) (subst (MayPass R e) is may))

    pub call_below : from < length r.points
    call_below =
        let low : from < length (told_by kept r).points = slice_get_within (told_by kept r).points from may_open.caller may_open.there in
        omega (arith, low, point_count kept r)

    pub call_told : told_by kept (with_box_row r from call.is_user call.size) ≡ told_port R e e.port
    call_told =
        told_box kept r e.atom from call.size call.is_user may_open at.form at.is_user
        ∙ ap (λ (S : Recorded). opened S e.atom from) told
        ∙ ap (opened R e.atom) newest_is
        ∙ ap (told_port R e) (sym is)

    pub call_in : AreIn kept (with_box_row r from call.is_user call.size)
    call_in = in_box kept r e.atom from call.size call.is_user there may_open at.form at.sized
