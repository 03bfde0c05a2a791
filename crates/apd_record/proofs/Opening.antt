-- Rows of a search that goes on: what stands beside them stays right, and what record they tell.
use Rattle.std.proofs.Common.{◌≡◌, ℕ, zero, suc, ◌+◌, ◌-◌, ◌^◌, ◌<◌, ◌≤◌, ◌==◌, Bool, true, false, List, [], ◌∷◌, ◌++◌, length, map, get_or, not, Option, None, Some, refl, ap, sym, subst, ◌∙◌, arith, inl, inr}
use Rattle.std.specs.Prelude.{nat_lt, slice_get, All}
use Rattle.std.proofs.lemmas.Bool.{eqb-true}
use Rattle.std.proofs.lemmas.List.{get_or_append_left, length-map, map-append, length_push}
use Rattle.std.proofs.lemmas.List.Elements.{All-nil, All-head, All-tail, All-weaker}
use Rattle.std.proofs.lemmas.Option.{get_or_from_slice_get, slice_get_within}
use Rattle.apd_base.proofs.Lists.{slice_get-front, slice_get-push}
use Rattle.apd_term.specs.Canonical.{canonical}
use Rattle.apd_term.specs.Term.{Term}
use Rattle.apd_term.specs.declared.tuple.Tuple.{Tuple}
use Rattle.apd_ports.specs.declared.event.Port.{Port}
use Rattle.apd_ports.specs.declared.event.Port.TheVariants.{Call}
use Rattle.apd_ports.specs.declared.point.Point.{Point}
use Rattle.apd_ports.specs.declared.point.Step.{Step}
use Rattle.apd_tuples.specs.Tuples.{IsNumbered}
use Rattle.apd_boxes.specs.Owned.{Owned, nothing, earlier_of, edited, owning}
use Rattle.apd_boxes.specs.declared.boxes.KeptBox.{KeptBox}
use Rattle.apd_points.specs.declared.kept.KeptPoint.{KeptPoint}
use Rattle.apd_points.specs.declared.kept.TuplePlace.{TuplePlace}
use Rattle.apd_points.specs.declared.kept.TuplePlace.TheVariants.{Written as Spanned, Kept as Named}
use Rattle.apd_points.specs.declared.packed.WholePoint.{WholePoint}
use Rattle.apd_points.specs.Packed.{before_in, number_of, own, row_of, Fits}
use Rattle.apd_points.proofs.Packing.{fits_first}
use Rattle.apd_record.specs.declared.ongoing.OpenPoint.{OpenPoint}
use Rattle.apd_record.specs.declared.order.Order.{Order}
use Rattle.apd_record.specs.Index.{is_exit, IsBelow, IsIndex, IsWithin}
use Rattle.apd_record.specs.Kept.{box_from, form_of, goal_of, no_tuple, point_from, tuple_there, IsAtomThere, IsHeld, IsSized, IsTupleThere}
use Rattle.apd_record.specs.Open.{blank_point, blank_tuple, blanked, box_row, made_point, no_rows, noted_row, point_of_row, point_row, told_by, variables_for, with_box_row, with_point_row, AreIn, IsBeside, Rows}
use Rattle.apd_record.specs.Ordered.{IsNext, IsOrdered}
use Rattle.apd_record.specs.Recorded.{Recorded, BoxRow, is_user_atom, noted, opened, point_at, with_point}
use Rattle.apd_record.specs.Sound.{IsKept, MayOpen}
use Rattle.apd_record.proofs.Found.{ordered-passed}
use Rattle.apd_record.proofs.Indexed.{box_index, point_index}
use Rattle.apd_record.proofs.KeptRows.{passed_rows, rows_box, rows_edited, rows_point, told_pushed}
use Rattle.apd_boxes.specs.Boxes.{kept_passed}
use Rattle.apd_boxes.proofs.Places.{length-edited}
use Rattle.apd_record.proofs.Shaped.{from_of, index_same, shape, within_same, Shape}

-- Numbers that are there.

within_box : (R : Recorded) (row : BoxRow) → IsWithin R → row.from < length R.points → IsWithin (record { boxes = R.boxes ++ row ∷ []; points = R.points })
within_box R row h l =
    let n : length (R.boxes ++ row ∷ []) ≡ length R.boxes + 1 = length_push R.boxes row in
    record {
      owner = λ p x at. omega (arith, h.owner p x at, n);
      later = h.later;
      from = λ i r at. elim (slice_get-push R.boxes row i r at) [ inl e ↦ h.from i r e | inr e ↦ subst (λ (b : BoxRow). b.from < length R.points) e.1 l ];
    }

within_point : (R : Recorded) (x : Point) → IsWithin R → x.owner ≤ length R.boxes → IsBelow (length R.points) x.before → IsWithin (with_point R x)
within_point R x h o b =
    let n : length (R.points ++ x ∷ []) ≡ length R.points + 1 = length_push R.points x in
    record {
      owner = λ p y at. elim (slice_get-push R.points x p y at) [ inl e ↦ h.owner p y e | inr e ↦ subst (λ (z : Point). z.owner ≤ length R.boxes) e.1 o ];
      later = λ p y at. elim (slice_get-push R.points x p y at) [ inl e ↦ h.later p y e | inr e ↦ subst (λ k. IsBelow k y.before) (sym e.0) (subst (λ (z : Point). IsBelow (length R.points) z.before) e.1 b) ];
      from = λ i r at. omega (arith, h.from i r at, n);
    }

-- Rows.

pub beside_box : (r : Rows) (o os : List Owned) (l : List (Option ℕ)) (d d' : Order) (row : KeptBox) (bs : List KeptBox) → IsBeside r o l d → row.from < length r.points → length r.boxes < 2 ^ 32 - 1
    → bs ≡ r.boxes ++ row ∷ [] → os ≡ o ++ nothing ∷ [] → IsOrdered d' (r.boxes ++ row ∷ []) r.points → IsBeside (record { boxes = bs; points = r.points }) os l d'
beside_box r o os l d d' row bs h from few be oe order =
    let n : length (blanked r).boxes ≡ length r.boxes = length-map r.boxes (box_from [] []) in
    let m : length (blanked r).points ≡ length r.points = length-map r.points blank_point in
    let there : row.from < length (blanked r).points = omega (arith, from, m) in
    let more : map (box_from [] []) (r.boxes ++ row ∷ []) ≡ map (box_from [] []) r.boxes ++ box_from [] [] row ∷ [] = map-append (box_from [] []) r.boxes (row ∷ []) in
    rw (be, oe)
    (record {
      boxes = omega (arith, few, length_push r.boxes row);
      points = h.points;
      within = subst (λ (rows : List BoxRow). IsWithin (record { boxes = rows; points = (blanked r).points })) (sym more) (within_box (blanked r) (box_from [] [] row) h.within there);
      index = subst (λ (rows : List BoxRow). IsIndex (record { boxes = rows; points = (blanked r).points }) (o ++ nothing ∷ []) l) (sym more) (box_index (blanked r) o l h.within h.index (box_from [] [] row));
      ordered = order;
    })

pub beside_point : (r : Rows) (o os : List Owned) (l ls : List (Option ℕ)) (d d' : Order) (x : KeptPoint) (xs : List KeptPoint) (e : Option ℕ) → IsBeside r o l d → x.owner ≤ length r.boxes → IsBelow (length r.points) x.before → length r.points < 2 ^ 32 - 1
    → ((d : Owned) → slice_get o x.owner ≡ Some d → e ≡ earlier_of (x.done == 0) d) → xs ≡ r.points ++ x ∷ []
    → os ≡ edited (owning (length r.points) (x.done == 0) (is_exit (blank_point x))) o x.owner → ls ≡ l ++ e ∷ [] → IsOrdered d' r.boxes (r.points ++ x ∷ []) → IsBeside (record { boxes = r.boxes; points = xs }) os ls d'
beside_point r o os l ls d d' x xs e h owner below few earlier xe oe le order =
    let n : length (blanked r).boxes ≡ length r.boxes = length-map r.boxes (box_from [] []) in
    let m : length (blanked r).points ≡ length r.points = length-map r.points blank_point in
    let there : x.owner ≤ length (blanked r).boxes = omega (arith, owner, n) in
    let more : map blank_point (r.points ++ x ∷ []) ≡ map blank_point r.points ++ blank_point x ∷ [] = map-append blank_point r.points (x ∷ []) in
    rw (xe, oe, le)
    (record {
      boxes = h.boxes;
      points = omega (arith, few, length_push r.points x);
      within = subst (λ (ps : List Point). IsWithin (record { boxes = (blanked r).boxes; points = ps })) (sym more) (within_point (blanked r) (blank_point x) h.within there (subst (λ k. IsBelow k x.before) (sym m) below));
      index =
          subst (λ (ps : List Point). IsIndex (record { boxes = (blanked r).boxes; points = ps }) (edited (owning (length r.points) (x.done == 0) (is_exit (blank_point x))) o x.owner) (l ++ e ∷ [])) (sym more)
          (subst (λ k. IsIndex (with_point (blanked r) (blank_point x)) (edited (owning k (x.done == 0) (is_exit (blank_point x))) o x.owner) (l ++ e ∷ [])) m
          (point_index (blanked r) o l h.within h.index (blank_point x) there e earlier));
      ordered = order;
    })

froms_passed : (port : Port) (i : ℕ) (bs : List KeptBox) → map from_of (map (box_from [] []) (edited (kept_passed port) bs i)) ≡ map from_of (map (box_from [] []) bs)
froms_passed port i [] = refl
froms_passed port zero (b ∷ bs) = refl
froms_passed port (suc i) (b ∷ bs) = ap (λ ns. b.from ∷ ns) (froms_passed port i bs)

pub beside_noted : (r : Rows) (o : List Owned) (l : List (Option ℕ)) (d : Order) (port : Port) (i : ℕ) (bs : List KeptBox) → IsBeside r o l d → bs ≡ edited (kept_passed port) r.boxes i → IsBeside (record { boxes = bs; points = r.points }) o l d
beside_noted r o l d port i bs h e =
    let froms : map from_of (map (box_from [] []) (edited (kept_passed port) r.boxes i)) ≡ map from_of (map (box_from [] []) r.boxes) = froms_passed port i r.boxes in
    let R : Recorded = record { boxes = map (box_from [] []) (edited (kept_passed port) r.boxes i); points = map blank_point r.points } in
    rw e
    (record {
      boxes = omega (arith, h.boxes, length-edited (kept_passed port) r.boxes i);
      points = h.points;
      within = within_same R (blanked r) froms refl h.within;
      index = index_same R (blanked r) froms refl o l h.index;
      ordered = ordered-passed d r.boxes r.points port i h.ordered;
    })

pub noted_as : (r : Rows) (n : ℕ) (port : Port) → 0 < n → record { boxes = edited (kept_passed port) r.boxes (n - 1); points = r.points } ≡ noted_row r n port
noted_as r zero port l = absurd (omega arith)
noted_as r (suc i) port l = let e : suc i - 1 ≡ i = omega arith in ap (λ k. record { boxes = edited (kept_passed port) r.boxes k; points = r.points }) e

-- What the row of a point tells.

abbrev exit_number : Option Step → ℕ
exit_number None = 0
exit_number (Some s) = s.exit.0

next_by : (place d : ℕ) (n : Option ℕ) (b : Option Step) → before_in place n d ≡ b → IsBelow place b → IsNext place b
next_by place d n None e l = tt
next_by place zero n (Some s) e l = cc
next_by place (suc d) None (Some s) e l = cc
next_by place (suc d) (Some m) (Some s) e l = let exit : place - 1 ≡ s.exit.0 = ap exit_number e in omega (arith, exit, l)

-- the point that it is of stands right behind the exit by which it came about
pub fits-next : (place : ℕ) (x : KeptPoint) (e : Option ℕ) → Fits place x e → IsBelow place x.before → IsNext place x.before
fits-next place x e h l = next_by place x.done (number_of x.before e) x.before (ap (λ (w : WholePoint). w.point.before) h.told) l

-- and its tuple was kept
pub row_from_fits : (place : ℕ) (x : KeptPoint) (e : Option ℕ) → Fits place x e → x ≡ point_row (point_of_row x)
row_from_fits place x e h =
    let same : (own place (row_of x e)).point ≡ x = ap (λ (w : WholePoint). w.point) h.told in
    subst (λ (y : KeptPoint). y ≡ point_row (point_of_row y)) same refl

-- it is the row behind what its box had
pub fits_earlier : (place : ℕ) (x : KeptPoint) (b : Bool) (e : Option ℕ) (o : Owned) → (x.done == 0) ≡ b → e ≡ earlier_of b o → Fits place x None → Fits place x e
fits_earlier place x true e o t q h = fits_first place x e (eqb-true x.done 0 t) h
fits_earlier place x false e o t q h = subst (Fits place x) (sym q) h

-- The record that is closed.

length-variables : (n : ℕ) → length (variables_for n) ≡ n
length-variables zero = refl
length-variables (suc n) = omega (arith, length-variables n)

pub exit_of : (p : OpenPoint) → is_exit (blank_point (point_row p)) ≡ not (nat_lt p.done p.tuple.goals)
exit_of p = ap (λ n. not (nat_lt p.done n)) (length-variables p.tuple.goals)

same_goals : (kept : List Tuple) (at : TuplePlace) → IsTupleThere 0 kept at → length (tuple_there [] kept at).body ≡ length (blank_tuple at).body
same_goals kept (Spanned s) h = absurd (omega (arith, h))
same_goals kept (Named k) h =
    ap (λ (t : Tuple). length t.body) (get_or_from_slice_get kept k.number h.tuple no_tuple h.there) ∙ sym h.goals ∙ sym (length-variables k.goals)

abbrev with_exit : KeptPoint → Bool → Shape
with_exit x b = record { owner = x.owner; done = x.done; is_exit = b; before = x.before }

same_shapes : (kept : List Tuple) (xs : List KeptPoint) → All (λ (x : KeptPoint). IsTupleThere 0 kept x.tuple) xs → map shape (map (point_from [] kept) xs) ≡ map shape (map blank_point xs)
same_shapes kept [] h = refl
same_shapes kept (x ∷ xs) h =
    let P : KeptPoint → Type 0 = λ x. IsTupleThere 0 kept x.tuple in
    ap (λ n. with_exit x (not (nat_lt x.done n)) ∷ map shape (map (point_from [] kept) xs)) (same_goals kept x.tuple (All-head P x xs h))
    ∙ ap (λ ss. shape (blank_point x) ∷ ss) (same_shapes kept xs (All-tail P x xs h))

same_froms : (ps : List Point) (bs : List KeptBox) → map from_of (map (box_from [] ps) bs) ≡ map from_of (map (box_from [] []) bs)
same_froms ps [] = refl
same_froms ps (b ∷ bs) = ap (λ ns. b.from ∷ ns) (same_froms ps bs)

pub closed : (kept : List Tuple) (r : Rows) (o : List Owned) (l : List (Option ℕ)) (d : Order) → IsBeside r o l d → IsKept (told_by kept r) → AreIn kept r → IsHeld [] [] kept r.boxes r.points o l d
closed kept r o l d h sound there =
    record {
      stored = record {
        kept = sound;
        boxes = omega (arith, h.boxes, length-map r.boxes (box_from [] (told_by kept r).points));
        points = omega (arith, h.points, length-map r.points (point_from [] kept));
        index = index_same (told_by kept r) (blanked r) (same_froms (told_by kept r).points r.boxes) (same_shapes kept r.points there.tuples) o l h.index;
      };
      rows = there;
      ordered = h.ordered;
    }

-- What the rows tell.

-- what is called is the next goal of the point, in canonical form
pub goal_called : (R : Recorded) (atom : Term) (from : ℕ) → MayOpen R atom from → canonical atom ≡ atom → goal_of (point_at R from) ≡ atom
goal_called R atom from may form = ap goal_of may.there ∙ ap form_of may.next ∙ may.variant ∙ form

abbrev called_by : Term → ℕ → Bool → BoxRow
called_by atom from user = record { atom = atom; from = from; is_user = user; last = Call; complete = false }

pub told_box : (kept : List Tuple) (r : Rows) (atom : Term) (from size : ℕ) (user : Bool) → MayOpen (told_by kept r) atom from → canonical atom ≡ atom → user ≡ is_user_atom atom
    → told_by kept (with_box_row r from user size) ≡ opened (told_by kept r) atom from
told_box kept r atom from size user may form is =
    let R : Recorded = told_by kept r in
    ap (λ bs. record { boxes = bs; points = R.points }) (map-append (box_from [] R.points) r.boxes (box_row from user size ∷ []))
    ∙ ap (λ a. record { boxes = R.boxes ++ called_by a from user ∷ []; points = R.points }) (goal_called R atom from may form)
    ∙ ap (λ b. record { boxes = R.boxes ++ called_by atom from b ∷ []; points = R.points }) is

pub told_point : (kept : List Tuple) (r : Rows) (p : OpenPoint) (t : Tuple) → AreIn kept r → slice_get kept p.tuple.number ≡ Some t
    → told_by kept (with_point_row r p) ≡ with_point (told_by kept r) (made_point p t)
told_point kept r p t there at =
    let e : get_or kept p.tuple.number no_tuple ≡ t = get_or_from_slice_get kept p.tuple.number t no_tuple at in
    told_pushed [] [] kept r.boxes r.points (point_row p) (made_point p t) there (ap (made_point p) e)

pub told_noted : (kept : List Tuple) (r : Rows) (n : ℕ) (port : Port) → told_by kept (noted_row r n port) ≡ noted (told_by kept r) n port
told_noted kept r zero port = refl
told_noted kept r (suc i) port = ap (λ bs. record { boxes = bs; points = (told_by kept r).points }) (passed_rows [] (told_by kept r).points port i r.boxes)

-- where more tuples are kept

tuple_on : (kept more : List Tuple) (at : TuplePlace) → IsTupleThere 0 kept at → (tuple_there [] (kept ++ more) at ≡ tuple_there [] kept at) × IsTupleThere 0 (kept ++ more) at
tuple_on kept more (Spanned s) h = absurd (omega (arith, h))
tuple_on kept more (Named k) h = (
  get_or_append_left kept more no_tuple k.number (slice_get_within kept k.number h.tuple h.there),
  record { tuple = h.tuple; there = slice_get-front kept more k.number h.tuple h.there; goals = h.goals },
)

points_on : (kept more : List Tuple) (xs : List KeptPoint) → All (λ (x : KeptPoint). IsTupleThere 0 kept x.tuple) xs → map (point_from [] (kept ++ more)) xs ≡ map (point_from [] kept) xs
points_on kept more [] h = refl
points_on kept more (x ∷ xs) h =
    let P : KeptPoint → Type 0 = λ x. IsTupleThere 0 kept x.tuple in
    ap (λ t. record { owner = x.owner; clause = x.clause; done = x.done; tuple = t; before = x.before } ∷ map (point_from [] (kept ++ more)) xs) (tuple_on kept more x.tuple (All-head P x xs h)).0
    ∙ ap (λ ps. point_from [] kept x ∷ ps) (points_on kept more xs (All-tail P x xs h))

pub told_on : (kept more : List Tuple) (r : Rows) → AreIn kept r → told_by (kept ++ more) r ≡ told_by kept r
told_on kept more r h = ap (λ ps. record { boxes = map (box_from [] ps) r.boxes; points = ps }) (points_on kept more r.points h.tuples)

pub in_on : (kept more : List Tuple) (r : Rows) → AreIn kept r → AreIn (kept ++ more) r
in_on kept more r h =
    record {
      there = h.there;
      atoms = subst (λ (ps : List Point). All (IsAtomThere [] ps) r.boxes) (sym (points_on kept more r.points h.tuples)) h.atoms;
      tuples = All-weaker (λ (x : KeptPoint). IsTupleThere 0 kept x.tuple) (λ (x : KeptPoint). IsTupleThere 0 (kept ++ more) x.tuple) (λ x i. (tuple_on kept more x.tuple i).1) r.points h.tuples;
    }

-- where a row comes behind

pub in_box : (kept : List Tuple) (r : Rows) (atom : Term) (from size : ℕ) (user : Bool) → AreIn kept r → MayOpen (told_by kept r) atom from → canonical atom ≡ atom → IsSized size atom → AreIn kept (with_box_row r from user size)
in_box kept r atom from size user h may form sized =
    rows_box [] [] kept r.boxes r.points (box_row from user size) h (record {
      from = slice_get_within (told_by kept r).points from may.caller may.there;
      written = λ w. absurd (cc);
      sized = λ w. subst (IsSized size) (sym (goal_called (told_by kept r) atom from may form)) sized;
    })

pub in_point : (kept : List Tuple) (r : Rows) (p : OpenPoint) → AreIn kept r → IsNumbered kept p.tuple → AreIn kept (with_point_row r p)
in_point kept r p h l = rows_point [] [] kept r.boxes r.points (point_row p) h l

pub in_noted : (kept : List Tuple) (r : Rows) (n : ℕ) (port : Port) → AreIn kept r → AreIn kept (noted_row r n port)
in_noted kept r zero port h = h
in_noted kept r (suc i) port h = rows_edited [] [] kept r.boxes r.points port i h

pub in_none : (kept : List Tuple) → AreIn kept no_rows
in_none kept =
    record {
      there = All-nil (λ (p : ℕ). p < 0);
      atoms = All-nil (IsAtomThere [] []);
      tuples = All-nil (λ (x : KeptPoint). IsTupleThere 0 kept x.tuple);
    }
