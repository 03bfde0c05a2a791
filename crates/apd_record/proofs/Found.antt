-- The first of a list that meets a test, where those before it don't.
use Rattle.std.proofs.Common.{◌≡◌, ℕ, zero, suc, ◌+◌, ◌<◌, ◌≤◌, List, [], ◌∷◌, ◌++◌, length, get_or, refl, ap, subst, sym, ◌∙◌, arith, Option, Some, None, Bool, true, false, map, if◌then◌else◌, inl, inr}
use Rattle.std.specs.Prelude.{slice_get, ◌==◌, IfSome}
use Rattle.std.specs.Bool.{IsTrue, OnTrue}
use Rattle.std.proofs.lemmas.Bool.{cases_eq, eqb-true, ne_eqb, and_parts, false_from_ne_true, OnTrue_at, OnTrue_from}
use Rattle.std.proofs.lemmas.Option.{slice_get-get_or, slice_get_within, MatchOption-at_some}
use Rattle.apd_base.proofs.Lists.{slice_get-push}
use Rattle.apd_ports.specs.declared.event.Port.{Port}
use Rattle.apd_ports.specs.declared.point.Step.{Step}
use Rattle.apd_boxes.specs.declared.boxes.KeptBox.{KeptBox}
use Rattle.apd_points.specs.declared.kept.KeptPoint.{KeptPoint}
use Rattle.apd_record.specs.declared.order.Order.{Order}
use Rattle.apd_boxes.specs.Owned.{edited}
use Rattle.apd_boxes.specs.Boxes.{called_box, kept_passed}
use Rattle.apd_record.specs.Ordered.{AreFromBelow, AreInTurn, AreRising, IsNext, IsOrdered}
use Rattle.apd_record.specs.Recorded.{first_number, is_step}
use Rattle.apd_record.proofs.Lists.{get-one}
use Rattle.apd_boxes.proofs.Places.{slice_get-edited}

module _ {X : Type 0} (test : X → Bool) where
  pub first_at : (n : ℕ) (xs : List X) (i : ℕ) (x : X) → slice_get xs i ≡ Some x → test x ≡ true → ((k : ℕ) (y : X) → slice_get xs k ≡ Some y → k < i → test y ≡ false) → first_number test n xs ≡ Some (n + i)
  first_at n [] i x at t before = cc
  first_at n (y ∷ xs) zero x at t before = let same : y ≡ x = cc in let e : n ≡ n + 0 = omega arith in rw (same, t) (ap Some e)
  first_at n (y ∷ xs) (suc i) x at t before =
      let e : n + 1 + i ≡ n + suc i = omega arith in
      rw (before 0 y refl (omega arith)) (first_at (n + 1) xs i x at t (λ k z h l. before (suc k) z h (omega (arith, l))) ∙ ap Some e)

  pub first_none : (n : ℕ) (xs : List X) → ((k : ℕ) (y : X) → slice_get xs k ≡ Some y → test y ≡ false) → first_number test n xs ≡ None
  first_none n [] none = refl
  first_none n (y ∷ xs) none = rw (none 0 y refl) (first_none (n + 1) xs (λ k. none (suc k)))

pub first-map : {X Y : Type 0} (g : X → Y) (test : Y → Bool) (n : ℕ) (xs : List X) → first_number test n (map g xs) ≡ first_number (λ x. test (g x)) n xs
first-map g test n [] = refl
first-map g test n (x ∷ xs) = ap (λ o. if test (g x) then Some n else o) (first-map g test (n + 1) xs)

-- a point that followed an exit, where points are in turn, stands right behind it
pub step-next : (p i e : ℕ) (before : Option Step) → IsNext p before → is_step before i e ≡ true → p ≡ e + 1
step-next p i e None h t = cc
step-next p i e (Some s) h t = let same : s.exit.0 ≡ e = eqb-true s.exit.0 e (and_parts (s.point.0 == i) (s.exit.0 == e) t).1 in omega (arith, h, same)

pub not-step : (points : List KeptPoint) → AreInTurn points → (k i e : ℕ) (x : KeptPoint) → slice_get points k ≡ Some x → (k ≡ e + 1 → ⊥) → is_step x.before i e ≡ false
not-step points turn k i e x at other = false_from_ne_true (is_step x.before i e) (λ t. other (step-next k i e x.before (turn k x at) t))

-- the order stays where one more comes
pub in_turn-push : (points : List KeptPoint) (x : KeptPoint) → AreInTurn points → IsNext (length points) x.before → AreInTurn (points ++ x ∷ [])
in_turn-push points x h next p y at =
    elim (slice_get-push points x p y at) [ inl e ↦ h p y e | inr e ↦ rw (e.0, sym e.1) next ]

pub rising-push : (boxes : List KeptBox) (row : KeptBox) → AreRising boxes → AreFromBelow row.from boxes → AreRising (boxes ++ row ∷ [])
rising-push boxes row h below i j b c at there l =
    elim (slice_get-push boxes row j c there) [
      | inl old ↦ elim (slice_get-push boxes row i b at) [ inl q ↦ h i j b c q old l | inr q ↦ absurd (omega (arith, q.0, l, slice_get_within boxes j c old)) ]
      | inr new ↦ elim (slice_get-push boxes row i b at) [ inl q ↦ rw (sym new.1) (below i b q) | inr q ↦ absurd (omega (arith, q.0, new.0, l)) ]
    ]

pub above-push : (boxes : List KeptBox) (row : KeptBox) (n m : ℕ) → AreFromBelow n boxes → n ≤ row.from → m ≡ row.from + 1 → AreFromBelow m (boxes ++ row ∷ [])
above-push boxes row n m h le e i b at =
    elim (slice_get-push boxes row i b at) [ inl q ↦ omega (arith, h i b q, le, e) | inr q ↦ rw (sym q.1) (omega (arith, e)) ]

module _ (boxes : List KeptBox) (port : Port) (place : ℕ) where
  from-passed : (k : ℕ) (z : KeptBox) → slice_get (edited (kept_passed port) boxes place) k ≡ Some z → (y : KeptBox) × (slice_get boxes k ≡ Some y) × (y.from ≡ z.from)
  from-passed k z h = elim (slice_get-edited (kept_passed port) boxes place k z h) [ inl e ↦ (e.1.0, e.1.1, ap (λ (w : KeptBox). w.from) e.1.2) | inr e ↦ (z, e.1, refl) ]

  pub rising-passed : AreRising boxes → AreRising (edited (kept_passed port) boxes place)
  rising-passed h i j b c at there l =
      let x = from-passed i b at in
      let y = from-passed j c there in
      omega (arith, h i j x.0 y.0 x.1 y.1 l, x.2, y.2)

  pub above-passed : (n : ℕ) → AreFromBelow n boxes → AreFromBelow n (edited (kept_passed port) boxes place)
  above-passed n h i b at = let x = from-passed i b at in omega (arith, h i x.0 x.1, x.2)

pub ordered-box : (d e : Order) (boxes : List KeptBox) (points : List KeptPoint) (row : KeptBox) → IsOrdered d boxes points → e.in_turn ≡ d.in_turn → OnTrue e.rising (IsTrue d.rising) → OnTrue e.rising (d.above ≤ row.from) → e.above ≡ row.from + 1
    → IsOrdered e (boxes ++ row ∷ []) points
ordered-box d e boxes points row h same was later above =
    record {
      in_turn = subst (λ b. OnTrue b (AreInTurn points)) (sym same) h.in_turn;
      rising = OnTrue_from e.rising _ (λ t. rising-push boxes row (OnTrue_at (OnTrue_at t was) h.rising) (λ i b at. let l = OnTrue_at t later in omega (arith, OnTrue_at (OnTrue_at t was) h.above i b at, l)));
      above = OnTrue_from e.rising _ (λ t. above-push boxes row d.above e.above (OnTrue_at (OnTrue_at t was) h.above) (OnTrue_at t later) above);
    }

pub ordered-point : (d : Order) (boxes : List KeptBox) (points : List KeptPoint) (x : KeptPoint) (in_turn : Bool) (n : ℕ) → IsOrdered d boxes points → n ≡ length points → OnTrue in_turn (IsTrue d.in_turn) → OnTrue in_turn (IsNext n x.before)
    → IsOrdered (record { in_turn = in_turn; rising = d.rising; above = d.above }) boxes (points ++ x ∷ [])
ordered-point d boxes points x in_turn n h e was next =
    record { in_turn = OnTrue_from in_turn _ (λ t. in_turn-push points x (OnTrue_at (OnTrue_at t was) h.in_turn) (subst (λ k. IsNext k x.before) e (OnTrue_at t next))); rising = h.rising; above = h.above }

pub ordered-next : (d : Order) (boxes : List KeptBox) (points : List KeptPoint) (x : KeptPoint) → IsOrdered d boxes points → IsNext (length points) x.before → IsOrdered d boxes (points ++ x ∷ [])
ordered-next d boxes points x h next =
    record { in_turn = OnTrue_from d.in_turn _ (λ t. in_turn-push points x (OnTrue_at t h.in_turn) next); rising = h.rising; above = h.above }

pub ordered-passed : (d : Order) (boxes : List KeptBox) (points : List KeptPoint) (port : Port) (place : ℕ) → IsOrdered d boxes points → IsOrdered d (edited (kept_passed port) boxes place) points
ordered-passed d boxes points port place h =
    record {
      in_turn = h.in_turn;
      rising = OnTrue_from d.rising _ (λ t. rising-passed boxes port place (OnTrue_at t h.rising));
      above = OnTrue_from d.rising _ (λ t. above-passed boxes port place d.above (OnTrue_at t h.above));
    }

-- Looking.

pub from-read : (boxes : List KeptBox) (i n : ℕ) → i < length boxes → IfSome (slice_get boxes i) (λ (b : KeptBox). n ≡ b.from) → (b : KeptBox) × (slice_get boxes i ≡ Some b) × (n ≡ b.from)
from-read boxes i n l h =
    let none : KeptBox = called_box 0 0 false false in
    let at = slice_get-get_or boxes i none l in
    (get_or boxes i none, at, MatchOption-at_some _ _ (get_or boxes i none) at h)

pub not-upto : {X : Type 0} (test : X → Bool) (xs : List X) (n : ℕ) (x : X) → slice_get xs n ≡ Some x → test x ≡ false → ((i : ℕ) (y : X) → slice_get xs i ≡ Some y → i < n → test y ≡ false)
    → (i : ℕ) (y : X) → slice_get xs i ≡ Some y → i < n + 1 → test y ≡ false
not-upto test xs n x at t before i y h l =
    elim (cases_eq i n) [
      | inl e ↦ let same : y ≡ x = get-one (slice_get xs n) y x (subst (λ k. slice_get xs k ≡ Some y) e h) at in ap test same ∙ t
      | inr other ↦ before i y h (grind (arith, l, other))
    ]

pub not-anywhere : (points : List KeptPoint) → AreInTurn points → (i e : ℕ) (x : KeptPoint) → slice_get points (e + 1) ≡ Some x → is_step x.before i e ≡ false → (k : ℕ) (y : KeptPoint) → slice_get points k ≡ Some y → is_step y.before i e ≡ false
not-anywhere points turn i e x at t k y h =
    elim (cases_eq k (e + 1)) [
      | inl same ↦ let one : y ≡ x = get-one (slice_get points (e + 1)) y x (subst (λ j. slice_get points j ≡ Some y) same h) at in ap (λ (z : KeptPoint). is_step z.before i e) one ∙ t
      | inr other ↦ not-step points turn k i e y h other
    ]

module _ (boxes : List KeptBox) (rising : AreRising boxes) (m : ℕ) (row : KeptBox) (at : slice_get boxes m ≡ Some row) (from : ℕ) where
  pub below-half : row.from < from → (i : ℕ) (b : KeptBox) → slice_get boxes i ≡ Some b → i < m + 1 → b.from < from
  below-half l i b h le =
      elim (cases_eq i m) [
        | inl e ↦ let same : b ≡ row = get-one (slice_get boxes m) b row (subst (λ k. slice_get boxes k ≡ Some b) e h) at in rw same l
        | inr other ↦ omega (arith, l, rising i m b row h at (grind (arith, le, other)))
      ]

  pub above-half : from < row.from → (i : ℕ) (b : KeptBox) → slice_get boxes i ≡ Some b → m ≤ i → from < b.from
  above-half l i b h le =
      elim (cases_eq i m) [
        | inl e ↦ let same : b ≡ row = get-one (slice_get boxes m) b row (subst (λ k. slice_get boxes k ≡ Some b) e h) at in rw same l
        | inr other ↦ omega (arith, l, rising m i row b at h (grind (arith, le, other)))
      ]

  pub not-before : row.from ≡ from → (i : ℕ) (b : KeptBox) → slice_get boxes i ≡ Some b → i < m → (b.from == from) ≡ false
  not-before e i b h l = ne_eqb b.from from (λ q. omega (arith, q, e, rising i m b row h at l))
