-- Points in few bytes, as rows come behind.
use Rattle.std.proofs.Common.{◌≡◌, ℕ, zero, suc, ◌+◌, ◌<◌, ◌≤◌, List, [], ◌∷◌, ◌++◌, length, map, get_or, if◌then◌else◌, Bool, true, false, Option, Some, None, refl, ap, sym, subst, ◌∙◌, arith, length-append}
use Rattle.std.specs.Prelude.{slice_get, All, IfSome, ◌-◌, ◌%◌, ◌^◌}
use Rattle.std.proofs.lemmas.List.{get_or_append_left, length-map, map-append}
use Rattle.std.proofs.lemmas.List.Elements.{All-get_or, All-head, All-tail, All-weaker, All-push}
use Rattle.std.specs.Option.{option_map}
use Rattle.std.proofs.lemmas.Option.{get_or_from_slice_get, slice_get-map, slice_get_read}
use Rattle.apd_points.specs.declared.packed.PackedPoint.{PackedPoint}
use Rattle.apd_points.specs.declared.packed.WholePoint.{WholePoint}
use Rattle.apd_ports.specs.declared.point.Step.{Step}
use Rattle.apd_points.specs.declared.kept.KeptPoint.{KeptPoint}
use Rattle.apd_points.specs.Packed.{before_in, behind, earlier_in, earlier_of_row, goals_in, is_other, links_of, number_behind, number_of, own, point_in, points_of, row_of, step_in, told_as, unpacked, unpacked_from, whole_in, Fits, HasRoom, IsPacked, IsPlace, IsPlaced, IsThere, Listed}

pub unpacked_length : (others : List WholePoint) (place : ℕ) (rs : List PackedPoint) → length (unpacked_from others place rs) ≡ length rs
unpacked_length others place [] = refl
unpacked_length others place (r ∷ rs) = ap suc (unpacked_length others (place + 1) rs)

unpacked_at : (others : List WholePoint) (place i : ℕ) (rs : List PackedPoint) (r : PackedPoint) → slice_get rs i ≡ Some r → slice_get (unpacked_from others place rs) i ≡ Some (unpacked others (place + i) r)
unpacked_at others place i [] r h = cc
unpacked_at others place zero (x ∷ rs) r h =
    let same : x ≡ r = cc in
    let e : place ≡ place + 0 = omega arith in
    ap (λ (y : PackedPoint). Some (unpacked others place y)) same ∙ ap (λ n. Some (unpacked others n r)) e
unpacked_at others place (suc i) (x ∷ rs) r h =
    let e : place + 1 + i ≡ place + suc i = omega arith in
    unpacked_at others (place + 1) i rs r h ∙ ap (λ n. Some (unpacked others n r)) e

unpacked_push : (others : List WholePoint) (place : ℕ) (rs : List PackedPoint) (r : PackedPoint) → unpacked_from others place (rs ++ r ∷ []) ≡ unpacked_from others place rs ++ unpacked others (place + length rs) r ∷ []
unpacked_push others place [] r = let e : place ≡ place + 0 = omega arith in ap (λ n. unpacked others n r ∷ []) e
unpacked_push others place (x ∷ rs) r =
    let e : place + 1 + length rs ≡ place + suc (length rs) = omega arith in
    ap (λ xs. unpacked others place x ∷ xs) (unpacked_push others (place + 1) rs r ∙ ap (λ n. unpacked_from others (place + 1) rs ++ unpacked others n r ∷ []) e)

either_same : (b : Bool) (x y z : WholePoint) → (b ≡ true → x ≡ y) → (if b then x else z) ≡ (if b then y else z)
either_same true x y z h = h refl
either_same false x y z h = refl

-- where another is kept whole behind the others
whole_more : (others more : List WholePoint) (number : Option ℕ) (w : WholePoint) → IsPlace (length others) number → whole_in (others ++ more) number w ≡ whole_in others number w
whole_more others more None w h = refl
whole_more others more (Some i) w h = get_or_append_left others more w i h

one_more : (others more : List WholePoint) (place : ℕ) (r : PackedPoint) → IsThere (length others) r → unpacked (others ++ more) place r ≡ unpacked others place r
one_more others more place r h =
    either_same (is_other r) (whole_in (others ++ more) r.number (own place r)) (whole_in others r.number (own place r)) (own place r)
    (λ t. whole_more others more r.number (own place r) (h t))

unpacked_more : (others more : List WholePoint) (place : ℕ) (rs : List PackedPoint) → All (IsThere (length others)) rs → unpacked_from (others ++ more) place rs ≡ unpacked_from others place rs
unpacked_more others more place [] h = refl
unpacked_more others more place (r ∷ rs) h =
    ap (λ x. x ∷ unpacked_from (others ++ more) (place + 1) rs) (one_more others more place r (All-head (IsThere (length others)) r rs h))
    ∙ ap (λ xs. unpacked others place r ∷ xs) (unpacked_more others more (place + 1) rs (All-tail (IsThere (length others)) r rs h))

-- What is read.

module _ (rows : List PackedPoint) (others : List WholePoint) (place : ℕ) (r : PackedPoint) (l : place < length rows) (e : r ≡ get_or rows place r) where
  told_at : slice_get (unpacked_from others 0 rows) place ≡ Some (unpacked others place r)
  told_at =
      let zero_on : 0 + place ≡ place = omega arith in
      unpacked_at others 0 place rows r (slice_get_read rows (length rows) place r refl l e) ∙ ap (λ n. Some (unpacked others n r)) zero_on

  own_at : is_other r ≡ false → slice_get (unpacked_from others 0 rows) place ≡ Some (own place r)
  own_at t = told_at ∙ ap (λ b. Some (if b then whole_in others r.number (own place r) else own place r)) t

  pub first_read : is_other r ≡ false → r.done ≡ 0 → slice_get (unpacked_from others 0 rows) place ≡ Some (told_as place r None r.number)
  first_read t e = own_at t ∙ ap (λ d. Some (told_as place r (before_in place r.number d) (earlier_in r.number d))) e

  pub next_read : is_other r ≡ false → (r.done ≡ 0 → ⊥) → slice_get (unpacked_from others 0 rows) place ≡ Some (told_as place r (step_in place r.number) None)
  next_read t some = own_at t ∙ ap Some (by r.done some)
    where
      by : (d : ℕ) → (d ≡ 0 → ⊥) → told_as place r (before_in place r.number d) (earlier_in r.number d) ≡ told_as place r (step_in place r.number) None
      by zero h = let no : ⊥ = h refl in elim no [ ]
      by (suc d) h = refl

  pub row_there : IsPacked rows others → IsThere (length others) r
  row_there h = subst (IsThere (length others)) (sym e) (All-get_or (IsThere (length others)) rows place r l h.there)

  pub other_read : is_other r ≡ true → (w : WholePoint) → w ≡ whole_in others r.number (own place r) → slice_get (unpacked_from others 0 rows) place ≡ Some w
  other_read t w is =
      told_at
      ∙ ap (λ b. Some (if b then whole_in others r.number (own place r) else own place r)) t
      ∙ ap Some (sym is)

-- What is put.

place_on : (n m : ℕ) (number : Option ℕ) → n ≤ m → IsPlace n number → IsPlace m number
place_on n m None le h = h
place_on n m (Some i) le h = omega (arith, le, h)

module _ (rows : List PackedPoint) (others : List WholePoint) (was : IsPacked rows others) where
  pub put_own : (r : PackedPoint) (w : WholePoint) → is_other r ≡ false → own (length rows) r ≡ w → unpacked_from others 0 (rows ++ r ∷ []) ≡ unpacked_from others 0 rows ++ w ∷ []
  put_own r w t e =
      let zero_on : 0 + length rows ≡ length rows = omega arith in
      unpacked_push others 0 rows r ∙ ap (λ n. unpacked_from others 0 rows ++ unpacked others n r ∷ []) zero_on
      ∙ ap (λ x. unpacked_from others 0 rows ++ x ∷ []) (ap (λ b. if b then whole_in others r.number (own (length rows) r) else own (length rows) r) t ∙ e)

  pub own_packed : (r : PackedPoint) → is_other r ≡ false → IsPacked (rows ++ r ∷ []) others
  own_packed r h =
      record {
        few = omega (arith, was.few, length-append rows (r ∷ []));
        there = All-push (IsThere (length others)) rows r was.there (λ t. absurd (cc));
      }

  get_end : (xs : List WholePoint) (w d : WholePoint) → get_or (xs ++ w ∷ []) (length xs) d ≡ w
  get_end [] w d = refl
  get_end (x ∷ xs) w d = get_end xs w d

  pub put_other : (r : PackedPoint) (w : WholePoint) → is_other r ≡ true → r.number ≡ Some (length others) → unpacked_from (others ++ w ∷ []) 0 (rows ++ r ∷ []) ≡ unpacked_from others 0 rows ++ w ∷ []
  put_other r w t n =
      unpacked_push (others ++ w ∷ []) 0 rows r
      ∙ ap (λ x. unpacked_from (others ++ w ∷ []) 0 rows ++ x ∷ [])
      (ap (λ b. if b then whole_in (others ++ w ∷ []) r.number (own (0 + length rows) r) else own (0 + length rows) r) t
      ∙ ap (λ k. whole_in (others ++ w ∷ []) k (own (0 + length rows) r)) n
      ∙ get_end others w (own (0 + length rows) r))
      ∙ ap (λ xs. xs ++ w ∷ []) (unpacked_more others (w ∷ []) 0 rows was.there)

  pub other_packed : (r : PackedPoint) (w : WholePoint) → r.number ≡ Some (length others) → IsPacked (rows ++ r ∷ []) (others ++ w ∷ [])
  other_packed r w n =
      let longer : length (others ++ w ∷ []) ≡ length others + 1 = length-append others (w ∷ []) in
      let last : length others < length (others ++ w ∷ []) = omega (arith, longer) in
      record {
        few = omega (arith, was.few, length-append rows (r ∷ []), longer);
        there = All-push (IsThere (length (others ++ w ∷ []))) rows r
            (All-weaker (IsThere (length others)) (IsThere (length (others ++ w ∷ []))) (λ x h t. place_on (length others) (length (others ++ w ∷ [])) x.number (omega (arith, longer)) (h t)) rows was.there)
            (λ t. subst (IsPlace (length (others ++ w ∷ []))) (sym n) last);
      }

-- a point without solved goals fits whatever such point is before it
pub fits_first : (place : ℕ) (x : KeptPoint) (e : Option ℕ) → x.done ≡ 0 → Fits place x None → Fits place x e
fits_first place x e z h =
    let made : Option Step → KeptPoint = λ b. (told_as place (row_of x None) b None).point in
    let was : made (before_in place (number_of x.before None) x.done) ≡ x = ap point_in h.told in
    let before : x.before ≡ None = sym (ap (λ (y : KeptPoint). y.before) was) ∙ ap (before_in place (number_of x.before None)) z in
    let none : before_in place (number_of x.before None) x.done ≡ None = ap (before_in place (number_of x.before None)) z in
    let none_now : before_in place (number_of x.before e) x.done ≡ None = ap (before_in place (number_of x.before e)) z in
    let first : earlier_in (number_of x.before e) x.done ≡ e = ap (earlier_in (number_of x.before e)) z ∙ ap (λ b. number_of b e) before in
    let same : made None ≡ x = ap made (sym none) ∙ was in
    record {
      told = ap (λ b. told_as place (row_of x e) b (earlier_in (number_of x.before e) x.done)) none_now
          ∙ ap (λ l. told_as place (row_of x e) None l) first
          ∙ ap (λ (y : KeptPoint). record { point = y; earlier = e }) same;
      part = h.part;
      goals = h.goals;
      number = h.number;
    }

-- As those see it that keep points.

pub points_length : (l : Listed) → length (points_of l) ≡ length l.rows
points_length l = length-map l.rows point_in

pub points_pushed : (was now : Listed) (w : WholePoint) → now.rows ≡ was.rows ++ w ∷ [] → points_of now ≡ points_of was ++ w.point ∷ []
points_pushed was now w e = ap (map point_in) e ∙ map-append point_in was.rows (w ∷ [])

pub links_pushed : (was now : Listed) (w : WholePoint) → now.rows ≡ was.rows ++ w ∷ [] → links_of now ≡ links_of was ++ w.earlier ∷ []
links_pushed was now w e = ap (map earlier_of_row) e ∙ map-append earlier_of_row was.rows (w ∷ [])

pub point_at : (ws : List WholePoint) (i : ℕ) (w : WholePoint) → slice_get ws i ≡ Some w → slice_get (map point_in ws) i ≡ Some w.point
point_at ws i w e = slice_get-map point_in ws i ∙ ap (option_map point_in) e

pub link_at : (ws : List WholePoint) (i : ℕ) (w : WholePoint) → slice_get ws i ≡ Some w → slice_get (map earlier_of_row ws) i ≡ Some w.earlier
link_at ws i w e = slice_get-map earlier_of_row ws i ∙ ap (option_map earlier_of_row) e

-- an element as an index reads it
pub read_as : {X : Type 0} (xs : List X) (i : ℕ) (x : X) → slice_get xs i ≡ Some x → x ≡ get_or xs i x
read_as xs i x e = sym (get_or_from_slice_get xs i x x e)

-- As a point is kept before it is put.

number_put : (b : Option Step) (e : Option ℕ) → number_behind (number_of b None) e ≡ number_of b e
number_put None e = refl
number_put (Some s) e = refl

-- a row that is put behind another point of its box
pub row_behind : (place : ℕ) (r : PackedPoint) (e : Option ℕ) → IsPlaced place r → behind r e ≡ row_of (own place r).point e
row_behind place r e placed =
    let x : KeptPoint = (own place r).point in
    ap (λ (y : PackedPoint). behind y e) (sym placed.is)
    ∙ ap (λ k. record { owner = x.owner; number = k; clause = x.clause % 65536; done = x.done; goals = goals_in x.tuple }) (number_put x.before e)

room_of : (b : Option Step) → HasRoom b → IfSome (number_of b None) (λ n. n < 2 ^ 32 - 1)
room_of None h = h
room_of (Some s) h = h

-- it has room for its number
pub number_fits : (place : ℕ) (r : PackedPoint) → IsPlaced place r → IfSome r.number (λ n. n < 2 ^ 32 - 1)
number_fits place r placed =
    subst (λ (y : PackedPoint). IfSome y.number (λ n. n < 2 ^ 32 - 1)) placed.is (room_of (own place r).point.before placed.fits.number)
