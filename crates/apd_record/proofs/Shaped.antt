-- What stands beside a record doesn't depend on its terms.
use Rattle.std.proofs.Common.{◌≡◌, ℕ, ◌+◌, ◌==◌, ◌&&◌, Bool, List, [], ◌∷◌, length, map, take, if◌then◌else◌, Option, Some, None, refl, ap, sym, subst, ◌∙◌, arith}
use Rattle.std.specs.Prelude.{slice_get}
use Rattle.std.specs.Option.{option_map}
use Rattle.std.proofs.lemmas.List.{length-map, take-map}
use Rattle.std.proofs.lemmas.Option.{slice_get-map}
use Rattle.apd_ports.specs.declared.point.Point.{Point}
use Rattle.apd_ports.specs.declared.point.Step.{Step}
use Rattle.apd_boxes.specs.Owned.{Owned}
use Rattle.apd_record.specs.Recorded.{Recorded, BoxRow, exits, numbers}
use Rattle.apd_record.specs.Index.{id_of, is_exit, is_first_in, last_place, one_on, IsBelow, IsIndex, IsWithin}

-- what is looked at of a point
pub record Shape : Type 0 where
  pub owner : ℕ
  pub done : ℕ
  pub is_exit : Bool
  pub before : Option Step

abbrev pub shape : Point → Shape
shape x = record { owner = x.owner; done = x.done; is_exit = is_exit x; before = x.before }

abbrev pub from_of : BoxRow → ℕ
from_of b = b.from

numbers-map : {X Y : Type 0} (g : X → Y) (f : Y → Bool) (n : ℕ) (xs : List X) → numbers f n (map g xs) ≡ numbers (λ x. f (g x)) n xs
numbers-map g f n [] = refl
numbers-map g f n (x ∷ xs) = ap (λ r. if f (g x) then n ∷ r else r) (numbers-map g f (n + 1) xs)

last_place-map : {X Y : Type 0} (g : X → Y) (f : Y → Bool) (xs : List X) → last_place f (map g xs) ≡ last_place (λ x. f (g x)) xs
last_place-map g f [] = refl
last_place-map g f (x ∷ xs) = ap (λ o. one_on o (f (g x))) (last_place-map g f xs)

-- an element that stands in for another
pub mapped : {X Y : Type 0} (g : X → Y) (o : Option X) (y : Y) → option_map g o ≡ Some y → (x : X) × (o ≡ Some x) × (g x ≡ y)
mapped g None y e = cc
mapped g (Some x) y e = let is : g x ≡ y = cc in (x, refl, is)

other : {X Y : Type 0} (g : X → Y) (xs ys : List X) (i : ℕ) (x : X) → map g xs ≡ map g ys → slice_get xs i ≡ Some x → (y : X) × (slice_get ys i ≡ Some y) × (g y ≡ g x)
other g xs ys i x e at =
    mapped g (slice_get ys i) (g x) (sym (slice_get-map g ys i) ∙ ap (λ zs. slice_get zs i) (sym e) ∙ slice_get-map g xs i ∙ ap (option_map g) at)

same_length : {X Y : Type 0} (g : X → Y) (xs ys : List X) → map g xs ≡ map g ys → length xs ≡ length ys
same_length g xs ys e = sym (length-map xs g) ∙ ap length e ∙ length-map ys g

abbrev exits_in : ℕ → Shape → Bool
exits_in b s = (s.owner == b) && s.is_exit

abbrev first_in : ℕ → Shape → Bool
first_in b s = (s.owner == b) && (s.done == 0)

module _ (R S : Recorded) (boxes : map from_of R.boxes ≡ map from_of S.boxes) (points : map shape R.points ≡ map shape S.points) where
  same_exits : (b : ℕ) → exits R b ≡ exits S b
  same_exits b = sym (numbers-map shape (exits_in b) 0 R.points) ∙ ap (numbers (exits_in b) 0) points ∙ numbers-map shape (exits_in b) 0 S.points

  same_first : (b : ℕ) → last_place (is_first_in b) R.points ≡ last_place (is_first_in b) S.points
  same_first b = sym (last_place-map shape (first_in b) R.points) ∙ ap (last_place (first_in b)) points ∙ last_place-map shape (first_in b) S.points

  same_earlier : (b p : ℕ) → last_place (is_first_in b) (take p R.points) ≡ last_place (is_first_in b) (take p S.points)
  same_earlier b p =
      sym (last_place-map shape (first_in b) (take p R.points))
      ∙ ap (last_place (first_in b)) (sym (take-map shape p R.points) ∙ ap (take p) points ∙ take-map shape p S.points)
      ∙ last_place-map shape (first_in b) (take p S.points)

  pub index_same : (o : List Owned) (l : List (Option ℕ)) → IsIndex S o l → IsIndex R o l
  index_same o l h =
      record {
        boxes = h.boxes ∙ ap (λ n. n + 1) (sym (same_length from_of R.boxes S.boxes boxes));
        points = h.points ∙ sym (same_length shape R.points S.points points);
        exits = λ b w at. h.exits b w at ∙ ap (map id_of) (sym (same_exits b));
        first = λ b w at. h.first b w at ∙ sym (same_first b);
        earlier = λ p w x at there d.
            let y = other shape R.points S.points p x points there in
            h.earlier p w y.0 at y.1 (ap (λ (s : Shape). s.done) y.2 ∙ d)
            ∙ ap (λ (s : Shape). last_place (is_first_in s.owner) (take p S.points)) y.2
            ∙ sym (same_earlier x.owner p);
      }

  pub within_same : IsWithin S → IsWithin R
  within_same h =
      let n : length R.boxes ≡ length S.boxes = same_length from_of R.boxes S.boxes boxes in
      let m : length R.points ≡ length S.points = same_length shape R.points S.points points in
      record {
        owner = λ p x at.
            let y = other shape R.points S.points p x points at in
            let e : y.0.owner ≡ x.owner = ap (λ (s : Shape). s.owner) y.2 in
            omega (arith, h.owner p y.0 y.1, e, n);
        later = λ p x at.
            let y = other shape R.points S.points p x points at in
            subst (IsBelow p) (ap (λ (s : Shape). s.before) y.2) (h.later p y.0 y.1);
        from = λ i r at.
            let y = other from_of R.boxes S.boxes i r boxes at in
            omega (arith, h.from i y.0 y.1, y.2, m);
      }
