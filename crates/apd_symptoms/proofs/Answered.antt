-- Exits of a box by their places.
use Rattle.std.proofs.Common.{◌≡◌, ℕ, zero, suc, ◌+◌, ◌<◌, ◌≤◌, ◌==◌, Bool, true, false, List, [], ◌∷◌, length, Some, None, arith, refl, sym, ◌∙◌, ap, subst, drop, drop-cons, get_or}
use Rattle.std.specs.Prelude.{◌&&◌, ◌↔◌, IfSome, IsTrue, if◌then◌else◌, nat_lt, not, slice_get, map}
use Rattle.std.proofs.lemmas.Bool.{eqb-true}
use Rattle.std.proofs.lemmas.List.{drop_all}
use Rattle.std.proofs.lemmas.Option.{slice_get-get_or}
use Rattle.apd_arith.specs.Truths.{is_ground}
use Rattle.apd_ports.specs.declared.point.Point.{Point}
use Rattle.apd_ports.specs.declared.point.PointId.{PointId}
use Rattle.apd_record.specs.Index.{id_of}
use Rattle.apd_record.specs.Reading.{no_point, point_of}
use Rattle.apd_record.specs.Recorded.{Recorded, exits, point_at, is_exit_of, numbers}
use Rattle.apd_record.specs.Sound.{IsKept, IsOwned}
use Rattle.apd_term.specs.Matching.{is_instance}
use Rattle.apd_term.specs.Term.{IsGround, Term, variables}
use Rattle.apd_term.specs.declared.tuple.Tuple.{Tuple}
use Rattle.apd_symptoms.proofs.Exits.{slice_get-ids}
use Rattle.apd_symptoms.specs.Unanswered.{answer_from}

-- each of the numbers that are found is at least as many places from the first as it has before it
numbers-rise : {X : Type 0} (test : X → Bool) (n : ℕ) (xs : List X) (k e : ℕ) → slice_get (numbers test n xs) k ≡ Some e → n + k ≤ e
numbers-rise test n [] k e is = absurd (cc)
numbers-rise {X} test n (x ∷ xs) k e is = by (test x) k is (λ j h. numbers-rise test (n + 1) xs j e h)
  where
    by : (b : Bool) (j : ℕ) → slice_get (if b then n ∷ numbers test (n + 1) xs else numbers test (n + 1) xs) j ≡ Some e → ((i : ℕ) → slice_get (numbers test (n + 1) xs) i ≡ Some e → n + 1 + i ≤ e) → n + j ≤ e
    by true zero h rest = let same : n ≡ e = cc in omega (arith, same)
    by true (suc j) h rest = let l = rest j h in omega (arith, l)
    by false j h rest = let l = rest j h in omega (arith, l)

-- the first point is the query's, so an exit of another box has a greater number than its place
first_owner : (R : Recorded) (p : Point) (o : ℕ) → IsOwned R 0 o → o ≡ 0
first_owner R p zero owned = refl
first_owner R p (suc o) owned = absurd (let less = owned.2 in omega (arith, less))

exits-rise : (ps : List Point) (b k e : ℕ) → ((p : Point) → slice_get ps 0 ≡ Some p → p.owner ≡ 0) → 0 < b → slice_get (numbers (is_exit_of b) 0 ps) k ≡ Some e → k < e
exits-rise [] b k e first some is = absurd (cc)
exits-rise (p ∷ ps) b k e first some is = by (p.owner == b) refl is
  where
    by : (t : Bool) → (p.owner == b) ≡ t → slice_get (if t && not (nat_lt p.done (length p.tuple.body)) then 0 ∷ numbers (is_exit_of b) 1 ps else numbers (is_exit_of b) 1 ps) k ≡ Some e → k < e
    by true test h = absurd (let same = eqb-true p.owner b test in let none = first p refl in omega (arith, same, none, some))
    by false test h = let l = numbers-rise (is_exit_of b) 1 ps k e h in omega (arith, l)

pub exit-after : (R : Recorded) (b k e : ℕ) → IsKept R → 0 < b → slice_get (exits R b) k ≡ Some e → k < e
exit-after R b k e kept some is = exits-rise R.points b k e (λ p there. first_owner R p p.owner (kept.made 0 p there).owned) some is

-- the exits by their ids
abbrev pub places : List PointId → List ℕ
places ids = map (λ (p : PointId). p.0) ids

pub places-ids : (es : List ℕ) → places (map id_of es) ≡ es
places-ids [] = refl
places-ids (e ∷ es) = ap (λ (l : List ℕ). e ∷ l) (places-ids es)

-- the exit at a place of the ids
pub exit-at : (R : Recorded) (b k : ℕ) (ids : List PointId) (d : PointId) → IsKept R → 0 < b → ids ≡ map id_of (exits R b) → k < length ids → k < (get_or ids k d).0
exit-at R b k ids d kept some is within =
    let there : slice_get (map id_of (exits R b)) k ≡ Some (get_or ids k d) = subst (λ (l : List PointId). slice_get l k ≡ Some (get_or ids k d)) is (slice_get-get_or ids k d within) in
    exit-after R b k (get_or ids k d).0 kept some (slice_get-ids (exits R b) k (get_or ids k d) there)

-- the head of a point that is there
pub head-of : (R : Recorded) (e : ℕ) (t : Tuple) → e < length R.points → IfSome (point_at R e) (λ (x : Point). t ≡ x.tuple) → t.head ≡ (point_of R e).tuple.head
head-of R e t within is =
    let there = slice_get-get_or R.points e no_point within in
    let same : t ≡ (get_or R.points e no_point).tuple = rw there at is in
    rw there (ap (λ (u : Tuple). u.head) same)

-- the first of the ids that are left, and the others
from-place : (R : Recorded) (a : Term) (n k : ℕ) (ids : List PointId) (d : PointId) → k < length ids →
    answer_from R a n (places (drop k ids)) ≡ (if is_instance a (point_of R (get_or ids k d).0).tuple.head then Some n else answer_from R a (n + 1) (places (drop (suc k) ids)))
from-place R a n k ids d within = ap (λ (l : List PointId). answer_from R a n (places l)) (drop-cons ids k d within)

pub answers-here : (R : Recorded) (a : Term) (n k : ℕ) (ids : List PointId) (d : PointId) (t : Tuple) (said : Bool) → k < length ids → (get_or ids k d).0 < length R.points → IfSome (point_at R (get_or ids k d).0) (λ (x : Point). t ≡ x.tuple) →
    said ≡ is_instance a t.head → said ≡ true → answer_from R a n (places (drop k ids)) ≡ Some n
answers-here R a n k ids d t said within there tuple test is =
    from-place R a n k ids d within ∙ (let e : is_instance a (point_of R (get_or ids k d).0).tuple.head ≡ true = ap (is_instance a) (sym (head-of R (get_or ids k d).0 t there tuple)) ∙ sym test ∙ is in rw e refl)

pub answers-later : (R : Recorded) (a : Term) (n k : ℕ) (ids : List PointId) (d : PointId) (t : Tuple) (said : Bool) → k < length ids → (get_or ids k d).0 < length R.points → IfSome (point_at R (get_or ids k d).0) (λ (x : Point). t ≡ x.tuple) →
    said ≡ is_instance a t.head → said ≡ false → answer_from R a n (places (drop k ids)) ≡ answer_from R a (n + 1) (places (drop (k + 1) ids))
answers-later R a n k ids d t said within there tuple test is =
    from-place R a n k ids d within ∙ (let e : is_instance a (point_of R (get_or ids k d).0).tuple.head ≡ false = ap (is_instance a) (sym (head-of R (get_or ids k d).0 t there tuple)) ∙ sym test ∙ is in
    let next : suc k ≡ k + 1 = omega arith in rw (e, next) refl)

-- no id is left
pub answers-none : (R : Recorded) (a : Term) (n k : ℕ) (ids : List PointId) → length ids ≤ k → answer_from R a n (places (drop k ids)) ≡ None
answers-none R a n k ids over = rw (drop_all k ids over) refl

-- a term without variables, as a test
pub length-none : (vs : List ℕ) → (length vs == 0) ≡ true → vs ≡ []
length-none [] is = refl
length-none (v ∷ vs) is = absurd (let none = eqb-true (length (v ∷ vs)) 0 is in omega (arith, none))

pub ground-test : (a : Term) (said : Bool) → (IsTrue said ↔ IsGround a) → said ≡ is_ground a
ground-test a said h = by said (is_ground a) refl refl
  where
    by : (b c : Bool) → said ≡ b → is_ground a ≡ c → said ≡ is_ground a
    by true true e f = e ∙ sym f
    by false false e f = e ∙ sym f
    by true false e f = absurd (let vs = h.0 e in let g : is_ground a ≡ true = ap (λ (l : List ℕ). length l == 0) vs in cc)
    by false true e f = absurd (let bad : false ≡ true = sym e ∙ h.1 (length-none (variables a) f) in cc)
