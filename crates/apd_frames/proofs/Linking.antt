-- Links by their numbers, and the frames that they make.
use Rattle.std.proofs.Common.{◌≡◌, ◌≢◌, inl, inr, ℕ, zero, suc, ◌+◌, ◌-◌, ◌<◌, ◌≤◌, List, [], ◌∷◌, ◌++◌, length, take, drop, map, refl, sym, ◌∙◌, ap, subst, arith, Bool, true, false, Some, None}
use Rattle.std.specs.Prelude.{if◌then◌else◌, ◌==◌, slice_get, reverse}
use Rattle.std.specs.Bool.{Decides}
use Rattle.std.specs.List.{flat_map}
use Rattle.std.proofs.lemmas.Bool.{cases_eq}
use Rattle.std.proofs.lemmas.Bool.Decides.{Decides-eqb}
use Rattle.std.proofs.lemmas.List.{reverse-append, length-reverse, length-append, length-drop, take-append-drop, drop_at}
use Rattle.apd_term.specs.Term.{Term, apply, variables, IsAmong}
use Rattle.apd_term.specs.Tuple.{apply_tuple, variables_of_tuple}
use Rattle.apd_term.specs.declared.tuple.Tuple.{Tuple}
use Rattle.apd_term.proofs.Among.{IsAmong-append}
use Rattle.apd_unify.specs.Cells.{AreCells}
use Rattle.apd_unify.specs.declared.store.Cell.{Cell}
use Rattle.apd_cells.specs.Stored.{Stored}
use Rattle.apd_cells.specs.Store.{term_at}
use Rattle.apd_cells.specs.Numbered.{IsNumbered}
use Rattle.apd_trace.specs.Frames.{apply_frame, apply_frames, variables_of_frames}
use Rattle.apd_trace.specs.Renaming.{IsBelow}
use Rattle.apd_trace.specs.declared.frame.Frame.{Frame}
use Rattle.apd_frames.specs.Links.{Instance, Link}
use Rattle.apd_frames.specs.Instances.{terms_in, tuple_in, IsInside}
use Rattle.apd_frames.specs.Linked.{numbered, frame_in, frames_at, ArePlaced}

pub same_number : {X : Type 0} (k m : ℕ) (x y : X) → k ≡ m → (if k == m then x else y) ≡ x
same_number k m x y e = by (k == m) (Decides-eqb k m)
  where
    by : (b : Bool) → Decides b (k ≡ m) → (if b then x else y) ≡ x
    by true d = refl
    by false d = let bad : false ≡ true = d.1 e in cc

pub other_number : {X : Type 0} (k m : ℕ) (x y : X) → k ≢ m → (if k == m then x else y) ≡ y
other_number k m x y n = by (k == m) (Decides-eqb k m)
  where
    by : (b : Bool) → Decides b (k ≡ m) → (if b then x else y) ≡ y
    by true d = absurd (n (d.0 refl))
    by false d = refl

pub numbered-zero : (links : List Link) → numbered links 0 ≡ None
numbered-zero [] = refl
numbered-zero (l ∷ older) = other_number 0 (length older + 1) (Some l) (numbered older 0) (λ q. omega arith) ∙ numbered-zero older

-- the oldest link has the number 1
numbered-last : (ys : List Link) (x : Link) → numbered (ys ++ x ∷ []) 1 ≡ Some x
numbered-last [] x = refl
numbered-last (y ∷ ys) x =
    other_number 1 (length (ys ++ x ∷ []) + 1) (Some y) (numbered (ys ++ x ∷ []) 1) (λ q. omega (arith, length-append ys (x ∷ []))) ∙ numbered-last ys x

numbered-more : (ys : List Link) (x : Link) (i : ℕ) → numbered (ys ++ x ∷ []) (suc (suc i)) ≡ numbered ys (suc i)
numbered-more [] x i = other_number (suc (suc i)) 1 (Some x) None (λ q. omega arith)
numbered-more (y ∷ ys) x i =
    let n : length (ys ++ x ∷ []) ≡ length ys + 1 = length-append ys (x ∷ []) in
    let older = numbered (ys ++ x ∷ []) (suc (suc i)) in
    elim (cases_eq (suc i) (length ys + 1)) [
      | inl e ↦
          same_number (suc (suc i)) (length (ys ++ x ∷ []) + 1) (Some y) older (omega (arith, n))
          ∙ sym (same_number (suc i) (length ys + 1) (Some y) (numbered ys (suc i)) e)
      | inr d ↦
          other_number (suc (suc i)) (length (ys ++ x ∷ []) + 1) (Some y) older (λ q. d (omega (arith, n)))
          ∙ numbered-more ys x i
          ∙ sym (other_number (suc i) (length ys + 1) (Some y) (numbered ys (suc i)) d)
    ]

pub numbered-reverse : (xs : List Link) (i : ℕ) → numbered (reverse xs) (suc i) ≡ slice_get xs i
numbered-reverse [] i = refl
numbered-reverse (x ∷ xs) zero = ap (λ ys. numbered ys 1) (reverse-append (x ∷ []) xs) ∙ numbered-last (reverse xs) x
numbered-reverse (x ∷ xs) (suc i) = ap (λ ys. numbered ys (suc (suc i))) (reverse-append (x ∷ []) xs) ∙ numbered-more (reverse xs) x i ∙ numbered-reverse xs i

-- the oldest links stand first
pub oldest-reverse : {X : Type 0} (xs : List X) (n : ℕ) → reverse (take n xs) ≡ drop (length (reverse xs) - n) (reverse xs)
oldest-reverse xs n =
    let e : reverse xs ≡ reverse (drop n xs) ++ reverse (take n xs) = ap reverse (sym (take-append-drop n xs)) ∙ reverse-append (take n xs) (drop n xs) in
    let k : length (reverse (drop n xs)) ≡ length (reverse xs) - n = omega (arith, length-reverse xs, length-reverse (drop n xs), length-drop n xs) in
    sym (ap (drop (length (reverse xs) - n)) e ∙ drop_at (reverse (drop n xs)) (reverse (take n xs)) (length (reverse xs) - n) k)

-- older links are not changed by a newer one
older_frames : (s : Stored) (l : Link) (older : List Link) (j : ℕ) → j ≤ length older → frames_at s (l ∷ older) j ≡ frames_at s older j
older_frames s l older j h = other_number j (length older + 1) (frame_in s l ∷ frames_at s older l.around) (frames_at s older j) (λ q. omega arith)

-- a link of some placed ones, and its frames
pub record HasLink (s : Stored) (n : ℕ) (links : List Link) (k : ℕ) (l : Link) : Type 0 where
  pub frames : frames_at s links k ≡ frame_in s l ∷ frames_at s links l.around
  pub inside : IsInside n l.instance
  pub older : l.around ≤ length links

pub frames_some : (s : Stored) (n : ℕ) (links : List Link) (k : ℕ) (l : Link) → ArePlaced n links → numbered links k ≡ Some l → HasLink s n links k l
frames_some s n [] k l h e = cc
frames_some s n (x ∷ older) k l h e = elim (cases_eq k (length older + 1)) [
  | inl q ↦
      let f : Some x ≡ Some l = sym (same_number k (length older + 1) (Some x) (numbered older k) q) ∙ e in
      let is : x ≡ l = cc in
      subst (λ y. HasLink s n (x ∷ older) k y) is (record {
        frames = same_number k (length older + 1) (frame_in s x ∷ frames_at s older x.around) (frames_at s older k) q ∙ ap (λ F. frame_in s x ∷ F) (sym (older_frames s x older x.around h.1));
        inside = h.0;
        older = omega (arith, h.1);
      })
  | inr d ↦
      let r = frames_some s n older k l h.2 (sym (other_number k (length older + 1) (Some x) (numbered older k) d) ∙ e) in
      record {
        frames = other_number k (length older + 1) (frame_in s x ∷ frames_at s older x.around) (frames_at s older k) d ∙ r.frames ∙ ap (λ F. frame_in s l ∷ F) (sym (older_frames s x older l.around r.older));
        inside = r.inside;
        older = omega (arith, r.older);
      }
]

pub frames_none : (s : Stored) (links : List Link) (k : ℕ) → numbered links k ≡ None → frames_at s links k ≡ []
frames_none s [] k e = refl
frames_none s (x ∷ older) k e = elim (cases_eq k (length older + 1)) [
  | inl q ↦ (let bad : Some x ≡ None = sym (same_number k (length older + 1) (Some x) (numbered older k) q) ∙ e in cc)
  | inr d ↦
      other_number k (length older + 1) (frame_in s x ∷ frames_at s older x.around) (frames_at s older k) d
      ∙ frames_none s older k (sym (other_number k (length older + 1) (Some x) (numbered older k) d) ∙ e)
]

-- the frames of the newest link
pub frames_newest : (s : Stored) (l : Link) (links : List Link) → frames_at s (l ∷ links) (length links + 1) ≡ frame_in s l ∷ frames_at s links l.around
frames_newest s l links = same_number (length links + 1) (length links + 1) (frame_in s l ∷ frames_at s links l.around) (frames_at s links (length links + 1)) refl

abbrev pub tuple_of : Term → List Term → Tuple
tuple_of t ts = record { head = t; body = ts }

abbrev pub with_tuple : Link → Tuple → Frame
with_tuple l t =
    record {
      box_no = l.box_no;
      depth = l.depth;
      clause = l.clause;
      tuple = t;
      done = l.done;
      point = l.point;
    }

-- a substitution that was done on the terms of the first n cells
module _ (f : ℕ → Term) (old new : Stored) (n : ℕ) (made : (c : ℕ) → c < n → term_at new c ≡ apply f (term_at old c)) where
  pub terms_applied : (cs : List Cell) → AreCells n cs → terms_in new cs ≡ map (apply f) (terms_in old cs)
  terms_applied [] h = refl
  terms_applied (c ∷ cs) h = ap (λ t. t ∷ terms_in new cs) (made c.0 h.0) ∙ ap (λ ts. apply f (term_at old c.0) ∷ ts) (terms_applied cs h.1)

  pub tuple_applied : (i : Instance) → IsInside n i → tuple_in new i ≡ apply_tuple f (tuple_in old i)
  tuple_applied i h =
      ap (λ t. tuple_of t (terms_in new i.goals)) (made i.head.0 h.head) ∙ ap (tuple_of (apply f (term_at old i.head.0))) (terms_applied i.goals h.goals)

  pub frame_applied : (l : Link) → IsInside n l.instance → frame_in new l ≡ apply_frame f (frame_in old l)
  frame_applied l h = ap (with_tuple l) (tuple_applied l.instance h)

  pub frames_applied : (links : List Link) (k : ℕ) → ArePlaced n links → frames_at new links k ≡ apply_frames f (frames_at old links k)
  frames_applied [] k h = refl
  frames_applied (l ∷ older) k h = elim (cases_eq k (length older + 1)) [
    | inl q ↦
        same_number k (length older + 1) (frame_in new l ∷ frames_at new older l.around) (frames_at new older k) q
        ∙ ap (λ x. x ∷ frames_at new older l.around) (frame_applied l h.0)
        ∙ ap (λ F. apply_frame f (frame_in old l) ∷ F) (frames_applied older l.around h.2)
        ∙ ap (apply_frames f) (sym (same_number k (length older + 1) (frame_in old l ∷ frames_at old older l.around) (frames_at old older k) q))
    | inr d ↦
        other_number k (length older + 1) (frame_in new l ∷ frames_at new older l.around) (frames_at new older k) d
        ∙ frames_applied older k h.2
        ∙ ap (apply_frames f) (sym (other_number k (length older + 1) (frame_in old l ∷ frames_at old older l.around) (frames_at old older k) d))
  ]

-- all variables of frames are below the store's number of variables
module _ (s : Stored) (numbers : IsNumbered s) where
  terms_below : (cs : List Cell) (v : ℕ) → AreCells (length s.cells) cs → IsAmong (flat_map variables (terms_in s cs)) v → v < s.variables
  terms_below [] v h m = absurd m
  terms_below (c ∷ cs) v h m = elim (IsAmong-append (variables (term_at s c.0)) (flat_map variables (terms_in s cs)) v m) [
    | inl o ↦ numbers.below c.0 v h.0 o
    | inr o ↦ terms_below cs v h.1 o
  ]

  frame_below : (l : Link) (v : ℕ) → IsInside (length s.cells) l.instance → IsAmong (variables_of_tuple (frame_in s l).tuple) v → v < s.variables
  frame_below l v h m = elim (IsAmong-append (variables (term_at s l.instance.head.0)) (flat_map variables (terms_in s l.instance.goals)) v m) [
    | inl o ↦ numbers.below l.instance.head.0 v h.head o
    | inr o ↦ terms_below l.instance.goals v h.goals o
  ]

  pub frames_below : (links : List Link) (k : ℕ) → ArePlaced (length s.cells) links → IsBelow s.variables (frames_at s links k)
  frames_below [] k h = λ v m. absurd m
  frames_below (l ∷ older) k h = elim (cases_eq k (length older + 1)) [
    | inl q ↦
        subst (IsBelow s.variables) (sym (same_number k (length older + 1) (frame_in s l ∷ frames_at s older l.around) (frames_at s older k) q))
        (λ v m. elim (IsAmong-append (variables_of_tuple (frame_in s l).tuple) (variables_of_frames (frames_at s older l.around)) v m) [
          | inl o ↦ frame_below l v h.0 o
          | inr o ↦ frames_below older l.around h.2 v o
        ])
    | inr d ↦
        subst (IsBelow s.variables) (sym (other_number k (length older + 1) (frame_in s l ∷ frames_at s older l.around) (frames_at s older k) d)) (frames_below older k h.2)
  ]
