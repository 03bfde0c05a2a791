-- Bounds on the numbers of variables.
use Rattle.std.proofs.Common.{◌≡◌, inl, inr, ℕ, zero, suc, ◌+◌, ◌<◌, ◌≤◌, List, [], ◌∷◌, map, refl, subst, arith, Some}
use Rattle.std.specs.Prelude.{◌==◌, if◌then◌else◌, Bool, true, false, slice_get}
use Rattle.std.specs.List.{flat_map}
use Rattle.std.proofs.lemmas.List.Concat.{flat_map-append}
use Rattle.apd_term.specs.Term.{Term, variable, apply, variables, IsAmong, Occurs}
use Rattle.apd_term.specs.Substitution.{term_for}
use Rattle.apd_term.specs.Tuple.{apply_tuple, variables_of_tuple, canonical_tuple, size_of_tuple}
use Rattle.apd_term.specs.declared.tuple.Tuple.{Tuple}
use Rattle.apd_term.proofs.Among.{IsAmong-left, IsAmong-right, IsAmong-append, IsAmong-flat_map}
use Rattle.apd_unify.specs.Unifier.{OccursIn, BringsNoVariable}
use Rattle.apd_term.proofs.Applying.{variables-apply}
use Rattle.apd_trace.specs.Frames.{apply_frames, variables_of_frames, shifted_tuple, next_goal}
use Rattle.apd_trace.specs.declared.frame.Frame.{Frame}
use Rattle.apd_trace.proofs.Clauses.{canonical_numbers}
use Rattle.apd_trace.specs.Renaming.{IsBelow}
use Rattle.apd_trace.specs.Frames.{query_frame}

-- a clause's variables have small numbers
abbrev pub IsSmall : Tuple → Type 0
IsSmall r = (v : ℕ) → IsAmong (variables_of_tuple r) v → v < 4294967297

-- what the substitution puts for each of these variables
abbrev images : (ℕ → Term) → List ℕ → List ℕ
images s vs = flat_map (λ v. variables (s v)) vs

variables_list-apply : (s : ℕ → Term) (ts : List Term) → flat_map variables (map (apply s) ts) ≡ images s (flat_map variables ts)
variables_list-apply s [] = refl
variables_list-apply s (t ∷ ts) = rw (flat_map-append (λ v. variables (s v)) (variables t) (flat_map variables ts), variables-apply s t, variables_list-apply s ts) refl

variables_tuple-apply : (s : ℕ → Term) (t : Tuple) → variables_of_tuple (apply_tuple s t) ≡ images s (variables_of_tuple t)
variables_tuple-apply s t = rw (flat_map-append (λ v. variables (s v)) (variables t.head) (flat_map variables t.body), variables-apply s t.head, variables_list-apply s t.body) refl

variables_frames-apply : (s : ℕ → Term) (F : List Frame) → variables_of_frames (apply_frames s F) ≡ images s (variables_of_frames F)
variables_frames-apply s [] = refl
variables_frames-apply s (f ∷ F) = rw (flat_map-append (λ v. variables (s v)) (variables_of_tuple f.tuple) (variables_of_frames F), variables_tuple-apply s f.tuple, variables_frames-apply s F) refl

-- frames under a substitution whose terms have variables below n only
pub IsBelow-apply : (n : ℕ) (s : ℕ → Term) (F : List Frame) → IsBelow n F → ((w v : ℕ) → w < n → IsAmong (variables (s w)) v → v < n) → IsBelow n (apply_frames s F)
IsBelow-apply n s F below h v o =
    let m = IsAmong-flat_map (λ w. variables (s w)) (variables_of_frames F) v (subst (λ vs. IsAmong vs v) (variables_frames-apply s F) o) in
    h m.0 v (below m.0 m.1) m.2

-- a unifier that brings no variable
pub term_for-below : (n : ℕ) (s : List (ℕ × Term)) (a b : Term) → BringsNoVariable s a b → ((v : ℕ) → OccursIn a b v → v < n) → (w v : ℕ) → w < n → IsAmong (variables (term_for s w)) v → v < n
term_for-below n [] a b brings below w v lt (inl e) = omega arith
term_for-below n [] a b brings below w v lt (inr bad) = absurd bad
term_for-below n (p ∷ ps) a b brings below w v lt m = either (λ o. term_for-below n ps a b brings.1 below w v lt o) (p.0 == w) m
  where
    either : (IsAmong (variables (term_for ps w)) v → v < n) → (t : Bool) → IsAmong (variables (if t then p.1 else term_for ps w)) v → v < n
    either later true o = below v (brings.0.1 v o)
    either later false o = later o

among_goal : (ts : List Term) (i v : ℕ) (a : Term) → slice_get ts i ≡ Some a → IsAmong (variables a) v → IsAmong (flat_map variables ts) v
among_goal [] i v a e m = cc
among_goal (t ∷ ts) zero v a e m = IsAmong-left (variables t) (flat_map variables ts) v (subst (λ x. IsAmong (variables x) v) (here e) m)
  where
    here : Some t ≡ Some a → a ≡ t
    here h = cc
among_goal (t ∷ ts) (suc i) v a e m = IsAmong-right (variables t) (flat_map variables ts) v (among_goal ts i v a e m)

pub goal_below : (n : ℕ) (F : List Frame) (a : Term) → next_goal F ≡ Some a → IsBelow n F → (v : ℕ) → Occurs v a → v < n
goal_below n [] a e below v o = cc
goal_below n (f ∷ F) a e below v o =
    below v (IsAmong-left (variables_of_tuple f.tuple) (variables_of_frames F) v (IsAmong-right (variables f.tuple.head) (flat_map variables f.tuple.body) v (among_goal f.tuple.body f.done v a e o)))

-- the variables of a small clause that was shifted
pub shifted_below : (q : ℕ) (r : Tuple) → IsSmall r → (v : ℕ) → IsAmong (variables_of_tuple (shifted_tuple q r)) v → v < q + 4294967297
shifted_below q r small v o =
    let m = IsAmong-flat_map (λ w. variables (variable (q + w))) (variables_of_tuple r) v (subst (λ vs. IsAmong vs v) (variables_tuple-apply (λ w. variable (q + w)) r) o) in
    last m.0 (small m.0 m.1) m.2
  where
    last : (w : ℕ) → w < 4294967297 → IsAmong ((q + w) ∷ []) v → v < q + 4294967297
    last w lt (inl e) = omega arith
    last w lt (inr bad) = absurd bad

-- the frames with a shifted clause in front, under a unifier of the goal and the head
pub entered_below : (q : ℕ) (f : Frame) (F : List Frame) (r : Tuple) (a : Term) (s : List (ℕ × Term))
    → f.tuple ≡ shifted_tuple q r → IsSmall r → IsBelow q F → next_goal F ≡ Some a → BringsNoVariable s a f.tuple.head
    → IsBelow (q + 4294967297) (apply_frames (term_for s) (f ∷ F))
entered_below q f F r a s is small below goal brings =
    IsBelow-apply (q + 4294967297) (term_for s) (f ∷ F) all (term_for-below (q + 4294967297) s a f.tuple.head brings terms)
  where
    front : (v : ℕ) → IsAmong (variables_of_tuple f.tuple) v → v < q + 4294967297
    front v o = shifted_below q r small v (subst (λ t. IsAmong (variables_of_tuple t) v) is o)

    all : IsBelow (q + 4294967297) (f ∷ F)
    all v o = elim (IsAmong-append (variables_of_tuple f.tuple) (variables_of_frames F) v o) [ inl x ↦ front v x | inr y ↦ omega (arith, below v y) ]

    terms : (v : ℕ) → OccursIn a f.tuple.head v → v < q + 4294967297
    terms v o = elim (IsAmong-append (variables a) (variables f.tuple.head) v o) [
      | inl x ↦ omega (arith, goal_below q F a goal below v x)
      | inr y ↦ front v (IsAmong-left (variables f.tuple.head) (flat_map variables f.tuple.body) v y)
    ]

-- a canonical tuple that is short has small numbers
pub IsSmall-canonical : (t : Tuple) → size_of_tuple t ≤ 4294967295 → IsSmall (canonical_tuple t)
IsSmall-canonical t h v o = omega (arith, h, canonical_numbers t v o)

-- such numbers can be raised
pub small_fits : (t : Tuple) (q n : ℕ) → IsSmall t → q + 4294967297 ≤ n → (v : ℕ) → IsAmong (variables_of_tuple t) v → q + v < n + 1
small_fits t q n h le v o = omega (arith, h v o)

-- the query's frame alone
pub query_fresh : (t q : Tuple) → size_of_tuple q ≤ 4294967295 → t ≡ canonical_tuple q → IsBelow 4294967297 (query_frame t ∷ [])
query_fresh t q h is v o = elim (IsAmong-append (variables_of_tuple t) [] v o) [ inl x ↦ IsSmall-canonical q h v (subst (λ z. IsAmong (variables_of_tuple z) v) is x) | inr bad ↦ absurd bad ]
