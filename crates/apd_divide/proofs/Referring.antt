-- What is read of a recorded exit, and what isn't read: where the head is ground, the canonical form
-- of the exit's tuple is the instance with any label, and the head is the label of each goal that it
-- solved.
use Rattle.std.proofs.Common.{◌≡◌, ℕ, zero, suc, ◌<◌, Bool, true, false, List, [], ◌∷◌, length, Option, Some, None, sym, ◌∙◌, ap, subst, arith}
use Rattle.std.specs.Prelude.{if◌then◌else◌, get_or, slice_get, IfSome}
use Rattle.std.specs.Option.{option_map}
use Rattle.std.proofs.lemmas.List.{get_or-map, length-map}
use Rattle.std.proofs.lemmas.Option.{slice_get-get_or, slice_get_within}
use Rattle.apd_term.specs.Term.{Term, variable, apply, predicate_of, IsGround}
use Rattle.apd_term.specs.Canonical.{canonical, by_appearance, place_of}
use Rattle.apd_term.specs.Substitution.{IsInstance}
use Rattle.apd_term.specs.Tuple.{canonical_tuple, variables_of_tuple, IsTupleInstance}
use Rattle.apd_term.specs.declared.term.Pred.{Pred}
use Rattle.apd_term.specs.declared.tuple.Tuple.{Tuple}
use Rattle.apd_term.proofs.Ground.{apply-ground, canonical-ground}
use Rattle.apd_term.proofs.Tuples.{IsTupleInstance-canonical, canonical_is_instance}
use Rattle.apd_term.proofs.Variants.{AreVariants_from_instances}
use Rattle.apd_ports.specs.declared.point.Point.{Point}
use Rattle.apd_record.specs.Recorded.{Recorded, box_at, point_at, is_user_atom}
use Rattle.apd_record.specs.declared.rows.BoxRow.{BoxRow}
use Rattle.apd_record.specs.Index.{id_of}
use Rattle.apd_record.specs.Sound.{IsKept}
use Rattle.apd_record.specs.Reading.{point_of, exits_to}
use Rattle.apd_divide.specs.declared.growing.PendingCall.{PendingCall}
use Rattle.apd_divide.specs.Exits.{IsLabelled}
use Rattle.apd_divide.specs.Referring.{goal_at, HasGroundHead}
use Rattle.apd_divide.specs.Solved.{IsSolvedBy, AreSolved}
use Rattle.apd_divide.specs.Growing.{instance_at, calls_for, calls_at}
use Rattle.apd_divide.proofs.Ground.{instance_with-ground_head}
use Rattle.apd_divide.proofs.Solved.{point-is}
use Rattle.apd_divide.proofs.Grown.{point_there, instance_done, instance_solved}

-- Reading.

pub read_there : {X : Type 0} (R : Recorded) (e : ℕ) (x : X) (part : Point → X) → e < length R.points → IfSome (point_at R e) (λ (p : Point). x ≡ part p) → x ≡ part (point_of R e)
read_there R e x part l h = subst (λ o. IfSome o (λ (p : Point). x ≡ part p)) (point_there R e l) h

pub ground_told : (R : Recorded) (e : ℕ) (o : Option Pred) → e < length R.points → IfSome (point_at R e) (λ (x : Point). IsGround x.tuple.head)
    → IfSome o (λ pred. IfSome (point_at R e) (λ (x : Point). predicate_of x.tuple.head ≡ Some pred)) → IfSome o (HasGroundHead R e)
ground_told R e None l g h = tt
ground_told R e (Some pred) l g h = record {
  ground = subst (λ o. IfSome o (λ (x : Point). IsGround x.tuple.head)) (point_there R e l) g;
  pred_is = subst (λ o. IfSome o (λ (x : Point). predicate_of x.tuple.head ≡ Some pred)) (point_there R e l) h;
}

pub goal_told : (R : Recorded) (e k : ℕ) (o : Option Term) → e < length R.points → k < length (point_of R e).tuple.body
    → IfSome (point_at R e) (λ (x : Point). o ≡ option_map canonical (slice_get x.tuple.body k)) → o ≡ Some (canonical (goal_at (point_of R e).tuple.body k))
goal_told R e k o l w h =
    read_there R e o (λ (p : Point). option_map canonical (slice_get p.tuple.body k)) l h
    ∙ ap (option_map canonical) (slice_get-get_or (point_of R e).tuple.body k (variable 0) w)

-- Goals of canonical forms.

pub form_goals : (t : Tuple) → length (canonical_tuple t).body ≡ length t.body
form_goals t = length-map t.body _

goal-instance : (a b : Tuple) (k : ℕ) → IsTupleInstance a b → k < length b.body → IsInstance (goal_at a.body k) (goal_at b.body k)
goal-instance a b k i l =
    (i.0, sym (get_or-map (apply i.0) b.body k (variable 0) (variable 0) l) ∙ ap (λ (t : Tuple). get_or t.body k (variable 0)) i.1)

pub goal-form : (t : Tuple) (k : ℕ) → k < length t.body → canonical (goal_at t.body k) ≡ canonical (goal_at (canonical_tuple t).body k)
goal-form t k l =
    let form = canonical_tuple t in
    let there : k < length form.body = subst (λ n. k < n) (sym (form_goals t)) l in
    AreVariants_from_instances (goal_at t.body k) (goal_at form.body k) (goal-instance form t k (canonical_is_instance t) l) (goal-instance t form k (IsTupleInstance-canonical t) there)

-- Exits whose head is ground.

pub ground_head : (R : Recorded) (e : ℕ) (pred : Pred) → HasGroundHead R e pred → (point_of R e).tuple.head ≡ (canonical_tuple (point_of R e).tuple).head
ground_head R e pred g = sym (apply-ground (λ v. variable (place_of (by_appearance (variables_of_tuple (point_of R e).tuple)) v)) (point_of R e).tuple.head g.ground)

pub ground_instance : (R : Recorded) (e : ℕ) (label : Term) (pred : Pred) → HasGroundHead R e pred → canonical_tuple (point_of R e).tuple ≡ instance_at R e label
ground_instance R e label pred g = instance_with-ground_head (point_of R e).tuple label g.ground

pub ground_done : (R : Recorded) → IsKept R → (e : ℕ) (label : Term) (pred : Pred) (goals : List Term) → IsLabelled R e label → HasGroundHead R e pred → goals ≡ (canonical_tuple (point_of R e).tuple).body
    → length goals ≡ (point_of R e).done
ground_done R kept e label pred goals l g is =
    ap length is ∙ ap (λ (t : Tuple). length t.body) (ground_instance R e label pred g) ∙ instance_done R kept e label l

pub ground_solved : (R : Recorded) → IsKept R → (e : ℕ) (label : Term) (pred : Pred) (goals : List Term) → IsLabelled R e label → HasGroundHead R e pred → goals ≡ (canonical_tuple (point_of R e).tuple).body
    → AreSolved R e goals (exits_to R e)
ground_solved R kept e label pred goals l g is =
    subst (λ ts. AreSolved R e ts (exits_to R e)) (sym (is ∙ ap (λ (t : Tuple). t.body) (ground_instance R e label pred g))) (instance_solved R kept e label l)

pub ground_calls : (R : Recorded) (e : ℕ) (label : Term) (pred : Pred) (goals : List Term) → HasGroundHead R e pred → goals ≡ (canonical_tuple (point_of R e).tuple).body
    → calls_for goals (exits_to R e) ≡ calls_at R e label
ground_calls R e label pred goals g is =
    ap (λ ts. calls_for ts (exits_to R e)) (is ∙ ap (λ (t : Tuple). t.body) (ground_instance R e label pred g))

pub exit_within : (R : Recorded) (m x : ℕ) (a : Term) → IsSolvedBy R m a x → x < length R.points
exit_within R m x a s = slice_get_within R.points x s.point s.there

pub ground_label : (R : Recorded) (m x : ℕ) (a : Term) → IsSolvedBy R m a x → IfSome (point_at R x) (λ (p : Point). IsGround p.tuple.head) → (point_of R x).tuple.head ≡ canonical a
ground_label R m x a s h =
    let head : IsGround s.point.tuple.head = subst (λ o. IfSome o (λ (p : Point). IsGround p.tuple.head)) s.there h in
    let same : s.point.tuple.head ≡ a = sym (apply-ground s.instance.0 s.point.tuple.head head) ∙ s.instance.1 in
    ap (λ (p : Point). p.tuple.head) (point-is R x s.point s.there) ∙ canonical-ground s.point.tuple.head head ∙ ap canonical same

-- The kind of a solved goal.

pub owner_is : (R : Recorded) (m x : ℕ) (a : Term) (o : ℕ) → (s : IsSolvedBy R m a x) → IfSome (point_at R x) (λ (p : Point). o ≡ p.owner) → o ≡ s.point.owner
owner_is R m x a o s h = subst (λ z. IfSome z (λ (p : Point). o ≡ p.owner)) s.there h

pub owner_positive : (R : Recorded) (m x : ℕ) (a : Term) (o : ℕ) → IsSolvedBy R m a x → IfSome (point_at R x) (λ (p : Point). o ≡ p.owner) → 0 < o
owner_positive R m x a o s h = subst (λ n. 0 < n) (sym (owner_is R m x a o s h)) (by s.point.owner s.row_there)
  where
    by : (n : ℕ) → box_at R n ≡ Some s.row → 0 < n
    by zero e = cc
    by (suc n) e = omega arith

pub user_told : (R : Recorded) (m x : ℕ) (a : Term) (o : ℕ) (b : Bool) → IsSolvedBy R m a x → IfSome (point_at R x) (λ (p : Point). o ≡ p.owner) → IfSome (box_at R o) (λ (r : BoxRow). b ≡ r.is_user) → b ≡ is_user_atom a
user_told R m x a o b s h u =
    let there : box_at R o ≡ Some s.row = ap (box_at R) (owner_is R m x a o s h) ∙ s.row_there in
    subst (λ z. IfSome z (λ (r : BoxRow). b ≡ r.is_user)) there u ∙ s.user

abbrev one_call : Bool → Term → ℕ → List PendingCall
one_call b a x = if b then record { exit = id_of x; label = canonical a } ∷ [] else []

calls_one : (a : Term) (x : ℕ) (b : Bool) → b ≡ is_user_atom a → calls_for (a ∷ []) (x ∷ []) ≡ one_call b a x
calls_one a x b e = ap (λ z. one_call z a x) (sym e)

pub calls_other : (a : Term) (x : ℕ) (b : Bool) → b ≡ is_user_atom a → b ≡ false → calls_for (a ∷ []) (x ∷ []) ≡ []
calls_other a x b e f = calls_one a x b e ∙ ap (λ z. one_call z a x) f

pub calls_own : (a : Term) (x : ℕ) (b : Bool) (l : Term) → b ≡ is_user_atom a → b ≡ true → l ≡ canonical a → calls_for (a ∷ []) (x ∷ []) ≡ record { exit = id_of x; label = l } ∷ []
calls_own a x b l e t is = calls_one a x b e ∙ ap (λ z. one_call z a x) t ∙ ap (λ (z : Term). record { exit = id_of x; label = z } ∷ []) (sym is)
