-- When a record may be told the next thing of a run that never goes back.
use Rattle.std.proofs.Common.{◌≡◌, ℕ, zero, suc, ◌+◌, ◌<◌, Bool, true, false, List, length, Option, Some, None, refl, sym, ap, ◌∙◌}
use Rattle.std.specs.Prelude.{◌≤◌, IfOk, IfSome, Result, Ok, Err, slice_get}
use Rattle.std.proofs.lemmas.Option.{none-some, slice_get-map, slice_get_within}
use Rattle.std.specs.Option.{option_map, is_some}
use Rattle.std.specs.Result.{result_unwrap_or}
use Rattle.apd_term.specs.Term.{Term, variable, apply}
use Rattle.apd_term.specs.Canonical.{canonical}
use Rattle.apd_term.specs.Substitution.{IsInstance}
use Rattle.apd_term.specs.Tuple.{apply_tuple, IsTupleInstance}
use Rattle.apd_term.specs.declared.tuple.Tuple.{Tuple}
use Rattle.apd_term.proofs.Applying.{apply-variable}
use Rattle.apd_term.proofs.Tuples.{as_term-apply, as_term-injective}
use Rattle.apd_term.proofs.Variants.{canonical-canonical}
use Rattle.apd_clauses.specs.Clauses.{IsAtom, tuples_of, clause_at}
use Rattle.apd_clauses.specs.declared.clause.Clause.{Clause}
use Rattle.apd_ports.specs.declared.point.Point.{Point}
use Rattle.apd_ports.specs.declared.point.PointId.{PointId}
use Rattle.apd_ports.specs.declared.point.Step.{Step}
use Rattle.apd_record.specs.Index.{id_of}
use Rattle.apd_record.specs.Recorded.{Recorded, box_at, point_at, goal_left, IsExit, child, first_point, follow}
use Rattle.apd_record.specs.declared.rows.BoxRow.{BoxRow}
use Rattle.apd_record.specs.Sound.{IsKept, IsOpen, MayOpen, MayMake, ComeAlike, clause_of}
use Rattle.apd_record.proofs.Readers.{child-is, first-is, follow-is}
use Rattle.apd_symptoms.proofs.Exits.{row_there}
use Rattle.apd_by_hand.specs.Newest.{IsSolvedBy, as_term}

pub no_image : {X Y : Type 0} (f : X → Y) (o : Option X) (r : Option Y) → r ≡ option_map f o → is_some r ≡ false → o ≡ None
no_image f None r e n = refl
no_image f (Some x) r e n = let bad : true ≡ false = sym (ap is_some e) ∙ n in absurd (cc)

pub fits_told : {E : Type 0} (r : Result Bool E) (Q : Bool → Type 0) → result_unwrap_or r false ≡ true → IfOk r Q → Q true
fits_told (Ok true) Q e h = h
fits_told (Ok false) Q e h = absurd (cc)
fits_told (Err x) Q e h = absurd (cc)

-- a call
pub may_call : (R : Recorded) (i : ℕ) (caller : Point) (goal : Term) → IsKept R → point_at R i ≡ Some caller → goal_left caller ≡ Some goal →
    child R i ≡ None → IsOpen R caller.owner → IsAtom (canonical goal) → MayOpen R (canonical goal) i
may_call R i caller goal kept there next free grows atom =
    record {
      caller = caller;
      goal = goal;
      there = there;
      next = next;
      variant = sym (canonical-canonical goal);
      is_atom = atom;
      childless = λ n b at from. none-some n (sym free ∙ (child-is R kept i n).1 (b, at, from));
      is_open = grows;
    }

-- a clause is entered
alike_first : (q p : Point) (a : Option Step) → ComeAlike q p a None → (a ≡ None) × (q.owner ≡ p.owner) × (q.clause ≡ p.clause)
alike_first q p None h = (refl, h.0, h.1)
alike_first q p (Some s) h = absurd h

pub may_enter : (R : Recorded) (b c : ℕ) (t : Tuple) (row : BoxRow) → IsKept R → box_at R b ≡ Some row → row.is_user ≡ true → IsInstance t.head row.atom →
    first_point R b c ≡ None → IsOpen R b → MayMake R (record { owner = b; clause = c; done = 0; tuple = t; before = None })
may_enter R zero c t row kept there user head free grows = absurd (cc)
may_enter R (suc n) c t row kept there user head free grows =
    record {
      came = (refl, record { row = row; there = there; head = head; success = rw user tt });
      is_new = λ i q at alike. let same = alike_first q (record { owner = suc n; clause = c; done = 0; tuple = t; before = None }) q.before alike in none-some i (sym free ∙ (first-is R kept (suc n) c i).1 (q, at, same.1, same.2, same.0));
      is_open = grows;
    }

pub may_enter_by : (R : Recorded) (b c : ℕ) (t : Tuple) (a : Term) (user : Bool) → IsKept R → 0 < b → b ≤ length R.boxes →
    IfSome (box_at R b) (λ (r : BoxRow). user ≡ r.is_user) → user ≡ true → IfSome (box_at R b) (λ (r : BoxRow). a ≡ r.atom) → IsInstance t.head a →
    first_point R b c ≡ None → IsOpen R b → MayMake R (record { owner = b; clause = c; done = 0; tuple = t; before = None })
may_enter_by R b c t a user kept some few by_user is by_atom head free grows =
    let box = row_there R b some few in
    let own : user ≡ box.0.is_user = rw box.1 at by_user in
    let atom : a ≡ box.0.atom = rw box.1 at by_atom in
    may_enter R b c t box.0 kept box.1 (sym own ∙ is) (rw atom at head) free grows

-- a goal is solved
alike_later : (q p : Point) (a : Option Step) (t : Step) → ComeAlike q p a (Some t) → (s : Step) × (a ≡ Some s) × (s.point.0 ≡ t.point.0) × (s.exit.0 ≡ t.exit.0)
alike_later q p None t h = absurd h
alike_later q p (Some s) t h = (s, refl, h.0, h.1)

pub may_solve : (R : Recorded) (from at : PointId) (left exit : Point) (d : ℕ) (t : Tuple) → IsKept R →
    point_at R from.0 ≡ Some left → point_at R at.0 ≡ Some exit → IsExit exit → 0 < exit.owner → exit.owner ≤ length R.boxes →
    IfSome (box_at R exit.owner) (λ (b : BoxRow). from ≡ id_of b.from) → IsSolvedBy left exit.tuple.head t → d ≡ left.done + 1 →
    follow R from.0 at.0 ≡ None → IsOpen R left.owner →
    MayMake R (record { owner = left.owner; clause = left.clause; done = d; tuple = t; before = Some (record { point = from; exit = at }) })
may_solve R from at left exit d t kept left_there exit_there is_exit some few by_box by done free grows =
    let box = row_there R exit.owner some few in
    let called : from ≡ id_of box.0.from = rw box.1 at by_box in
    let p : Point = record { owner = left.owner; clause = left.clause; done = d; tuple = t; before = Some (record { point = from; exit = at }) } in
    record {
      came = record {
        left = left;
        exit = exit;
        box = box.0;
        goal = exit.tuple.head;
        left_there = left_there;
        exit_there = exit_there;
        point_earlier = slice_get_within R.points from.0 left left_there;
        exit_earlier = slice_get_within R.points at.0 exit exit_there;
        is_exit = is_exit;
        child = box.1;
        called = ap (λ (x : PointId). x.0) (sym called);
        owner = refl;
        clause = refl;
        done = done;
        instance = (by.0, by.4);
        last = ap (λ (u : Tuple). slice_get u.body left.done) (sym by.4) ∙ slice_get-map (apply by.0) left.tuple.body left.done ∙ ap (option_map (apply by.0)) by.2 ∙ ap Some by.3;
        solved = (variable, apply-variable exit.tuple.head);
      };
      is_new = λ i q there alike. let same = alike_later q p q.before (record { point = from; exit = at }) alike in none-some i (sym free ∙ (follow-is R kept from.0 at.0 i).1 (q, same.0, there, same.1, same.2, same.3));
      is_open = grows;
    }

pub instance_of_tuple : (a b : Tuple) → IsInstance (as_term a) (as_term b) → IsTupleInstance a b
instance_of_tuple a b i = (i.0, as_term-injective (apply_tuple i.0 b) a (sym (as_term-apply i.0 b) ∙ i.1))

pub clause_at-tuple : (cs : List Clause) (n : ℕ) (c : Clause) → clause_at cs n ≡ Some c → clause_of (tuples_of cs) n ≡ Some c.tuple
clause_at-tuple cs zero c there = absurd (cc)
clause_at-tuple cs (suc i) c there = slice_get-map (λ (x : Clause). x.tuple) cs i ∙ ap (option_map (λ (x : Clause). x.tuple)) there
