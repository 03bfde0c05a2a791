-- The way through a full record comes to a goal that has no answer in its box.
use Rattle.std.proofs.Common.{◌≡◌, ◌⊎◌, inl, inr, ℕ, suc, true, false, List, [], ◌∷◌, drop, Option, Some, None, refl, sym, ◌∙◌, ap, subst, arith}
use Rattle.std.specs.Prelude.{slice_get}
use Rattle.std.specs.Option.{unwrap_or}
use Rattle.std.specs.List.{flat_map, AllByRecursion}
use Rattle.apd_term.specs.Term.{Term, variables, IsAmong, IsGround}
use Rattle.apd_term.specs.Matching.{is_instance}
use Rattle.apd_term.specs.Substitution.{IsInstance}
use Rattle.apd_term.specs.Tuple.{IsTupleInstance}
use Rattle.apd_term.specs.declared.tuple.Tuple.{Tuple}
use Rattle.apd_term.proofs.Opposite.{is_instance-is}
use Rattle.apd_arith.specs.declared.goal.Builtin.{Builtin}
use Rattle.apd_arith.specs.Builtins.{builtin_of_atom}
use Rattle.apd_ports.specs.declared.point.Point.{Point}
use Rattle.apd_record.specs.Recorded.{Recorded, box_at, point_at, is_none, child, exits, first_point, follow}
use Rattle.apd_record.specs.declared.rows.BoxRow.{BoxRow}
use Rattle.apd_record.specs.Reading.{no_point, point_of}
use Rattle.apd_record.specs.Sound.{clause_of, IsAlwaysTrue, CameBy, Follows, IsSound}
use Rattle.apd_record.specs.Full.{IsGroundTuple, HasExit, IsFull}
use Rattle.apd_record.proofs.Lists.{get-one}
use Rattle.apd_record.proofs.Missing.{both_empty, ground_at, drop_none, drop_some, drop_next, Reached, Called, goal_called, reached_exit, builtin_exit, user_call}
use Rattle.apd_record.proofs.Readers.{child-is, first-is, follow-is, exits-are}
use Rattle.apd_answers.specs.Store.{Store, SaysYes}
use Rattle.apd_answers.specs.Findings.{Affirms, IsTrueBy}
use Rattle.apd_answers.specs.Fitting.{AllFit}
use Rattle.apd_missing.specs.Missing.{Unanswered, first_exit, after_exit, at_child, from_child, walk, followed}
use Rattle.apd_missing.specs.Known.{IsMissing, HasNext}
use Rattle.apd_missing.proofs.Tests.{by_test}

-- the first exit that has the atom as an instance, or none
first_exit-some : (R : Recorded) (a : Term) (es : List ℕ) (e : ℕ) → first_exit R a es ≡ Some e → IsAmong es e × (is_instance a (point_of R e).tuple.head ≡ true)
first_exit-some R a [] e h = absurd (cc)
first_exit-some R a (x ∷ xs) e h =
    by_test (is_instance a (point_of R x).tuple.head)
    (λ t. let k : Some x ≡ Some e = rw t at h in let same : x ≡ e = cc in (inl same, subst (λ i. is_instance a (point_of R i).tuple.head ≡ true) same t))
    (λ t. let k = first_exit-some R a xs e (rw t at h) in (inr k.0, k.1))

first_exit-none : (R : Recorded) (a : Term) (es : List ℕ) (e : ℕ) → first_exit R a es ≡ None → IsAmong es e → is_instance a (point_of R e).tuple.head ≡ false
first_exit-none R a [] e h m = absurd m
first_exit-none R a (x ∷ xs) e h m =
    by_test (is_instance a (point_of R x).tuple.head)
    (λ t. let k : Some x ≡ None = rw t at h in absurd (cc))
    (λ t. by_place m t (λ n. first_exit-none R a xs e (rw t at h) n))
  where
    by_place : (x ≡ e) ⊎ IsAmong xs e → is_instance a (point_of R x).tuple.head ≡ false → (IsAmong xs e → is_instance a (point_of R e).tuple.head ≡ false) → is_instance a (point_of R e).tuple.head ≡ false
    by_place (inl same) t rest = subst (λ i. is_instance a (point_of R i).tuple.head ≡ false) same t
    by_place (inr n) t rest = rest n

point-is : (R : Recorded) (e : ℕ) (p : Point) → point_at R e ≡ Some p → point_of R e ≡ p
point-is R e p h = ap (λ o. unwrap_or o no_point) h

has_exit : (R : Recorded) (n : ℕ) (a : Term) (e : ℕ) → first_exit R a (exits R n) ≡ Some e → (h : HasExit R n a) × (h.number ≡ e)
has_exit R n a e h =
    let k = first_exit-some R a (exits R n) e h in
    let there = (exits-are R n e).0 k.0 in (
      record {
        number = e;
        point = there.0;
        there = there.1;
        owner = there.2;
        is_exit = there.3;
        instance = subst (λ (p : Point). IsInstance a p.tuple.head) (point-is R e there.0 there.1) ((is_instance-is a (point_of R e).tuple.head).0 k.1);
      },
      refl,
    )

has_no_exit : (R : Recorded) (n : ℕ) (a : Term) → first_exit R a (exits R n) ≡ None → ¬ HasExit R n a
has_no_exit R n a h x =
    let among = (exits-are R n x.number).1 (x.point, x.there, x.owner, x.is_exit) in
    let no = first_exit-none R a (exits R n) x.number h among in
    let test = (is_instance-is a (point_of R x.number).tuple.head).1 (subst (λ (p : Point). IsInstance a p.tuple.head) (sym (point-is R x.number x.point x.there)) x.instance) in
    let bad : false ≡ true = sym no ∙ test in
    cc

module _ (P : List Tuple) (R : Recorded) (sound : IsSound P R) (full : IsFull P R) where
  -- the point after an exit, as the reader tells it
  reached_by_exit : (n : ℕ) (b : BoxRow) (t : Tuple) (d : ℕ) (a : Term) → box_at R n ≡ Some b → b.complete ≡ true → IsGroundTuple t → (r : Reached P R sound full n t d) → slice_get t.body d ≡ Some a
      → (c : Called P R sound full a r.number) → (e : HasExit R c.number a) → (q : Reached P R sound full n t (suc d)) × (follow R r.number e.number ≡ Some q.number)
  reached_by_exit n b t d a box complete ground r goal c e =
      let at : slice_get t.body r.point.done ≡ Some a = ap (slice_get t.body) r.done ∙ goal in
      let f = (full n b box complete).follows r.number e.number c.number r.point e.point c.row t a r.there r.owner c.there c.from e.there e.owner e.is_exit ground r.instance at e.instance in
      let h : Follows R f.number f.point f.step = subst (λ x. CameBy R f.number f.point x) f.before (sound.kept.made f.number f.point f.there).came in
      let left : h.left ≡ r.point = get-one (point_at R r.number) h.left r.point (subst (λ i. point_at R i ≡ Some h.left) f.left h.left_there) r.there in (
        record {
          number = f.number;
          point = f.point;
          there = f.there;
          owner = h.owner ∙ ap (λ (q : Point). q.owner) left ∙ r.owner;
          done = (let e : h.left.done ≡ d = ap (λ (q : Point). q.done) left ∙ r.done in omega (arith, h.done, e));
          instance = f.instance;
        },
        (follow-is R sound.kept r.number e.number f.number).1 (f.point, f.step, f.there, f.before, f.left, f.exit),
      )

  -- the point at which a clause was entered, as the reader tells it
  reached_by_clause : (n : ℕ) (b : BoxRow) (c : ℕ) (rule t : Tuple) → box_at R n ≡ Some b → b.complete ≡ true → b.is_user ≡ true → clause_of P c ≡ Some rule → IsGroundTuple t → IsTupleInstance t rule
      → IsInstance t.head b.atom → (r : Reached P R sound full n t 0) × (first_point R n c ≡ Some r.number)
  reached_by_clause n b c rule t box complete user there ground of_rule of_call =
      let e = (full n b box complete).enters user c rule t there ground of_rule of_call in (
        record {
          number = e.number;
          point = e.point;
          there = e.there;
          owner = e.owner;
          done = (subst (λ x. CameBy R e.number e.point x) e.first (sound.kept.made e.number e.point e.there).came).0;
          instance = e.instance;
        },
        (first-is R sound.kept n c e.number).1 (e.point, e.there, e.owner, e.clause, e.first),
      )

  -- a goal without an exit is the next
  next_here : (s : Unanswered) (store : Store) (t : Tuple) (d : ℕ) (a : Term) → AllFit store → IsGround a → (r : Reached P R sound full s.box_no t d) → (c : Called P R sound full a r.number)
      → (o : Option Builtin) → builtin_of_atom a ≡ o → IsTrueBy (SaysYes store) o a → (is_none o ≡ false → HasExit R c.number a) → first_exit R a (exits R c.number) ≡ None
      → HasNext R store s (Some (record { box_no = c.number; goal = a }))
  next_here s store t d a fit ground r c (Some goal) e g exit none = absurd (has_no_exit R c.number a none (exit refl))
  next_here s store t d a fit ground r c None e g exit none =
      let k = sound.kept.called c.number c.row c.there in
      let caller : k.caller ≡ r.point = get-one (point_at R r.number) k.caller r.point (subst (λ i. point_at R i ≡ Some k.caller) c.from k.there) r.there in
      let owner : k.caller.owner ≡ s.box_no = ap (λ (q : Point). q.owner) caller ∙ r.owner in
      record {
        goal = record { box_no = c.number; goal = a };
        is = refl;
        later = omega (arith, k.earlier, owner);
        known = record {
          missing = record {
            row = c.row;
            there = c.there;
            complete = c.complete;
            of_program = e;
            has_no_variable = ground;
            instance = c.instance;
            missing = has_no_exit R c.number a none;
          };
          says = g;
          fit = fit;
        };
      }

  always_true : (store : Store) (o : Option Builtin) (a : Term) → IsTrueBy (SaysYes store) o a → is_none o ≡ false → IsAlwaysTrue a
  always_true store None a g e = absurd (cc)
  always_true store (Some goal) a g e = g

  -- on the way from a point, the first goal without an exit
  next_on_way : (s : Unanswered) (store : Store) (b : BoxRow) (t : Tuple) → box_at R s.box_no ≡ Some b → b.complete ≡ true → ¬ HasExit R s.box_no t.head → IsGroundTuple t → AllFit store
      → (atoms : List Term) (d : ℕ) → (r : Reached P R sound full s.box_no t d) → drop d t.body ≡ atoms → AllByRecursion (Affirms store) atoms → HasNext R store s (walk R atoms r.number)
  next_on_way s store b t box complete none ground fit [] d r rest g = absurd (none (reached_exit P R sound full s.box_no t d r (drop_none t.body d rest)))
  next_on_way s store b t box complete none ground fit (a ∷ atoms) d r rest g =
      let goal = drop_some t.body d a atoms rest in
      let c = goal_called P R sound full s.box_no b t d a box complete r goal in
      let called : child R r.number ≡ Some c.number = (child-is R sound.kept r.number c.number).1 (c.row, c.there, c.from) in
      let is_ground : IsGround a = ground_at t.body d a (both_empty (variables t.head) (flat_map variables t.body) ground).1 goal in
      subst (λ o. HasNext R store s (from_child R (walk R atoms) r.number a o)) (sym called)
      (by c goal is_ground (first_exit R a (exits R c.number)) refl
      (λ q. next_on_way s store b t box complete none ground fit atoms (suc d) q (drop_next t.body d a atoms rest) g.1))
    where
      by : (c : Called P R sound full a r.number) → slice_get t.body d ≡ Some a → IsGround a → (o : Option ℕ) → first_exit R a (exits R c.number) ≡ o
          → ((q : Reached P R sound full s.box_no t (suc d)) → HasNext R store s (walk R atoms q.number)) → HasNext R store s (at_child R (walk R atoms) r.number a c.number o)
      by c goal is_ground None e onward =
          next_here s store t d a fit is_ground r c (builtin_of_atom a) refl g.0
          (λ builtin. builtin_exit P R sound full t d a ground goal builtin (always_true store (builtin_of_atom a) a g.0 builtin) r.number c) e
      by c goal is_ground (Some e) h onward =
          let x = has_exit R c.number a e h in
          let q = reached_by_exit s.box_no b t d a box complete ground r goal c x.0 in
          subst (λ o. HasNext R store s (after_exit (walk R atoms) o)) (sym (ap (follow R r.number) (sym x.1) ∙ q.1)) (onward q.0)

  -- the record is followed to a next goal
  pub next_followed : (s : Unanswered) (store : Store) (c : ℕ) (rule t : Tuple) → IsMissing R s.box_no s.goal → AllFit store → clause_of P c ≡ Some rule → t.head ≡ s.goal → IsTupleInstance t rule
      → IsGroundTuple t → AllByRecursion (Affirms store) t.body → HasNext R store s (followed R s c t.body)
  next_followed s store c rule t m fit there head of_rule ground g =
      let user = user_call P R sound full s.box_no m.row s.goal m.there m.instance (ap is_none m.of_program) in
      let r = reached_by_clause s.box_no m.row c rule t m.there m.complete user there ground of_rule (subst (λ x. IsInstance x m.row.atom) (sym head) m.instance) in
      subst (λ o. HasNext R store s (after_exit (walk R t.body) o)) (sym r.1)
      (next_on_way s store m.row t m.there m.complete (λ x. m.missing (subst (HasExit R s.box_no) head x)) ground fit t.body 0 r.0 refl g)
