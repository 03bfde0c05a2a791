-- The tests of atoms that are true by the store and the record tell what they test.
use Rattle.std.proofs.Common.{◌≡◌, ◌↔◌, inl, inr, ◌<◌, ◌≤◌, ◌+◌, ℕ, zero, suc, Bool, true, false, List, [], ◌∷◌, length, drop, get_or, map, Option, None, Some, Result, Ok, Err, refl, sym, ap, ◌∙◌, subst, arith}
use Rattle.std.specs.Option.{unwrap_or}
use Rattle.std.specs.Prelude.{◌||◌, IsTrue, IfOk, IfSome, slice_get}
use Rattle.std.specs.List.{list_any, AllByRecursion}
use Rattle.std.specs.declared.alloc.AllocError.{AllocError}
use Rattle.std.proofs.lemmas.List.{drop_more}
use Rattle.apd_term.specs.Term.{Term, predicate_of}
use Rattle.apd_term.specs.declared.term.Pred.{Pred}
use Rattle.apd_term.specs.Matching.{is_instance}
use Rattle.apd_term.specs.Substitution.{IsInstance}
use Rattle.apd_term.specs.declared.tuple.Tuple.{Tuple}
use Rattle.apd_term.proofs.Opposite.{is_instance-is}
use Rattle.apd_arith.specs.Builtins.{builtin_of_atom}
use Rattle.apd_arith.specs.Truths.{is_true_atom}
use Rattle.apd_arith.specs.declared.goal.Builtin.{Builtin}
use Rattle.apd_ports.specs.declared.point.Point.{Point}
use Rattle.apd_ports.specs.declared.point.PointId.{PointId}
use Rattle.apd_ports.specs.Filter.{is_predicate}
use Rattle.apd_record.specs.Full.{HasExit}
use Rattle.apd_record.specs.Index.{id_of}
use Rattle.apd_record.specs.Reading.{no_point, point_of}
use Rattle.apd_record.specs.Recorded.{Recorded, box_at, exits, point_at}
use Rattle.apd_record.specs.Sound.{clause_of}
use Rattle.apd_record.specs.declared.rows.BoxRow.{BoxRow}
use Rattle.apd_record.proofs.Readers.{exits-are}
use Rattle.apd_answers.specs.Findings.{IsTrueWhere, IsWrongByReplies}
use Rattle.apd_answers.specs.Store.{Store}
use Rattle.apd_answers.specs.Trust.{IsAnswered, IsGranted, is_trusted}
use Rattle.apd_findings.specs.Calling.{IsBox}
use Rattle.apd_findings.specs.Deciding.{is_instance_of, says_no, says_yes}
use Rattle.apd_findings.specs.Granting.{IsAnsweredIn, is_exit_for}
use Rattle.apd_index.proofs.Telling.{among-any, any-among}
use Rattle.apd_findings.proofs.Tests.{instance_of-is, says_no-is, says_yes-is, stands-is}

-- Exits.

pub point_tuple : (R : Recorded) (e : ℕ) (t : Tuple) → e < length R.points → IfSome (slice_get R.points e) (λ (x : Point). t ≡ x.tuple) → t ≡ (point_of R e).tuple
point_tuple R e t l h = by R.points e l h
  where
    by : (ps : List Point) (i : ℕ) → i < length ps → IfSome (slice_get ps i) (λ (x : Point). t ≡ x.tuple) → t ≡ (unwrap_or (slice_get ps i) no_point).tuple
    by [] i l h = absurd (omega (arith, l))
    by (p ∷ ps) zero l h = h
    by (p ∷ ps) (suc i) l h = by ps i (omega (arith, l)) h

point-is : (R : Recorded) (e : ℕ) (p : Point) → point_at R e ≡ Some p → point_of R e ≡ p
point-is R e p h = ap (λ o. unwrap_or o no_point) h

has_exit-is : (R : Recorded) (n : ℕ) (a : Term) → list_any (is_exit_for R a) (exits R n) ≡ true ↔ HasExit R n a
has_exit-is R n a = (
  λ h. (let k = any-among (is_exit_for R a) (exits R n) h in
      let there = (exits-are R n k.0).0 k.1 in
      record {
        number = k.0;
        point = there.0;
        there = there.1;
        owner = there.2;
        is_exit = there.3;
        instance = subst (λ (p : Point). IsInstance a p.tuple.head) (point-is R k.0 there.0 there.1) ((is_instance-is a (point_of R k.0).tuple.head).0 k.2);
      }),
  λ x. (let among = (exits-are R n x.number).1 (x.point, x.there, x.owner, x.is_exit) in
      among-any (is_exit_for R a) (exits R n) x.number among
      ((is_instance-is a (point_of R x.number).tuple.head).1 (subst (λ (p : Point). IsInstance a p.tuple.head) (sym (point-is R x.number x.point x.there)) x.instance))),
)

ids_at : (es : List ℕ) (i : ℕ) → i < length es → get_or (map id_of es) i (id_of 0) ≡ id_of (get_or es i 0)
ids_at [] i l = absurd (omega (arith, l))
ids_at (e ∷ es) zero l = refl
ids_at (e ∷ es) (suc i) l = ids_at es i (omega (arith, l))

length_ids : (es : List ℕ) → length (map id_of es) ≡ length es
length_ids [] = refl
length_ids (e ∷ es) = ap suc (length_ids es)

exit-step : (test : ℕ → Bool) (es : List ℕ) (ps : List PointId) (i : ℕ) → ps ≡ map id_of es → i < length ps → list_any test (drop i es) ≡ (test (get_or ps i (id_of 0)).0 || list_any test (drop (i + 1) es))
exit-step test es ps i e l =
    let same : length ps ≡ length es = ap length e ∙ length_ids es in
    let short : i < length es = omega (arith, l, same) in
    let at : get_or ps i (id_of 0) ≡ id_of (get_or es i 0) = ap (λ (qs : List PointId). get_or qs i (id_of 0)) e ∙ ids_at es i short in
    let here : (get_or ps i (id_of 0)).0 ≡ get_or es i 0 = ap (λ (p : PointId). p.0) at in
    ap (list_any test) (drop_more es i 0 short) ∙ ap (λ (x : ℕ). test x || list_any test (drop (i + 1) es)) (sym here)

module _ (R : Recorded) (n : ℕ) (a : Term) (ps : List PointId) (i : ℕ) (t : Tuple) (b : Bool) (e : ps ≡ map id_of (exits R n)) (l : i < length ps)
    (so_far : list_any (is_exit_for R a) (exits R n) ≡ list_any (is_exit_for R a) (drop i (exits R n))) (tuple : t ≡ (point_of R (get_or ps i (id_of 0)).0).tuple) (test : b ≡ is_instance a t.head) where
  here-is : is_exit_for R a (get_or ps i (id_of 0)).0 ≡ b
  here-is = ap (λ (u : Tuple). is_instance a u.head) (sym tuple) ∙ sym test

  pub exit-found : b ≡ true → true ≡ true ↔ HasExit R n a
  exit-found is =
      let found : list_any (is_exit_for R a) (exits R n) ≡ true =
      so_far ∙ exit-step (is_exit_for R a) (exits R n) ps i e l ∙ ap (λ (x : Bool). x || list_any (is_exit_for R a) (drop (i + 1) (exits R n))) (here-is ∙ is) in
      (λ k. (has_exit-is R n a).0 found, λ k. refl)

  pub exit-passed : b ≡ false → list_any (is_exit_for R a) (exits R n) ≡ list_any (is_exit_for R a) (drop (i + 1) (exits R n))
  exit-passed is =
      so_far ∙ exit-step (is_exit_for R a) (exits R n) ps i e l ∙ ap (λ (x : Bool). x || list_any (is_exit_for R a) (drop (i + 1) (exits R n))) (here-is ∙ is)

none-of : (test : ℕ → Bool) (es : List ℕ) (i : ℕ) → length es ≤ i → list_any test (drop i es) ≡ false
none-of test [] zero l = refl
none-of test [] (suc i) l = refl
none-of test (e ∷ es) zero l = absurd (omega (arith, l))
none-of test (e ∷ es) (suc i) l = none-of test es i (omega (arith, l))

pub exit-nowhere : (R : Recorded) (n : ℕ) (a : Term) (ps : List PointId) (i : ℕ) → ps ≡ map id_of (exits R n) → length ps ≤ i
    → list_any (is_exit_for R a) (exits R n) ≡ list_any (is_exit_for R a) (drop i (exits R n)) → false ≡ true ↔ HasExit R n a
exit-nowhere R n a ps i e l so_far =
    let same : length ps ≡ length (exits R n) = ap length e ∙ length_ids (exits R n) in
    let none : list_any (is_exit_for R a) (exits R n) ≡ false = so_far ∙ none-of (is_exit_for R a) (exits R n) i (omega (arith, l, same)) in (
      λ k. absurd (cc),
      λ x. absurd (let h : false ≡ true = sym none ∙ (has_exit-is R n a).1 x in cc),
    )

-- Boxes.

row-at : (R : Recorded) (n : ℕ) → IsBox R n → (row : BoxRow) × (box_at R n ≡ Some row)
row-at R zero b = absurd (let l = b.0 in omega (arith, l))
row-at R (suc i) b = by R.boxes i b.1
  where
    by : (rows : List BoxRow) (i : ℕ) → suc i ≤ length rows → (row : BoxRow) × (slice_get rows i ≡ Some row)
    by [] i l = absurd (omega (arith, l))
    by (r ∷ rows) zero l = (r, refl)
    by (r ∷ rows) (suc i) l = by rows i (omega (arith, l))

user-is : (R : Recorded) (n : ℕ) (row : BoxRow) (u : Bool) → box_at R n ≡ Some row → IfSome (box_at R n) (λ (r : BoxRow). u ≡ r.is_user) → u ≡ row.is_user
user-is R n row u there h = subst (λ (o : Option BoxRow). IfSome o (λ (r : BoxRow). u ≡ r.is_user)) there h

pub not-own : (R : Recorded) (n : ℕ) (a : Term) (u : Bool) → IfSome (box_at R n) (λ (r : BoxRow). u ≡ r.is_user) → u ≡ false → false ≡ true ↔ IsAnsweredIn R a n
not-own R n a u h not = (
  λ k. absurd (cc),
  λ w. absurd (let t : true ≡ false = sym w.user ∙ sym (user-is R n w.row u w.there h) ∙ not in cc),
)

pub own-by : (R : Recorded) (n : ℕ) (a : Term) (u : Bool) (r : Result Bool AllocError) → IsBox R n → IfSome (box_at R n) (λ (r : BoxRow). u ≡ r.is_user) → u ≡ true
    → IfOk r (λ b. IsTrue b ↔ HasExit R n a) → IfOk r (λ b. IsTrue b ↔ IsAnsweredIn R a n)
own-by R n a u (Ok b) at h own test =
    let k = row-at R n at in
    (λ t. record { row = k.0; there = k.1; user = sym (user-is R n k.0 u k.1 h) ∙ own; exit = test.0 t }, λ w. test.1 w.exit)
own-by R n a u (Err e) at h own test = tt

pub answered-here : (R : Recorded) (a : Term) (n : ℕ) (b : Bool) → b ≡ true ↔ IsAnsweredIn R a n → b ≡ true → true ≡ true ↔ IsAnswered R a
answered-here R a n b test is =
    let w = test.0 is in
    (λ k. record { number = n; row = w.row; there = w.there; user = w.user; exit = w.exit }, λ k. refl)

pub none-answered : (R : Recorded) (a : Term) (i : ℕ) → length R.boxes ≤ i → ((j : ℕ) → j < i → ¬ IsAnsweredIn R a (j + 1)) → false ≡ true ↔ IsAnswered R a
none-answered R a i l before = (λ k. absurd (cc), λ w. absurd (by w.number w.row w.there w.user w.exit))
  where
    within : (rows : List BoxRow) (j : ℕ) (row : BoxRow) → slice_get rows j ≡ Some row → j < length rows
    within [] j row e = absurd (cc)
    within (r ∷ rows) zero row e = omega arith
    within (r ∷ rows) (suc j) row e = let h = within rows j row e in omega (arith, h)

    by : (n : ℕ) (row : BoxRow) → box_at R n ≡ Some row → row.is_user ≡ true → HasExit R n a → ⊥
    by zero row there user exit = cc
    by (suc j) row there user exit =
        let k = within R.boxes j row there in
        let next : suc j ≡ j + 1 = omega arith in
        before j (omega (arith, k, l)) (subst (IsAnsweredIn R a) next (record { row = row; there = there; user = user; exit = exit }))

-- Atoms.

-- an atom without a predicate is of none that is trusted
pub no-predicate : (a : Term) (preds : List Pred) → predicate_of a ≡ None → false ≡ is_trusted preds a
no-predicate a preds e = subst (λ (o : Option Pred). false ≡ list_any (is_predicate o) preds) (sym e) (none preds)
  where
    none : (ps : List Pred) → false ≡ list_any (is_predicate None) ps
    none [] = refl
    none (p ∷ ps) = none ps

pub granted-yes : (R : Recorded) (store : Store) (a : Term) (b : Bool) → b ≡ says_yes store a → b ≡ true → true ≡ true ↔ IsGranted R store a
granted-yes R store a b e f = (λ k. inl ((says_yes-is store a).0 (sym e ∙ f)), λ k. refl)

unsaid : (store : Store) (a : Term) (b : Bool) (C : Type 0) → b ≡ says_yes store a → b ≡ false → says_yes store a ≡ true → C
unsaid store a b C e f says = absurd (let t : true ≡ false = sym says ∙ sym e ∙ f in cc)

pub granted-not : (R : Recorded) (store : Store) (a : Term) (b t : Bool) → b ≡ says_yes store a → b ≡ false → t ≡ is_trusted store.trusted a → t ≡ false → false ≡ true ↔ IsGranted R store a
granted-not R store a b t e f g h = (
  λ k. absurd (cc),
  λ w. elim w [ inl y ↦ unsaid store a b _ e f ((says_yes-is store a).1 y) | inr z ↦ absurd (let u : true ≡ false = sym z.0 ∙ sym g ∙ h in cc) ],
)

pub granted-by : (R : Recorded) (store : Store) (a : Term) (b t : Bool) (r : Result Bool AllocError) → b ≡ says_yes store a → b ≡ false → t ≡ is_trusted store.trusted a → t ≡ true
    → IfOk r (λ x. IsTrue x ↔ IsAnswered R a) → IfOk r (λ x. IsTrue x ↔ IsGranted R store a)
granted-by R store a b t (Ok x) e f g h test = (
  λ k. inr (sym g ∙ h, test.0 k),
  λ w. elim w [ inl y ↦ unsaid store a b _ e f ((says_yes-is store a).1 y) | inr z ↦ test.1 z.1 ],
)
granted-by R store a b t (Err x) e f g h test = tt

module _ (IsKnown : Term → Type 0) where
  pub where-builtin : (a : Term) (o : Option Builtin) (g : Builtin) (r : Result Bool AllocError) → o ≡ builtin_of_atom a → o ≡ Some g → IfOk r (λ b. b ≡ is_true_atom a) → IfOk r (λ b. IsTrue b ↔ IsTrueWhere IsKnown a)
  where-builtin a o g (Ok b) e f h = rw (sym e ∙ f) (λ k. (stands-is a).0 (sym h ∙ k), λ w. h ∙ (stands-is a).1 w)
  where-builtin a o g (Err x) e f h = tt

  pub where-own : (a : Term) (o : Option Builtin) (r : Result Bool AllocError) → o ≡ builtin_of_atom a → o ≡ None → IfOk r (λ b. IsTrue b ↔ IsKnown a) → IfOk r (λ b. IsTrue b ↔ IsTrueWhere IsKnown a)
  where-own a o (Ok b) e f h = rw (sym e ∙ f) h
  where-own a o (Err x) e f h = tt

-- Wrong instances.

module _ (P : List Tuple) (R : Recorded) (store : Store) (clause : ℕ) (t : Tuple) where
  abbrev Body : Type 0
  Body = AllByRecursion (IsTrueWhere (IsGranted R store)) t.body

  pub no-instance : (b : Bool) → b ≡ is_instance_of t (clause_of P clause) → b ≡ false → false ≡ true ↔ IsWrongByReplies P R store clause t
  no-instance b e f = (λ k. absurd (cc), λ w. absurd (let u : true ≡ false = sym ((instance_of-is t (clause_of P clause)).1 w.of_clause) ∙ sym e ∙ f in cc))

  pub no-body : (b : Bool) → b ≡ true ↔ Body → b ≡ false → false ≡ true ↔ IsWrongByReplies P R store clause t
  no-body b test f = (λ k. absurd (cc), λ w. absurd (let u : true ≡ false = sym (test.1 w.body) ∙ f in cc))

  pub wrong-if : (a b : Bool) (r : Result Bool AllocError) → a ≡ is_instance_of t (clause_of P clause) → a ≡ true → b ≡ true ↔ Body → b ≡ true → IfOk r (λ x. x ≡ says_no store t.head)
      → IfOk r (λ x. IsTrue x ↔ IsWrongByReplies P R store clause t)
  wrong-if a b (Ok x) e f test g h = (
    λ k. record { of_clause = (instance_of-is t (clause_of P clause)).0 (sym e ∙ f); body = test.0 g; head = (says_no-is store t.head).0 (sym h ∙ k) },
    λ w. h ∙ (says_no-is store t.head).1 w.head,
  )
  wrong-if a b (Err x) e f test g h = tt
