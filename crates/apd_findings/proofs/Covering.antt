-- Of a program's clauses those may cover a goal that are of its predicate, and whose first arguments begin as its own does.
use Rattle.std.proofs.Common.{◌≡◌, ℕ, zero, suc, ◌+◌, ◌-◌, ◌<◌, ◌≤◌, ◌&&◌, Bool, true, false, if◌then◌else◌, List, [], ◌∷◌, length, drop, get_or, Option, Some, None, add-one, refl, sym, ◌∙◌, ap, subst, arith}
use Rattle.std.specs.Prelude.{All, slice_get}
use Rattle.std.specs.List.{list_all}
use Rattle.std.proofs.Math.Seq.{drop-cons}
use Rattle.std.proofs.lemmas.List.Elements.{All-head, All-tail}
use Rattle.std.proofs.lemmas.Option.{get_or_from_slice_get, slice_get-get_or, slice_get_within}
use Rattle.std.proofs.lemmas.List.{drop_all}
use Rattle.apd_record.proofs.Atoms.{predicate-apply}
use Rattle.apd_term.specs.Substitution.{IsInstance}
use Rattle.apd_term.specs.Term.{Term, predicate_of}
use Rattle.apd_term.specs.declared.term.Pred.{Pred}
use Rattle.apd_term.specs.declared.term.Sym.{Sym}
use Rattle.apd_term.specs.declared.tuple.Tuple.{Tuple}
use Rattle.apd_cells.specs.First.{AreClashing, key_of}
use Rattle.apd_unify.proofs.Beginning.{key_of-apply}
use Rattle.apd_clauses.specs.Clauses.{IsClause, IsProgram, clause_at, clauses_from, is_for, is_pred, numbers_of, tuples_of}
use Rattle.apd_clauses.specs.Marks.{PassesOver}
use Rattle.apd_clauses.specs.declared.clause.Clause.{Clause}
use Rattle.apd_clauses.proofs.Indexing.{same_pred-self}
use Rattle.apd_clauses.proofs.Pure.{no_user}
use Rattle.apd_clauses.proofs.Numbers.{IsNumberOf, number_of, same_count}
use Rattle.apd_answers.specs.Store.{Store}
use Rattle.apd_findings.specs.Deciding.{covers_not}
use Rattle.apd_findings.proofs.Clauses.{no_instance}

-- Numbers of clauses.

module _ (p : Pred) (cs : List Clause) (numbers : List ℕ) (at : ℕ) (is : numbers ≡ numbers_of p cs) (within : at < length numbers) where
  number : IsNumberOf 1 (clauses_from 1 p (tuples_of cs)) cs at (get_or numbers at 0)
  number = number_of 1 p cs at (get_or numbers at 0) (ap (λ ns. slice_get ns at) (sym is) ∙ slice_get-get_or numbers at 0 within)

  pub number_positive : 0 < get_or numbers at 0
  number_positive = omega (arith, number.number)

  pub number_within : get_or numbers at 0 ≤ length cs
  number_within = omega (arith, number.number, slice_get_within cs number.index number.clause number.there)

  clause_found : (c : Clause) → clause_at cs (get_or numbers at 0) ≡ Some c → slice_get cs number.index ≡ Some c
  clause_found c found = let place : get_or numbers at 0 ≡ suc number.index = omega (arith, number.number) in subst (λ j. clause_at cs j ≡ Some c) place found

  number_among : (c : Clause) → clause_at cs (get_or numbers at 0) ≡ Some c → slice_get (clauses_from 1 p (tuples_of cs)) at ≡ Some (get_or numbers at 0, c.tuple)
  number_among c found =
      let e : Some number.clause ≡ Some c = sym number.there ∙ clause_found c found in
      let one : number.clause ≡ c = cc in
      number.among ∙ ap (λ (d : Clause). Some (get_or numbers at 0, d.tuple)) one

-- a list from the place of an item on, and from a place behind its end on
cut : {X : Type 0} (xs : List X) (j : ℕ) (x : X) → slice_get xs j ≡ Some x → drop j xs ≡ x ∷ drop (j + 1) xs
cut xs j x there =
    let lt : j < length xs = slice_get_within xs j x there in
    let at : get_or xs j x ≡ x = get_or_from_slice_get xs j x x there in
    rw (add-one, drop-cons xs j x, at) refl

-- Clauses that can't cover the goal.

module _ (store : Store) (goal : Term) (p : Pred) (is : predicate_of goal ≡ Some p) where
  another : (c : Clause) → IsClause c.tuple → is_for p c ≡ false → true ≡ covers_not store goal c.tuple
  another c clause other = no_instance store goal c.tuple (λ i. by (predicate_of c.tuple.head) refl other i)
    where
      by : (o : Option Pred) → predicate_of c.tuple.head ≡ o → is_pred o p ≡ false → IsInstance goal c.tuple.head → ⊥
      by None e f i = no_user c.tuple.head e clause.head
      by (Some q) e f i =
          let one : Some q ≡ Some p = sym (predicate-apply i.0 c.tuple.head q e) ∙ ap predicate_of i.1 ∙ is in
          let same : q ≡ p = cc in
          (let wrong : true ≡ false = sym (same_pred-self p) ∙ ap (λ (r : Pred). is_pred (Some r) p) (sym same) ∙ f in cc)

  clashes : (t : Tuple) → AreClashing (key_of goal) (key_of t.head) → true ≡ covers_not store goal t
  clashes t clash = no_instance store goal t (λ i. clash.different (ap key_of (sym i.1) ∙ key_of-apply i.0 t.head clash.right))

  of_predicate : (n : ℕ) (cs : List Clause) → All (λ (c : Clause). IsClause c.tuple) cs → list_all (covers_not store goal) (tuples_of cs) ≡ list_all (λ (x : ℕ × Tuple). covers_not store goal x.1) (clauses_from n p (tuples_of cs))
  of_predicate n [] all = refl
  of_predicate n (c ∷ cs) all = by (is_for p c) refl (of_predicate (n + 1) cs (All-tail (λ (d : Clause). IsClause d.tuple) c cs all))
    where
      by : (b : Bool) → is_for p c ≡ b → list_all (covers_not store goal) (tuples_of cs) ≡ list_all (λ (x : ℕ × Tuple). covers_not store goal x.1) (clauses_from (n + 1) p (tuples_of cs))
          → (covers_not store goal c.tuple && list_all (covers_not store goal) (tuples_of cs))
          ≡ list_all (λ (x : ℕ × Tuple). covers_not store goal x.1) (if b then (n, c.tuple) ∷ clauses_from (n + 1) p (tuples_of cs) else clauses_from (n + 1) p (tuples_of cs))
      by true e h = ap (λ b. covers_not store goal c.tuple && b) h
      by false e h = ap (λ b. b && list_all (covers_not store goal) (tuples_of cs)) (sym (another c (All-head (λ (d : Clause). IsClause d.tuple) c cs all) e)) ∙ h

  -- all from a place on, as from another, where those between can't
  passed : (xs : List (ℕ × Tuple)) (d i : ℕ) → ((k : ℕ) (c : ℕ × Tuple) → i ≤ k → k < i + d → slice_get xs k ≡ Some c → true ≡ covers_not store goal c.1)
      → list_all (λ (x : ℕ × Tuple). covers_not store goal x.1) (drop i xs) ≡ list_all (λ (x : ℕ × Tuple). covers_not store goal x.1) (drop (i + d) xs)
  passed xs zero i none = let e : i ≡ i + 0 = omega arith in ap (λ j. list_all (λ (x : ℕ × Tuple). covers_not store goal x.1) (drop j xs)) e
  passed xs (suc d) i none =
      one (slice_get xs i) refl ∙ passed xs d (i + 1) (λ k c le lt e. none k c (omega (arith, le)) (omega (arith, lt)) e)
      ∙ ap (λ j. list_all (λ (x : ℕ × Tuple). covers_not store goal x.1) (drop j xs)) (let e : (i + 1) + d ≡ i + suc d = omega arith in e)
    where
      gone : {X : Type 0} (xs : List X) (j : ℕ) → slice_get xs j ≡ None → length xs ≤ j
      gone [] j e = omega arith
      gone (x ∷ xs) zero e = cc
      gone (x ∷ xs) (suc j) e = let h = gone xs j e in omega (arith, h)

      one : (o : Option (ℕ × Tuple)) → slice_get xs i ≡ o → list_all (λ (x : ℕ × Tuple). covers_not store goal x.1) (drop i xs) ≡ list_all (λ (x : ℕ × Tuple). covers_not store goal x.1) (drop (i + 1) xs)
      one None e = let l = gone xs i e in ap (list_all (λ (x : ℕ × Tuple). covers_not store goal x.1)) (drop_all i xs l ∙ sym (drop_all (i + 1) xs (omega (arith, l))))
      one (Some c) e =
          ap (list_all (λ (x : ℕ × Tuple). covers_not store goal x.1)) (cut xs i c e)
          ∙ ap (λ b. b && list_all (λ (x : ℕ × Tuple). covers_not store goal x.1) (drop (i + 1) xs)) (sym (none i c (omega arith) (omega arith) e))

  pub skip : (cs : List Clause) (key : Sym) (i j : ℕ) → key ≡ key_of goal → i ≤ j → PassesOver cs p key i j
      → list_all (λ (x : ℕ × Tuple). covers_not store goal x.1) (drop i (clauses_from 1 p (tuples_of cs))) ≡ list_all (λ (x : ℕ × Tuple). covers_not store goal x.1) (drop j (clauses_from 1 p (tuples_of cs)))
  skip cs key i j e le passes =
      let all = passed (clauses_from 1 p (tuples_of cs)) (j - i) i (λ k c from to there. clashes c.1 (subst (λ x. AreClashing x (key_of c.1.head)) e (passes k c from (omega (arith, to, le)) there))) in
      all ∙ ap (λ k. list_all (λ (x : ℕ × Tuple). covers_not store goal x.1) (drop k (clauses_from 1 p (tuples_of cs)))) (let f : i + (j - i) ≡ j = omega (arith, le) in f)

  pub begins : (cs : List Clause) (key : Sym) (j : ℕ) → IsProgram cs → key ≡ key_of goal → PassesOver cs p key 0 j
      → list_all (covers_not store goal) (tuples_of cs) ≡ list_all (λ (x : ℕ × Tuple). covers_not store goal x.1) (drop j (clauses_from 1 p (tuples_of cs)))
  begins cs key j program e passes = of_predicate 1 cs program.clauses ∙ skip cs key 0 j e (omega arith) passes

  module _ (cs : List Clause) (numbers : List ℕ) (at : ℕ) (numbers_are : numbers ≡ numbers_of p cs)
      (so_far : list_all (covers_not store goal) (tuples_of cs) ≡ list_all (λ (x : ℕ × Tuple). covers_not store goal x.1) (drop at (clauses_from 1 p (tuples_of cs)))) where
    next : (within : at < length numbers) (c : Clause) → clause_at cs (get_or numbers at 0) ≡ Some c
        → list_all (covers_not store goal) (tuples_of cs) ≡ (covers_not store goal c.tuple && list_all (λ (x : ℕ × Tuple). covers_not store goal x.1) (drop (at + 1) (clauses_from 1 p (tuples_of cs))))
    next within c found =
        so_far ∙ ap (list_all (λ (x : ℕ × Tuple). covers_not store goal x.1)) (cut (clauses_from 1 p (tuples_of cs)) at (get_or numbers at 0, c.tuple) (number_among p cs numbers at numbers_are within c found))

    pub covers : (within : at < length numbers) (c : Clause) (b : Bool) → clause_at cs (get_or numbers at 0) ≡ Some c → b ≡ covers_not store goal c.tuple → b ≡ false → false ≡ list_all (covers_not store goal) (tuples_of cs)
    covers within c b found e f = sym (next within c found ∙ ap (λ x. x && list_all (λ (x : ℕ × Tuple). covers_not store goal x.1) (drop (at + 1) (clauses_from 1 p (tuples_of cs)))) (sym e ∙ f))

    pub goes : (within : at < length numbers) (c : Clause) (b : Bool) (key : Sym) (j : ℕ) → clause_at cs (get_or numbers at 0) ≡ Some c → b ≡ covers_not store goal c.tuple → b ≡ true
        → key ≡ key_of goal → at + 1 ≤ j → PassesOver cs p key (at + 1) j
        → list_all (covers_not store goal) (tuples_of cs) ≡ list_all (λ (x : ℕ × Tuple). covers_not store goal x.1) (drop j (clauses_from 1 p (tuples_of cs)))
    goes within c b key j found e f k le passes =
        next within c found ∙ ap (λ x. x && list_all (λ (x : ℕ × Tuple). covers_not store goal x.1) (drop (at + 1) (clauses_from 1 p (tuples_of cs)))) (sym e ∙ f)
        ∙ skip cs key (at + 1) j k le passes

    pub ends : length numbers ≤ at → true ≡ list_all (covers_not store goal) (tuples_of cs)
    ends l =
        let count : length (clauses_from 1 p (tuples_of cs)) ≡ length numbers = same_count 1 p cs ∙ ap length (sym numbers_are) in
        sym (so_far ∙ ap (list_all (λ (x : ℕ × Tuple). covers_not store goal x.1)) (drop_all at (clauses_from 1 p (tuples_of cs)) (omega (arith, l, count))))

-- a goal that is no atom, and a program without clauses
pub no_atom : (store : Store) (goal : Term) (cs : List Clause) → predicate_of goal ≡ None → IsProgram cs → true ≡ list_all (covers_not store goal) (tuples_of cs)
no_atom store goal cs e program = by cs program.clauses
  where
    by : (cs : List Clause) → All (λ (c : Clause). IsClause c.tuple) cs → true ≡ list_all (covers_not store goal) (tuples_of cs)
    by [] all = refl
    by (c ∷ cs) all =
        let here : true ≡ covers_not store goal c.tuple = no_instance store goal c.tuple (λ i. none (predicate_of c.tuple.head) refl (All-head (λ (d : Clause). IsClause d.tuple) c cs all) i) in
        by cs (All-tail (λ (d : Clause). IsClause d.tuple) c cs all) ∙ ap (λ b. b && list_all (covers_not store goal) (tuples_of cs)) here
      where
        none : (o : Option Pred) → predicate_of c.tuple.head ≡ o → IsClause c.tuple → IsInstance goal c.tuple.head → ⊥
        none None f clause i = no_user c.tuple.head f clause.head
        none (Some q) f clause i = (let one : Some q ≡ None = sym (predicate-apply i.0 c.tuple.head q f) ∙ ap predicate_of i.1 ∙ e in cc)
