-- Which of a predicate's clauses may be passed over, by the numbers with their marks.
use Rattle.std.proofs.Common.{◌≡◌, ◌≢◌, ℕ, ◌+◌, ◌<◌, ◌≤◌, zero, suc, Bool, true, false, List, [], ◌∷◌, ◌++◌, get_or, refl, sym, subst, ◌∙◌, ap, arith, Option, Some, None, eq-eqb}
use Rattle.std.specs.Prelude.{if◌then◌else◌, All, IfSome, nat_eq, slice_get}
use Rattle.std.specs.List.Sorted.{IsNonDecreasing}
use Rattle.std.proofs.lemmas.List.Elements.{All-cons, All-head, All-tail, All-weaker}
use Rattle.std.proofs.lemmas.Option.{get_or_from_slice_get, slice_get_within}
use Rattle.apd_term.specs.Term.{predicate_of}
use Rattle.apd_term.specs.declared.term.Pred.{Pred}
use Rattle.apd_term.specs.declared.term.Sym.{Sym}
use Rattle.apd_term.specs.declared.term.Sym.TheVariants.{Var}
use Rattle.apd_term.specs.declared.tuple.Tuple.{Tuple}
use Rattle.apd_cells.specs.First.{AreClashing, IsFixed, key_of}
use Rattle.apd_clauses.specs.declared.clause.Clause.{Clause}
use Rattle.apd_clauses.specs.Clauses.{clauses_from, is_for, is_pred, numbers_from, numbers_of, tuples_of}
use Rattle.apd_clauses.specs.Marks.{IsFirstFrom, PassesOver, mark_by, mark_for, mark_of, marked, numbers_where}
use Rattle.apd_clauses.proofs.Indexing.{same_pred-true}

-- Numbers of clauses rise.

least_where : (n : ℕ) (t : Clause → Bool) (cs : List Clause) → All (λ x. n ≤ x) (numbers_where n t cs)
least_where n t [] = λ k d within. absurd (omega arith)
least_where n t (c ∷ cs) = either (t c) (All-weaker (λ x. n + 1 ≤ x) (λ x. n ≤ x) (λ x h. omega (arith, h)) (numbers_where (n + 1) t cs) (least_where (n + 1) t cs))
  where
    either : (b : Bool) → All (λ x. n ≤ x) (numbers_where (n + 1) t cs) → All (λ x. n ≤ x) (if b then n ∷ numbers_where (n + 1) t cs else numbers_where (n + 1) t cs)
    either true rest = All-cons (λ x. n ≤ x) n (numbers_where (n + 1) t cs) (omega arith) rest
    either false rest = rest

rises-cons : (n : ℕ) (xs : List ℕ) → All (λ x. n ≤ x) xs → IsNonDecreasing xs → IsNonDecreasing (n ∷ xs)
rises-cons n xs least rest zero zero d le within = omega arith
rises-cons n xs least rest zero (suc j) d le within = least j d (omega (arith, within))
rises-cons n xs least rest (suc i) zero d le within = absurd (omega (arith, le))
rises-cons n xs least rest (suc i) (suc j) d le within = rest i j d (omega (arith, le)) (omega (arith, within))

rises_where : (n : ℕ) (t : Clause → Bool) (cs : List Clause) → IsNonDecreasing (numbers_where n t cs)
rises_where n t [] = λ i j d le within. absurd (omega arith)
rises_where n t (c ∷ cs) = either (t c) (rises_where (n + 1) t cs)
  where
    either : (b : Bool) → IsNonDecreasing (numbers_where (n + 1) t cs) → IsNonDecreasing (if b then n ∷ numbers_where (n + 1) t cs else numbers_where (n + 1) t cs)
    either true rest =
        rises-cons n (numbers_where (n + 1) t cs) (All-weaker (λ x. n + 1 ≤ x) (λ x. n ≤ x) (λ x h. omega (arith, h)) (numbers_where (n + 1) t cs) (least_where (n + 1) t cs)) rest
    either false rest = rest

of_predicate : (n : ℕ) (p : Pred) (cs : List Clause) → numbers_where n (is_for p) cs ≡ numbers_from n p cs
of_predicate n p [] = refl
of_predicate n p (c ∷ cs) = ap (λ ys. if is_for p c then n ∷ ys else ys) (of_predicate (n + 1) p cs)

pub numbers_rise : (p : Pred) (cs : List Clause) (xs : List ℕ) → xs ≡ numbers_of p cs → IsNonDecreasing xs
numbers_rise p cs xs is = subst IsNonDecreasing (of_predicate 1 p cs ∙ sym is) (rises_where 1 (is_for p) cs)

pub marked_rise : (mark : ℕ) (cs : List Clause) (xs : List ℕ) → xs ≡ marked mark cs → IsNonDecreasing xs
marked_rise mark cs xs is = subst IsNonDecreasing (sym is) (rises_where 1 (λ c. nat_eq mark (mark_of c)) cs)

-- what holds of all numbers holds of a clause's that passes the test
number_where : (P : ℕ → Type 0) (n : ℕ) (t : Clause → Bool) (cs : List Clause) (i : ℕ) (c : Clause) → slice_get cs i ≡ Some c → t c ≡ true → All P (numbers_where n t cs) → P (n + i)
number_where P n t [] i c e passes all = cc
number_where P n t (d ∷ cs) zero c e passes all =
    let same : d ≡ c = cc in
    let here : All P (n ∷ numbers_where (n + 1) t cs) = subst (λ b. All P (if b then n ∷ numbers_where (n + 1) t cs else numbers_where (n + 1) t cs)) (ap t same ∙ passes) all in
    let place : n ≡ n + 0 = omega arith in
    subst P place (All-head P n (numbers_where (n + 1) t cs) here)
number_where P n t (d ∷ cs) (suc i) c e passes all =
    let place : (n + 1) + i ≡ n + suc i = omega arith in
    subst P place (number_where P (n + 1) t cs i c e passes (either (t d) all))
  where
    either : (b : Bool) → All P (if b then n ∷ numbers_where (n + 1) t cs else numbers_where (n + 1) t cs) → All P (numbers_where (n + 1) t cs)
    either true a = All-tail P n (numbers_where (n + 1) t cs) a
    either false a = a

-- the clause at a place among the predicate's
record IsAt (n : ℕ) (p : Pred) (cs : List Clause) (at : ℕ) (x : ℕ × Tuple) : Type 0 where
  clause : Clause
  index : ℕ
  number : x.0 ≡ n + index
  there : slice_get cs index ≡ Some clause
  tuple : clause.tuple ≡ x.1
  own : is_for p clause ≡ true
  among : slice_get (numbers_from n p cs) at ≡ Some x.0

-- the same with one clause more in front
behind : (n : ℕ) (p : Pred) (c : Clause) (ns : List ℕ) (cs : List Clause) (at at' : ℕ) (x : ℕ × Tuple) → IsAt (n + 1) p cs at x
    → slice_get ns at' ≡ slice_get (numbers_from (n + 1) p cs) at → ns ≡ numbers_from n p (c ∷ cs) → IsAt n p (c ∷ cs) at' x
behind n p c ns cs at at' x h same is =
    record {
      clause = h.clause;
      index = suc h.index;
      number = omega (arith, h.number);
      there = h.there;
      tuple = h.tuple;
      own = h.own;
      among = ap (λ ys. slice_get ys at') (sym is) ∙ same ∙ h.among;
    }

is_at : (n : ℕ) (p : Pred) (cs : List Clause) (at : ℕ) (x : ℕ × Tuple) → slice_get (clauses_from n p (tuples_of cs)) at ≡ Some x → IsAt n p cs at x
is_at n p [] at x e = cc
is_at n p (c ∷ cs) at x e = either (is_for p c) refl at e (λ at' e'. is_at (n + 1) p cs at' x e')
  where
    ns : List ℕ
    ns = numbers_from (n + 1) p cs

    either : (b : Bool) → is_for p c ≡ b → (at : ℕ) → slice_get (if b then (n, c.tuple) ∷ clauses_from (n + 1) p (tuples_of cs) else clauses_from (n + 1) p (tuples_of cs)) at ≡ Some x
        → ((at' : ℕ) → slice_get (clauses_from (n + 1) p (tuples_of cs)) at' ≡ Some x → IsAt (n + 1) p cs at' x) → IsAt n p (c ∷ cs) at x
    either true own zero e' later =
        let same : (n, c.tuple) ≡ x = cc in
        record {
          clause = c;
          index = 0;
          number = (let same_number : n ≡ x.0 = ap (λ (y : ℕ × Tuple). y.0) same in omega (arith, same_number));
          there = refl;
          tuple = ap (λ (y : ℕ × Tuple). y.1) same;
          own = own;
          among = ap (λ b. slice_get (if b then n ∷ ns else ns) 0) own ∙ ap (λ (y : ℕ × Tuple). Some y.0) same;
        }
    either true own (suc at) e' later = behind n p c (n ∷ ns) cs at (suc at) x (later at e') refl (ap (λ b. if b then n ∷ ns else ns) (sym own))
    either false own at e' later = behind n p c ns cs at at x (later at e') refl (ap (λ b. if b then n ∷ ns else ns) (sym own))

-- all variables share a mark
open_mark : (p : Pred) (v : ℕ) → mark_for p (Var v) ≡ mark_for p (Var 0)
unfolding mark_for
open_mark p v = refl

pub own_predicate : (o : Option Pred) (p : Pred) → is_pred o p ≡ true → o ≡ Some p
own_predicate None p e = cc
own_predicate (Some q) p e = ap Some (same_pred-true q p e)

-- a clause whose number has neither mark begins otherwise
clashes : (p : Pred) (key : Sym) (cs : List Clause) (m i : ℕ) (c : Clause) → IsFixed key → m ≡ 1 + i → slice_get cs i ≡ Some c → is_for p c ≡ true
    → All (λ x. x ≢ m) (marked (mark_for p key) cs) → All (λ x. x ≢ m) (marked (mark_for p (Var 0)) cs) → AreClashing key (key_of c.tuple.head)
clashes p key cs m i c fixed number there own alike free =
    record {
      different = λ e. absent (mark_for p key) alike (ap (mark_for p) (sym e));
      left = fixed;
      right = λ v e. absent (mark_for p (Var 0)) free (ap (mark_for p) e ∙ open_mark p v);
    }
  where
    mark : mark_of c ≡ mark_for p (key_of c.tuple.head)
    mark = ap (λ o. mark_by o (key_of c.tuple.head)) (own_predicate (predicate_of c.tuple.head) p own)

    absent : (k : ℕ) → All (λ x. x ≢ m) (marked k cs) → mark_for p (key_of c.tuple.head) ≡ k → ⊥
    absent k all e = number_where (λ x. x ≢ m) 1 (λ d. nat_eq k (mark_of d)) cs i c there (eq-eqb k (mark_of c) (sym e ∙ sym mark)) all (sym number)

-- a number that isn't below `least`, and is below the first of some numbers from there on, isn't among them
others : (xs : List ℕ) (least m : ℕ) (o : Option ℕ) → IsFirstFrom xs least o → least ≤ m → IfSome o (λ n. m < n) → All (λ x. x ≢ m) xs
others xs least m None all le before = All-weaker (λ x. x < least) (λ x. x ≢ m) (λ x h e. absurd (omega (arith, h, e, le))) xs all
others xs least m (Some n) first le before =
    All-weaker (λ x. least ≤ x → n ≤ x) (λ x. x ≢ m) (λ x h e. let far : n ≤ x = h (omega (arith, e, le)) in absurd (omega (arith, far, e, before))) xs first.1

All-front : (P : ℕ → Type 0) (xs ys : List ℕ) → All P (xs ++ ys) → All P xs × All P ys
All-front P [] ys all = (λ k d within. absurd (omega (arith, within)), all)
All-front P (x ∷ xs) ys all =
    let rest = All-front P xs ys (All-tail P x (xs ++ ys) all) in
    (All-cons P x xs (All-head P x (xs ++ ys) all) rest.0, rest.1)

before_all : (o : Option ℕ) (from at : ℕ) (xs : List ℕ) → IfSome o (λ n. (k : ℕ) → from ≤ k → k < at → get_or xs k 0 < n) → (k m : ℕ) → from ≤ k → k < at → m ≡ get_or xs k 0
    → IfSome o (λ n. m < n)
before_all None from at xs h k m le lt is = tt
before_all (Some n) from at xs h k m le lt is = subst (λ x. x < n) (sym is) (h k le lt)

-- the places before the first number that has one of the marks are passed over
pub passes_over : (cs : List Clause) (p : Pred) (key : Sym) (from at least : ℕ) (numbers alike free : List ℕ) (o : Option ℕ) → IsFixed key
    → numbers ≡ numbers_of p cs → alike ≡ marked (mark_for p key) cs → free ≡ marked (mark_for p (Var 0)) cs → least ≡ get_or numbers from 0
    → IsFirstFrom (alike ++ free) least o → IfSome o (λ n. (k : ℕ) → from ≤ k → k < at → get_or numbers k 0 < n) → PassesOver cs p key from at
passes_over cs p key from at least numbers alike free o fixed is is_alike is_free is_least first before k x le lt e =
    let h = is_at 1 p cs k x e in
    let there : slice_get numbers k ≡ Some x.0 = ap (λ ys. slice_get ys k) is ∙ h.among in
    let here : x.0 ≡ get_or numbers k 0 = sym (get_or_from_slice_get numbers k x.0 0 there) in
    let far : least ≤ x.0 = subst (λ y. y ≤ x.0) (sym is_least) (subst (λ y. get_or numbers from 0 ≤ y) (sym here) (numbers_rise p cs numbers is from k 0 le (slice_get_within numbers k x.0 there))) in
    let none = All-front (λ y. y ≢ x.0) alike free (others (alike ++ free) least x.0 o first far (before_all o from at numbers before k x.0 le lt here)) in
    subst (λ (t : Tuple). AreClashing key (key_of t.head)) h.tuple
    (clashes p key cs x.0 h.index h.clause fixed h.number h.there h.own (subst (All (λ y. y ≢ x.0)) is_alike none.0) (subst (All (λ y. y ≢ x.0)) is_free none.1))
