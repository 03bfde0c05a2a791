-- What a unification keeps, from one pair of terms to the next.
use Rattle.std.proofs.Common.{Some, None, ◌≡◌, inl, inr, ℕ, ◌+◌, ◌-◌, ◌<◌, List, [], ◌∷◌, ◌++◌, length, map, refl, sym, ◌∙◌, ap, subst, arith}
use Rattle.std.specs.List.{zip}
use Rattle.apd_term.specs.Term.{Term, terms_of, apply, apply_all, variables}
use Rattle.apd_term.specs.Substitution.{term_for, single, extended, followed_by}
use Rattle.apd_term.proofs.Applying.{apply-followed_by, apply-same, apply-variable}
use Rattle.apd_term.proofs.Spelling.{size_positive, length-apply_all, list_of-terms_of}
use Rattle.apd_unify.specs.Textbook.{Equation, apply_equations, size_equations}
use Rattle.apd_unify.specs.Unifier.{HasNoUnifier}
use Rattle.apd_unify.proofs.Rounds.{IsRound, UnifiesAll, apply_equations-append, first_round, last_round, term_for-extended, length-extended}
use Rattle.apd_unify.proofs.Rules.{Eliminates, Decomposes, decomposes, eliminates_left, eliminates_right}
use Rattle.apd_unify.proofs.Textbook.{deleted_round, decomposed_round, eliminated_round}
use Rattle.apd_unify.proofs.Measure.{most_steps, most_steps-lt, steps_eliminated}
use Rattle.apd_cells.specs.declared.heap.TrailNote.TheVariants.{Bound}
use Rattle.apd_unify.specs.declared.unify.Pairs.{Pairs}
use Rattle.apd_unify.specs.declared.unify.PairOutcome.{PairOutcome}
use Rattle.apd_unify.specs.declared.unify.PairOutcome.TheVariants.{Equal, Clash, Arguments, Bound as BoundOne}
use Rattle.apd_cells.specs.Stored.{Stored}
use Rattle.apd_cells.specs.Store.{written, meaning, term_at, bound, Keeps, IsStore}
use Rattle.apd_unify.specs.Unified.{IsUnified}
use Rattle.apd_cells.specs.Work.{run_of}
use Rattle.apd_unify.specs.Unifying.{ArePairs, pairs_of, equations_of, IsElimination, HasEliminated, HasArguments, GoesOn, IsPast, IsDecomposed, Solves}
use Rattle.apd_cells.proofs.Passing.{run_one-is}
use Rattle.apd_cells.proofs.Compounds.{compound_at}
use Rattle.apd_unify.proofs.Pairing.{split_pairs, rest_of}
use Rattle.apd_cells.proofs.Bindings.{meaning-bound-applied, Keeps-bound, Keeps-self}

elimination : (a b : Term) (v : ℕ) (t : Term) → IsElimination a b v t → Eliminates a b v t
elimination a b v t h = elim h.sides [
  | inl p ↦ rw (p.0, p.1) (eliminates_left v t h.acyclic)
  | inr p ↦ rw (p.0, p.1) (eliminates_right v t h.acyclic)
]

-- compounds of one name with equally many arguments
decomposes_at : (s : Stored) (x y n : ℕ) → IsStore s.cells s.variables s.trail → x < length s.cells → y < length s.cells → HasArguments s.cells x y n
    → Decomposes (term_at s x) (term_at s y)
decomposes_at s x y n h l m k =
    let u = compound_at s x k.f n h l k.left_symbol in
    let v = compound_at s y k.f n h m k.right_symbol in
    let g = meaning s.cells s.trail in
    let ts = terms_of (run_of s.cells (x + 1) n) in
    let us = terms_of (run_of s.cells (y + 1) n) in
    rw (u.is, v.is) (decomposes k.f k.f (apply_all g ts) (apply_all g us) refl
    (length-apply_all g ts ∙ ap length (list_of-terms_of (run_of s.cells (x + 1) n)) ∙ u.number
    ∙ sym (length-apply_all g us ∙ ap length (list_of-terms_of (run_of s.cells (y + 1) n)) ∙ v.number)))

zip_applied : (f g one : Term → Term) → ((t : Term) → f t ≡ one (g t)) → (s : ℕ → Term) → ((t : Term) → one t ≡ apply s t) → (xs ys : List Term)
    → zip (map f xs) (map f ys) ≡ apply_equations s (zip (map g xs) (map g ys))
zip_applied f g one h s k [] ys = refl
zip_applied f g one h s k (x ∷ xs) [] = refl
zip_applied f g one h s k (x ∷ xs) (y ∷ ys) = rw (h x, h y, k (g x), k (g y), zip_applied f g one h s k xs ys) refl

equations_bound : (s : Stored) (v to : ℕ) (ps : List Pairs) → equations_of (bound s v to) ps ≡ apply_equations (term_for (single v (term_at s to))) (equations_of s ps)
equations_bound s v to [] = refl
equations_bound s v to (p ∷ ps) =
    let one = term_for (single v (term_at s to)) in
    let g = apply (meaning s.cells s.trail) in
    let e : pairs_of (bound s v to) p ≡ apply_equations one (pairs_of s p) =
    zip_applied (apply (meaning s.cells (Bound v to ∷ s.trail))) g (apply one) (meaning-bound-applied s v to) one (λ t. refl)
    (run_of s.cells p.a p.left) (run_of s.cells p.b p.left) in
    ap (λ z. z ++ equations_of (bound s v to) ps) e
    ∙ ap (λ z. apply_equations one (pairs_of s p) ++ z) (equations_bound s v to ps)
    ∙ sym (apply_equations-append one (pairs_of s p) (equations_of s ps))

-- what holds while pairs are left that are to be made equal
pub record Unifying (old s : Stored) (a b : ℕ) (ps : List Pairs) : Type 0 where
  pub same_cells : s.cells ≡ old.cells
  pub same_variables : s.variables ≡ old.variables
  pub keeps : Keeps old s
  pub right : ArePairs s.cells ps
  pub found : List (ℕ × Term)
  pub round : IsRound (term_at old a) (term_at old b) (equations_of s ps) found
  pub made : (v : ℕ) → meaning s.cells s.trail v ≡ apply (term_for found) (meaning old.cells old.trail v)
  pub count : length found + length old.trail ≡ length s.trail

-- no less than the steps that are left
abbrev pub work_left : Stored → Stored → ℕ → ℕ → List Pairs → ℕ
work_left old s a b ps =
    most_steps (length (variables (term_at old a) ++ variables (term_at old b)) - (length s.trail - length old.trail)) (size_equations (equations_of s ps))

pub record Proceeds (old s s' : Stored) (a b : ℕ) (ps ps' : List Pairs) : Type 0 where
  pub kept : Unifying old s' a b ps'
  pub smaller : work_left old s' a b ps' < work_left old s a b ps

pub unifying_first : (s : Stored) (a b : ℕ) (p : Pairs) (ps : List Pairs) → a < length s.cells → b < length s.cells → p ≡ record { a = a; b = b; left = 1 } → ps ≡ [] → Unifying s s a b (p ∷ ps)
unifying_first s a b p ps l m is e =
    let q : Pairs = record { a = a; b = b; left = 1 } in
    let k = split_pairs s q (record { left_run = run_one-is s a l; right_run = run_one-is s b m }) (omega arith) in
    rw (is, e) (record {
      same_cells = refl;
      same_variables = refl;
      keeps = Keeps-self s;
      right = (record { left_run = run_one-is s a l; right_run = run_one-is s b m }, tt);
      found = [];
      round = subst (λ es. IsRound (term_at s a) (term_at s b) es []) (sym (ap (λ z. z ++ []) k)) (first_round (term_at s a) (term_at s b));
      made = λ v. sym (apply-variable (meaning s.cells s.trail v));
      count = omega arith;
    })

-- pairs in place of others that say the same
pub unifying_on : (old s : Stored) (a b : ℕ) (here next : Pairs) (ps qs : List Pairs) → Unifying old s a b (here ∷ ps) → GoesOn here ps (Some next) qs → Unifying old s a b (next ∷ qs)
unifying_on old s a b here next ps qs h g = record {
  same_cells = h.same_cells;
  same_variables = h.same_variables;
  keeps = h.keeps;
  right = g.1.1 s.cells h.right;
  found = h.found;
  round = subst (λ es. IsRound (term_at old a) (term_at old b) es h.found) (g.1.0 s) h.round;
  made = h.made;
  count = h.count;
}

-- at the end a most general unifier was applied
pub unifying_last : (old s : Stored) (a b : ℕ) (here : Pairs) (ps qs : List Pairs) → Unifying old s a b (here ∷ ps) → GoesOn here ps None qs → IsUnified old s a b
unifying_last old s a b here ps qs h g = record {
  pairs = h.found;
  unifier = last_round (term_at old a) (term_at old b) h.found (subst (λ es. IsRound (term_at old a) (term_at old b) es h.found) (g s) h.round);
  means = h.made;
  made = λ c.
      ap (λ cells. apply (meaning s.cells s.trail) (written cells c)) h.same_cells
      ∙ apply-same (meaning s.cells s.trail) (followed_by (meaning old.cells old.trail) (term_for h.found)) h.made (written old.cells c)
      ∙ sym (apply-followed_by (meaning old.cells old.trail) (term_for h.found) (written old.cells c));
}

-- where the first pair leads
pub record PairLeads (s : Stored) (p : Pairs) (x y : ℕ) : Type 0 where
  pub x_inside : x < length s.cells
  pub y_inside : y < length s.cells
  pub x_same : term_at s x ≡ term_at s p.a
  pub y_same : term_at s y ≡ term_at s p.b

-- the first equation, as where the pair leads has it
first_equation : (old s : Stored) (a b : ℕ) (p : Pairs) (ps : List Pairs) (x y : ℕ) (rest : List Equation) → (h : Unifying old s a b (p ∷ ps)) → PairLeads s p x y
    → equations_of s (p ∷ ps) ≡ (term_at s p.a, term_at s p.b) ∷ rest → equations_of s (p ∷ ps) ≡ (term_at s x, term_at s y) ∷ rest
first_equation old s a b p ps x y rest h d e = e ∙ rw (← d.x_same, ← d.y_same) refl

pub unifying_clash : (old s : Stored) (a b : ℕ) (p : Pairs) (ps : List Pairs) (x y : ℕ) → Unifying old s a b (p ∷ ps) → 0 < p.left → PairLeads s p x y
    → HasNoUnifier (term_at s x) (term_at s y) → HasNoUnifier (term_at old a) (term_at old b)
unifying_clash old s a b p ps x y h l d n u g =
    let e = first_equation old s a b p ps x y (rest_of s p ++ equations_of s ps) h d (ap (λ z. z ++ equations_of s ps) (split_pairs s p h.right.0 l)) in
    let k : UnifiesAll u ((term_at s x, term_at s y) ∷ (rest_of s p ++ equations_of s ps)) = subst (UnifiesAll u) e (h.round.unifies u g) in
    n u k.0

tail_of : (e f : Equation) (es fs : List Equation) → e ∷ es ≡ f ∷ fs → es ≡ fs
tail_of e f es fs h = cc

pub unifying_equal : (old s : Stored) (a b : ℕ) (p next : Pairs) (ps : List Pairs) (x y : ℕ) → Unifying old s a b (p ∷ ps) → PairLeads s p x y
    → term_at s x ≡ term_at s y → IsPast s p next → Proceeds old s s a b (p ∷ ps) (next ∷ ps)
unifying_equal old s a b p next ps x y h d same k =
    let e : equations_of s (p ∷ ps) ≡ (term_at s p.a, term_at s p.b) ∷ equations_of s (next ∷ ps) = ap (λ z. z ++ equations_of s ps) k.first in
    let r = subst (λ es. IsRound (term_at old a) (term_at old b) es h.found) e h.round in
    let N = length (variables (term_at old a) ++ variables (term_at old b)) - (length s.trail - length old.trail) in
    record {
      kept = record {
        same_cells = h.same_cells;
        same_variables = h.same_variables;
        keeps = h.keeps;
        right = (k.right, h.right.1);
        found = h.found;
        round = deleted_round (term_at old a) (term_at old b) (term_at s p.a, term_at s p.b) (equations_of s (next ∷ ps)) h.found r (sym d.x_same ∙ same ∙ d.y_same);
        made = h.made;
        count = h.count;
      };
      smaller = most_steps-lt N (size_equations (equations_of s (next ∷ ps))) (size_equations (equations_of s (p ∷ ps)))
          (omega (arith, ap size_equations e, size_positive (term_at s p.a)));
    }

pub unifying_decomposed : (old s : Stored) (a b : ℕ) (p next : Pairs) (ps qs : List Pairs) (x y n : ℕ) → Unifying old s a b (p ∷ ps) → PairLeads s p x y
    → IsStore s.cells s.variables s.trail → HasArguments s.cells x y n → IsDecomposed s ps p next qs x y → Proceeds old s s a b (p ∷ ps) (next ∷ qs)
unifying_decomposed old s a b p next ps qs x y n h d store k w =
    let e : equations_of s (p ∷ ps) ≡ (term_at s x, term_at s y) ∷ w.rest = first_equation old s a b p ps x y w.rest h d w.before in
    let r = subst (λ es. IsRound (term_at old a) (term_at old b) es h.found) e h.round in
    let g = decomposed_round (term_at old a) (term_at old b) (term_at s x, term_at s y) w.rest h.found r (decomposes_at s x y n store d.x_inside d.y_inside k) in
    let N = length (variables (term_at old a) ++ variables (term_at old b)) - (length s.trail - length old.trail) in
    record {
      kept = record {
        same_cells = h.same_cells;
        same_variables = h.same_variables;
        keeps = h.keeps;
        right = w.right;
        found = h.found;
        round = subst (λ es. IsRound (term_at old a) (term_at old b) es h.found) (sym w.after) g.0;
        made = h.made;
        count = h.count;
      };
      smaller = most_steps-lt N (size_equations (equations_of s (next ∷ qs))) (size_equations (equations_of s (p ∷ ps)))
          (rw (w.after, e) g.1);
    }

bound_proceeds : (old s : Stored) (a b : ℕ) (p next : Pairs) (ps : List Pairs) (x y v to : ℕ) → Unifying old s a b (p ∷ ps) → PairLeads s p x y → 0 < p.left
    → IsElimination (term_at s x) (term_at s y) v (term_at s to) → IsPast (bound s v to) p next → Proceeds old s (bound s v to) a b (p ∷ ps) (next ∷ ps)
bound_proceeds old s a b p next ps x y v to h d l i k =
    let t = term_at s to in
    let one = term_for (single v t) in
    let rest = rest_of s p ++ equations_of s ps in
    let first : Equation = (term_at s x, term_at s y) in
    let e : equations_of s (p ∷ ps) ≡ first ∷ rest =
    first_equation old s a b p ps x y rest h d (ap (λ z. z ++ equations_of s ps) (split_pairs s p h.right.0 l)) in
    let r = subst (λ es. IsRound (term_at old a) (term_at old b) es h.found) e h.round in
    let m = elimination (term_at s x) (term_at s y) v t i in
    let new = bound s v to in
    let g : (term_at new p.a, term_at new p.b) ∷ equations_of new (next ∷ ps) ≡ (apply one (term_at s x), apply one (term_at s y)) ∷ apply_equations one rest =
    sym (ap (λ z. z ++ equations_of new ps) k.first) ∙ equations_bound s v to (p ∷ ps) ∙ ap (apply_equations one) e in
    let q : equations_of new (next ∷ ps) ≡ apply_equations one rest =
    tail_of (term_at new p.a, term_at new p.b) (apply one (term_at s x), apply one (term_at s y)) (equations_of new (next ∷ ps)) (apply_equations one rest) g in
    let N = length (variables (term_at old a) ++ variables (term_at old b)) in
    let steps = steps_eliminated (term_at old a) (term_at old b) first rest h.found v t r m in
    let c1 : length new.trail - length old.trail ≡ length (extended h.found v t) = omega (arith, h.count, length-extended h.found v t) in
    let c0 : length s.trail - length old.trail ≡ length h.found = omega (arith, h.count) in
    record {
      kept = record {
        same_cells = h.same_cells;
        same_variables = h.same_variables;
        keeps = Keeps-bound old s v to h.keeps;
        right = (k.right, h.right.1);
        found = extended h.found v t;
        round = subst (λ es. IsRound (term_at old a) (term_at old b) es (extended h.found v t)) (sym q)
            (eliminated_round (term_at old a) (term_at old b) first rest h.found v t r m);
        made = λ w. ap (apply one) (h.made w)
            ∙ apply-followed_by (term_for h.found) one (meaning old.cells old.trail w)
            ∙ sym (apply-same (term_for (extended h.found v t)) (followed_by (term_for h.found) one) (term_for-extended h.found v t) (meaning old.cells old.trail w));
        count = omega (arith, h.count, length-extended h.found v t);
      };
      smaller = subst (λ j. most_steps (N - j) (size_equations (equations_of new (next ∷ ps))) < work_left old s a b (p ∷ ps)) (sym c1)
          (subst (λ j. most_steps (N - length (extended h.found v t)) (size_equations (equations_of new (next ∷ ps))) < most_steps (N - j) (size_equations (equations_of s (p ∷ ps)))) (sym c0)
          (rw (q, e) steps));
    }

pub unifying_bound : (old s s' : Stored) (a b : ℕ) (p next : Pairs) (ps : List Pairs) (x y : ℕ) → Unifying old s a b (p ∷ ps) → PairLeads s p x y → 0 < p.left
    → HasEliminated s s' x y → IsPast s' p next → Proceeds old s s' a b (p ∷ ps) (next ∷ ps)
unifying_bound old s s' a b p next ps x y h d l k w =
    subst (λ z. Proceeds old s z a b (p ∷ ps) (next ∷ ps)) (sym k.is)
    (bound_proceeds old s a b p next ps x y k.v k.to h d l k.elimination (subst (λ z. IsPast z p next) k.is w))

-- what one turn of the loop is, from the pairs at its head
pub record Turn (old s : Stored) (a b : ℕ) (here : Pairs) (ps : List Pairs) (next : Pairs) (qs : List Pairs) (x y : ℕ) : Type 0 where
  pub unifying : Unifying old s a b (here ∷ ps)
  pub goes : GoesOn here ps (Some next) qs
  pub leads : PairLeads s next x y
  pub store : IsStore s.cells s.variables s.trail

pub proceeds_on : (old s s' : Stored) (a b : ℕ) (here next : Pairs) (ps qs ps' : List Pairs) → GoesOn here ps (Some next) qs → Proceeds old s s' a b (next ∷ qs) ps' → Proceeds old s s' a b (here ∷ ps) ps'
proceeds_on old s s' a b here next ps qs ps' g h = record {
  kept = h.kept;
  smaller = rw (g.1.0 s) h.smaller;
}

pub turn_clash : (old s s' : Stored) (a b : ℕ) (here : Pairs) (ps : List Pairs) (next : Pairs) (qs : List Pairs) (x y : ℕ) (r : PairOutcome)
    → Turn old s a b here ps next qs x y → Solves r s s' x y → r ≡ Clash → HasNoUnifier (term_at old a) (term_at old b)
turn_clash old s s' a b here ps next qs x y r t h e =
    let k : (s' ≡ s) × HasNoUnifier (term_at s x) (term_at s y) = subst (λ z. Solves z s s' x y) e h in
    unifying_clash old s a b next qs x y (unifying_on old s a b here next ps qs t.unifying t.goes) t.goes.0 t.leads k.1

pub turn_equal : (old s s' : Stored) (a b : ℕ) (here : Pairs) (ps : List Pairs) (next : Pairs) (qs : List Pairs) (x y : ℕ) (r : PairOutcome) (out : Pairs)
    → Turn old s a b here ps next qs x y → Solves r s s' x y → r ≡ Equal → IsPast s' next out → Proceeds old s s' a b (here ∷ ps) (out ∷ qs)
turn_equal old s s' a b here ps next qs x y r out t h e p =
    let k : (s' ≡ s) × (term_at s x ≡ term_at s y) = subst (λ z. Solves z s s' x y) e h in
    let g = unifying_equal old s a b next out qs x y (unifying_on old s a b here next ps qs t.unifying t.goes) t.leads k.1 (subst (λ z. IsPast z next out) k.0 p) in
    proceeds_on old s s' a b here next ps qs (out ∷ qs) t.goes (subst (λ z. Proceeds old s z a b (next ∷ qs) (out ∷ qs)) (sym k.0) g)

pub turn_bound : (old s s' : Stored) (a b : ℕ) (here : Pairs) (ps : List Pairs) (next : Pairs) (qs : List Pairs) (x y : ℕ) (r : PairOutcome) (out : Pairs)
    → Turn old s a b here ps next qs x y → Solves r s s' x y → r ≡ BoundOne → IsPast s' next out → Proceeds old s s' a b (here ∷ ps) (out ∷ qs)
turn_bound old s s' a b here ps next qs x y r out t h e p =
    let k : HasEliminated s s' x y = subst (λ z. Solves z s s' x y) e h in
    proceeds_on old s s' a b here next ps qs (out ∷ qs) t.goes
    (unifying_bound old s s' a b next out qs x y (unifying_on old s a b here next ps qs t.unifying t.goes) t.leads t.goes.0 k p)

pub turn_arguments : (old s s' : Stored) (a b : ℕ) (here : Pairs) (ps : List Pairs) (next : Pairs) (qs : List Pairs) (x y : ℕ) (r : PairOutcome) (n : ℕ) (out : Pairs) (outs : List Pairs)
    → Turn old s a b here ps next qs x y → Solves r s s' x y → r ≡ Arguments n → IsDecomposed s' qs next out outs x y → Proceeds old s s' a b (here ∷ ps) (out ∷ outs)
turn_arguments old s s' a b here ps next qs x y r n out outs t h e p =
    let k : (s' ≡ s) × HasArguments s.cells x y n = subst (λ z. Solves z s s' x y) e h in
    let g = unifying_decomposed old s a b next out qs outs x y n (unifying_on old s a b here next ps qs t.unifying t.goes) t.leads t.store k.1
    (subst (λ z. IsDecomposed z qs next out outs x y) k.0 p) in
    proceeds_on old s s' a b here next ps qs (out ∷ outs) t.goes (subst (λ z. Proceeds old s z a b (next ∷ qs) (out ∷ outs)) (sym k.0) g)
