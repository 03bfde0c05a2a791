-- Terms with renumbered names have the same unifiers, with their names renumbered.
use Rattle.std.proofs.Common.{◌≡◌, ℕ, zero, suc, ◌+◌, ◌++◌, ◌&&◌, Bool, true, false, List, [], ◌∷◌, length, map, refl, sym, ◌∙◌, ap}
use Rattle.std.specs.Prelude.{◌==◌, if◌then◌else◌}
use Rattle.std.specs.List.{list_any, zip}
use Rattle.std.specs.Option.{option_map}
use Rattle.std.specs.Ordering.{int_eq}
use Rattle.apd_term.specs.Term.{Term, variable, integer, compound, list_of, apply, variables, size, arguments}
use Rattle.apd_term.specs.Substitution.{term_for, single, with_applied, extended}
use Rattle.apd_term.proofs.Applying.{apply-same}
use Rattle.apd_unify.specs.Textbook.{Equation, apply_equations, size_equations, stands_in, rule_for_variable, rule_for, solution_in, unifier_of}
use Rattle.apd_unify.proofs.Textbook.{after_rule}
use Rattle.apd_unify.specs.declared.rule.Rule.{Rule}
use Rattle.apd_unify.specs.declared.rule.Rule.TheVariants.{Delete, Decompose, Clash, Cycle, Eliminate}
use Rattle.apd_numbering.specs.Renumbering.{Renumbering, renumbered, renumbered_list}
use Rattle.apd_numbering.proofs.Terms.{renumbered-apply, variables-renumbered, variables_all-renumbered, size-renumbered, count-renumbered, arguments-renumbered}
use Rattle.apd_numbering.proofs.Tests.{test-same}

abbrev pub renumbered_pairs : (ℕ → ℕ) → List (ℕ × Term) → List (ℕ × Term)
renumbered_pairs r [] = []
renumbered_pairs r (p ∷ ps) = (p.0, renumbered r p.1) ∷ renumbered_pairs r ps

abbrev pub renumbered_equations : (ℕ → ℕ) → List Equation → List Equation
renumbered_equations r [] = []
renumbered_equations r (e ∷ es) = (renumbered r e.0, renumbered r e.1) ∷ renumbered_equations r es

abbrev renumbered_rule : (ℕ → ℕ) → Rule → Rule
renumbered_rule r Delete = Delete
renumbered_rule r Decompose = Decompose
renumbered_rule r Clash = Clash
renumbered_rule r Cycle = Cycle
renumbered_rule r (Eliminate v t) = Eliminate v (renumbered r t)

pub term_for-renumbered : (r : ℕ → ℕ) (ps : List (ℕ × Term)) (v : ℕ) → term_for (renumbered_pairs r ps) v ≡ renumbered r (term_for ps v)
term_for-renumbered r [] v = refl
term_for-renumbered r (p ∷ ps) v = by (p.0 == v) (term_for-renumbered r ps v)
  where
    by : (b : Bool) → term_for (renumbered_pairs r ps) v ≡ renumbered r (term_for ps v) → (if b then renumbered r p.1 else term_for (renumbered_pairs r ps) v) ≡ renumbered r (if b then p.1 else term_for ps v)
    by true e = refl
    by false e = e

-- the pairs in a term
pub apply_pairs-renumbered : (r : ℕ → ℕ) (ps : List (ℕ × Term)) (t : Term) → apply (term_for (renumbered_pairs r ps)) (renumbered r t) ≡ renumbered r (apply (term_for ps) t)
apply_pairs-renumbered r ps t =
    apply-same (term_for (renumbered_pairs r ps)) (λ v. renumbered r (term_for ps v)) (term_for-renumbered r ps) (renumbered r t) ∙ sym (renumbered-apply r (term_for ps) t)

pub list-pairs : (r : ℕ → ℕ) (ps : List (ℕ × Term)) (ts : List Term) → map (apply (term_for (renumbered_pairs r ps))) (renumbered_list r ts) ≡ renumbered_list r (map (apply (term_for ps)) ts)
list-pairs r ps [] = refl
list-pairs r ps (t ∷ ts) = rw (apply_pairs-renumbered r ps t, list-pairs r ps ts) refl

equations-renumbered : (r : ℕ → ℕ) (ps : List (ℕ × Term)) (es : List Equation)
    → apply_equations (term_for (renumbered_pairs r ps)) (renumbered_equations r es) ≡ renumbered_equations r (apply_equations (term_for ps) es)
equations-renumbered r ps [] = refl
equations-renumbered r ps (e ∷ es) = rw (apply_pairs-renumbered r ps e.0, apply_pairs-renumbered r ps e.1, equations-renumbered r ps es) refl

size_equations-renumbered : (r : ℕ → ℕ) (es : List Equation) → size_equations (renumbered_equations r es) ≡ size_equations es
size_equations-renumbered r [] = refl
size_equations-renumbered r (e ∷ es) = rw (size-renumbered r e.0, size-renumbered r e.1, size_equations-renumbered r es) refl

applied-renumbered : (r : ℕ → ℕ) (qs ps : List (ℕ × Term)) → with_applied (term_for (renumbered_pairs r qs)) (renumbered_pairs r ps) ≡ renumbered_pairs r (with_applied (term_for qs) ps)
applied-renumbered r qs [] = refl
applied-renumbered r qs (p ∷ ps) = rw (apply_pairs-renumbered r qs p.1, applied-renumbered r qs ps) refl

pairs-append : (r : ℕ → ℕ) (ps qs : List (ℕ × Term)) → renumbered_pairs r (ps ++ qs) ≡ renumbered_pairs r ps ++ renumbered_pairs r qs
pairs-append r [] qs = refl
pairs-append r (p ∷ ps) qs = ap (λ rs. (p.0, renumbered r p.1) ∷ rs) (pairs-append r ps qs)

equations-append : (r : ℕ → ℕ) (es fs : List Equation) → renumbered_equations r (es ++ fs) ≡ renumbered_equations r es ++ renumbered_equations r fs
equations-append r [] fs = refl
equations-append r (e ∷ es) fs = ap (λ gs. (renumbered r e.0, renumbered r e.1) ∷ gs) (equations-append r es fs)

extended-renumbered : (r : ℕ → ℕ) (ps : List (ℕ × Term)) (v : ℕ) (t : Term) → extended (renumbered_pairs r ps) v (renumbered r t) ≡ renumbered_pairs r (extended ps v t)
extended-renumbered r ps v t =
    ap (λ qs. qs ++ (v, renumbered r t) ∷ []) (applied-renumbered r (single v t) ps)
    ∙ sym (pairs-append r (with_applied (term_for (single v t)) ps) ((v, t) ∷ []))

zip-renumbered : (r : ℕ → ℕ) (ts us : List Term) → zip (renumbered_list r ts) (renumbered_list r us) ≡ renumbered_equations r (zip ts us)
zip-renumbered r [] us = refl
zip-renumbered r (t ∷ ts) [] = refl
zip-renumbered r (t ∷ ts) (u ∷ us) = ap (λ es. (renumbered r t, renumbered r u) ∷ es) (zip-renumbered r ts us)

-- the rule for two sides
variable-renumbered : (r : ℕ → ℕ) (v : ℕ) (t : Term) → rule_for_variable v (renumbered r t) ≡ renumbered_rule r (rule_for_variable v t)
variable-renumbered r v (variable w) = by (v == w)
  where
    by : (b : Bool) → (if b then Delete else Eliminate v (variable w)) ≡ renumbered_rule r (if b then Delete else Eliminate v (variable w))
    by true = refl
    by false = refl
variable-renumbered r v (integer i) = refl
variable-renumbered r v (compound f ts) =
    ap (λ vs. if list_any (λ w. w == v) vs then Cycle else Eliminate v (renumbered r (compound f ts))) (variables_all-renumbered r ts) ∙ by (stands_in v (compound f ts))
  where
    by : (b : Bool) → (if b then Cycle else Eliminate v (renumbered r (compound f ts))) ≡ renumbered_rule r (if b then Cycle else Eliminate v (compound f ts))
    by true = refl
    by false = refl

rule-renumbered : (n : ℕ) (x : Renumbering n) (t u : Term) → rule_for (renumbered x.to t) (renumbered x.to u) ≡ renumbered_rule x.to (rule_for t u)
rule-renumbered n x (variable v) u = variable-renumbered x.to v u
rule-renumbered n x (integer i) (variable w) = refl
rule-renumbered n x (integer i) (integer j) = by (int_eq i j)
  where
    by : (b : Bool) → (if b then Delete else Clash) ≡ renumbered_rule x.to (if b then Delete else Clash)
    by true = refl
    by false = refl
rule-renumbered n x (integer i) (compound g us) = refl
rule-renumbered n x (compound f ts) (variable w) = variable-renumbered x.to w (compound f ts)
rule-renumbered n x (compound f ts) (integer j) = refl
rule-renumbered n x (compound f ts) (compound g us) = rw (test-same n x f.0 g.0, count-renumbered x.to ts, count-renumbered x.to us) (by (f.0 == g.0 && length (list_of ts) == length (list_of us)))
  where
    by : (b : Bool) → (if b then Decompose else Clash) ≡ renumbered_rule x.to (if b then Decompose else Clash)
    by true = refl
    by false = refl

-- one rule after the other
solution-renumbered : (n : ℕ) (x : Renumbering n) (k m : ℕ) (es : List Equation) (found : List (ℕ × Term))
    → solution_in k m (renumbered_equations x.to es) (renumbered_pairs x.to found) ≡ option_map (renumbered_pairs x.to) (solution_in k m es found)
solution-renumbered n x zero m es found = refl
solution-renumbered n x (suc k) m [] found = refl
solution-renumbered n x (suc k) zero (e ∷ es) found = refl
solution-renumbered n x (suc k) (suc m) (e ∷ es) found =
    ap (after_rule k m (renumbered x.to e.0, renumbered x.to e.1) (renumbered_equations x.to es) (renumbered_pairs x.to found)) (rule-renumbered n x e.0 e.1)
    ∙ by_rule (λ ds. solution-renumbered n x (suc k) m ds found) (λ ds f. solution-renumbered n x k (size_equations ds) ds f) (rule_for e.0 e.1)
  where
    by_rule : ((ds : List Equation) → solution_in (suc k) m (renumbered_equations x.to ds) (renumbered_pairs x.to found) ≡ option_map (renumbered_pairs x.to) (solution_in (suc k) m ds found))
        → ((ds : List Equation) (f : List (ℕ × Term)) → solution_in k (size_equations ds) (renumbered_equations x.to ds) (renumbered_pairs x.to f) ≡ option_map (renumbered_pairs x.to) (solution_in k (size_equations ds) ds f))
        → (rule : Rule)
        → after_rule k m (renumbered x.to e.0, renumbered x.to e.1) (renumbered_equations x.to es) (renumbered_pairs x.to found) (renumbered_rule x.to rule) ≡ option_map (renumbered_pairs x.to) (after_rule k m e es found rule)
    by_rule same next Delete = same es
    by_rule same next Decompose =
        ap (λ ds. solution_in (suc k) m ds (renumbered_pairs x.to found))
        (rw (arguments-renumbered x.to e.0, arguments-renumbered x.to e.1, zip-renumbered x.to (arguments e.0) (arguments e.1)) (sym (equations-append x.to (zip (arguments e.0) (arguments e.1)) es)))
        ∙ same (zip (arguments e.0) (arguments e.1) ++ es)
    by_rule same next Clash = refl
    by_rule same next Cycle = refl
    by_rule same next (Eliminate v t) =
        let left : List Equation = apply_equations (term_for (single v t)) es in
        rw (equations-renumbered x.to (single v t) es, size_equations-renumbered x.to left, extended-renumbered x.to found v t) (next left (extended found v t))

pub unifier-renumbered : (n : ℕ) (x : Renumbering n) (a b : Term) → unifier_of (renumbered x.to a) (renumbered x.to b) ≡ option_map (renumbered_pairs x.to) (unifier_of a b)
unifier-renumbered n x a b =
    rw (variables-renumbered x.to a, variables-renumbered x.to b, size-renumbered x.to a, size-renumbered x.to b)
    (solution-renumbered n x (suc (length (variables a ++ variables b))) (size a + size b) ((a, b) ∷ []) [])
