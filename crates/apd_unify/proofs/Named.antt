-- A unifier of named terms brings in no other names.
use Rattle.std.proofs.Common.{ℕ, zero, suc, ◌==◌, ◌&&◌, Bool, true, false, Option, Some, None, List, [], ◌∷◌, ◌++◌, ◌+◌, length, if◌then◌else◌}
use Rattle.std.specs.List.{zip}
use Rattle.std.specs.Ordering.{int_eq}
use Rattle.apd_term.specs.Term.{Term, Terms, variable, integer, compound, none, more, list_of, arguments, size, variables}
use Rattle.apd_term.specs.Substitution.{term_for, single, extended, with_applied}
use Rattle.apd_term.specs.Named.{IsNamed, AreNamed, AllNamed}
use Rattle.apd_term.proofs.Named.{IsNamed-apply}
use Rattle.apd_unify.specs.declared.rule.Rule.{Rule}
use Rattle.apd_unify.specs.declared.rule.Rule.TheVariants.{Delete, Decompose, Clash, Cycle, Eliminate}
use Rattle.apd_unify.specs.Textbook.{Equation, apply_equations, size_equations, stands_in, rule_for, rule_for_variable, solution_in, unifier_of}
use Rattle.apd_unify.proofs.Textbook.{after_rule}

-- the term of each pair is named
abbrev pub PairsAreNamed : ℕ → List (ℕ × Term) → Type 0
PairsAreNamed n [] = Unit {0}
PairsAreNamed n (p ∷ ps) = IsNamed n p.1 × PairsAreNamed n ps

-- both sides of each equation are named
abbrev pub EquationsAreNamed : ℕ → List Equation → Type 0
EquationsAreNamed n [] = Unit {0}
EquationsAreNamed n (e ∷ es) = IsNamed n e.0 × IsNamed n e.1 × EquationsAreNamed n es

-- the term that a rule puts for a variable is named
abbrev pub RuleIsNamed : ℕ → Rule → Type 0
RuleIsNamed n Delete = Unit {0}
RuleIsNamed n Decompose = Unit {0}
RuleIsNamed n Clash = Unit {0}
RuleIsNamed n Cycle = Unit {0}
RuleIsNamed n (Eliminate v t) = IsNamed n t

-- what the answer puts for each variable is named, if there is one
abbrev pub AnswerIsNamed : ℕ → Option (List (ℕ × Term)) → Type 0
AnswerIsNamed n None = Unit {0}
AnswerIsNamed n (Some s) = PairsAreNamed n s

pub term_for-named : (n : ℕ) (s : List (ℕ × Term)) → PairsAreNamed n s → (v : ℕ) → IsNamed n (term_for s v)
term_for-named n [] named v = tt
term_for-named n (p ∷ ps) named v = either (p.0 == v) (term_for-named n ps named.1 v)
  where
    either : (b : Bool) → IsNamed n (term_for ps v) → IsNamed n (if b then p.1 else term_for ps v)
    either true later = named.0
    either false later = later

single-named : (n v : ℕ) (t : Term) → IsNamed n t → (w : ℕ) → IsNamed n (term_for (single v t) w)
single-named n v t named = term_for-named n (single v t) (named, tt)

with_applied-named : (n : ℕ) (s : ℕ → Term) (ps : List (ℕ × Term)) → ((v : ℕ) → IsNamed n (s v)) → PairsAreNamed n ps → PairsAreNamed n (with_applied s ps)
with_applied-named n s [] images named = tt
with_applied-named n s (p ∷ ps) images named = (IsNamed-apply n s p.1 images named.0, with_applied-named n s ps images named.1)

pairs_named-append : (n : ℕ) (ps : List (ℕ × Term)) (p : ℕ × Term) → PairsAreNamed n ps → IsNamed n p.1 → PairsAreNamed n (ps ++ p ∷ [])
pairs_named-append n [] p named last = (last, tt)
pairs_named-append n (q ∷ ps) p named last = (named.0, pairs_named-append n ps p named.1 last)

pub extended-named : (n : ℕ) (ps : List (ℕ × Term)) (v : ℕ) (t : Term) → PairsAreNamed n ps → IsNamed n t → PairsAreNamed n (extended ps v t)
extended-named n ps v t named of_term =
    pairs_named-append n (with_applied (term_for (single v t)) ps) (v, t) (with_applied-named n (term_for (single v t)) ps (single-named n v t of_term) named) of_term

apply_equations-named : (n : ℕ) (s : ℕ → Term) (es : List Equation) → ((v : ℕ) → IsNamed n (s v)) → EquationsAreNamed n es → EquationsAreNamed n (apply_equations s es)
apply_equations-named n s [] images named = tt
apply_equations-named n s (e ∷ es) images named =
    (IsNamed-apply n s e.0 images named.0, IsNamed-apply n s e.1 images named.1, apply_equations-named n s es images named.2)

equations_named-append : (n : ℕ) (ds es : List Equation) → EquationsAreNamed n ds → EquationsAreNamed n es → EquationsAreNamed n (ds ++ es)
equations_named-append n [] es first named = named
equations_named-append n (d ∷ ds) es first named = (first.0, first.1, equations_named-append n ds es first.2 named)

zip-named : (n : ℕ) (ts us : List Term) → AllNamed n ts → AllNamed n us → EquationsAreNamed n (zip ts us)
zip-named n [] us left right = tt
zip-named n (t ∷ ts) [] left right = tt
zip-named n (t ∷ ts) (u ∷ us) left right = (left.0, right.0, zip-named n ts us left.1 right.1)

list_of-named : (n : ℕ) (ts : Terms) → AreNamed n ts → AllNamed n (list_of ts)
list_of-named n none named = tt
list_of-named n (more t ts) named = (named.0, list_of-named n ts named.1)

arguments-named : (n : ℕ) (t : Term) → IsNamed n t → AllNamed n (arguments t)
arguments-named n (variable v) named = tt
arguments-named n (integer i) named = tt
arguments-named n (compound f ts) named = list_of-named n ts named.1

-- the rules for a test's two outcomes
either-named : (n : ℕ) (b : Bool) (x y : Rule) → RuleIsNamed n x → RuleIsNamed n y → RuleIsNamed n (if b then x else y)
either-named n true x y first second = first
either-named n false x y first second = second

rule_for_variable-named : (n v : ℕ) (t : Term) → IsNamed n t → RuleIsNamed n (rule_for_variable v t)
rule_for_variable-named n v (variable w) named = either-named n (v == w) Delete (Eliminate v (variable w)) tt tt
rule_for_variable-named n v (integer i) named = tt
rule_for_variable-named n v (compound f ts) named = either-named n (stands_in v (compound f ts)) Cycle (Eliminate v (compound f ts)) tt named

rule_for-named : (n : ℕ) (a b : Term) → IsNamed n a → IsNamed n b → RuleIsNamed n (rule_for a b)
rule_for-named n (variable v) b left right = rule_for_variable-named n v b right
rule_for-named n (integer i) (variable w) left right = tt
rule_for-named n (integer i) (integer j) left right = either-named n (int_eq i j) Delete Clash tt tt
rule_for-named n (integer i) (compound g us) left right = tt
rule_for-named n (compound f ts) (variable w) left right = rule_for_variable-named n w (compound f ts) left
rule_for-named n (compound f ts) (integer j) left right = tt
rule_for-named n (compound f ts) (compound g us) left right =
    either-named n (f.0 == g.0 && length (list_of ts) == length (list_of us)) Decompose Clash tt tt

-- named equations are solved by named terms
solution_in-named : (n k m : ℕ) (es : List Equation) (found : List (ℕ × Term)) → EquationsAreNamed n es → PairsAreNamed n found → AnswerIsNamed n (solution_in k m es found)
solution_in-named n zero m es found equations pairs = tt
solution_in-named n (suc k) m [] found equations pairs = pairs
solution_in-named n (suc k) zero (e ∷ es) found equations pairs = tt
solution_in-named n (suc k) (suc m) (e ∷ es) found equations pairs =
    by_rule (λ ds q. solution_in-named n (suc k) m ds found q pairs) (λ ds f q r. solution_in-named n k (size_equations ds) ds f q r)
    (rule_for e.0 e.1) (rule_for-named n e.0 e.1 equations.0 equations.1)
  where
    by_rule : ((ds : List Equation) → EquationsAreNamed n ds → AnswerIsNamed n (solution_in (suc k) m ds found))
        → ((ds : List Equation) (f : List (ℕ × Term)) → EquationsAreNamed n ds → PairsAreNamed n f → AnswerIsNamed n (solution_in k (size_equations ds) ds f))
        → (rule : Rule) → RuleIsNamed n rule → AnswerIsNamed n (after_rule k m e es found rule)
    by_rule same next Delete named = same es equations.2
    by_rule same next Decompose named =
        same (zip (arguments e.0) (arguments e.1) ++ es)
        (equations_named-append n (zip (arguments e.0) (arguments e.1)) es
        (zip-named n (arguments e.0) (arguments e.1) (arguments-named n e.0 equations.0) (arguments-named n e.1 equations.1)) equations.2)
    by_rule same next Clash named = tt
    by_rule same next Cycle named = tt
    by_rule same next (Eliminate v t) named =
        next (apply_equations (term_for (single v t)) es) (extended found v t)
        (apply_equations-named n (term_for (single v t)) es (single-named n v t named) equations.2) (extended-named n found v t pairs named)

pub unifier_of-named : (n : ℕ) (a b : Term) → IsNamed n a → IsNamed n b → AnswerIsNamed n (unifier_of a b)
unifier_of-named n a b left right =
    solution_in-named n (suc (length (variables a ++ variables b))) (size a + size b) ((a, b) ∷ []) [] (left, right, tt) tt
