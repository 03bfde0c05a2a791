-- How many symbols a rule's clause has.
use Rattle.std.proofs.Common.{◌≡◌, ℕ, ◌+◌, ◌*◌, ◌≤◌, ◌==◌, Bool, true, false, List, [], ◌∷◌, ◌++◌, map, length, Option, Some, None, inl, inr, refl, ◌∙◌, ap, arith}
use Rattle.std.specs.Prelude.{if◌then◌else◌}
use Rattle.std.specs.List.{flat_map}
use Rattle.std.specs.Option.{option_map}
use Rattle.apd_term.specs.Listed.{listed}
use Rattle.apd_term.specs.Term.{Term, Terms, variable, integer, compound, none, more, list_of, size, size_all}
use Rattle.apd_term.specs.Tuple.{sizes, size_of_tuple}
use Rattle.apd_term.specs.declared.standard.TheConstants.{NIL, CELL, CURLY}
use Rattle.apd_term.proofs.Tuples.{size-terms_of}
use Rattle.apd_clauses.specs.Bodies.{conjuncts}
use Rattle.apd_clauses.proofs.Parts.{sizes-append, sizes-conjuncts}
use Rattle.apd_dcg.specs.declared.part.Part.{Part}
use Rattle.apd_dcg.specs.declared.part.Part.TheVariants.{Terminals, Goal, Nonterminal}
use Rattle.apd_dcg.specs.Parts.{part_by, part_of, braced, parts_by, parts_of, parts, with_move}
use Rattle.apd_dcg.specs.Rules.{with_states, onto, goal_between, state_after, goals_from, last_state, clause_with, rule_term}
use Rattle.apd_dcg.specs.Sizes.{most_symbols}
use Rattle.apd_dcg.proofs.Fine.{IsEnd, with_end}

-- how many symbols a part has in its body, at least
abbrev pub weight : Part → ℕ
weight (Terminals ts) = sizes ts + length ts
weight (Goal g) = size g
weight (Nonterminal n) = size n

abbrev pub weights : List Part → ℕ
weights [] = 0
weights (p ∷ ps) = weight p + weights ps

weights-both : (ps qs : List Part) → weights (ps ++ qs) ≡ weights ps + weights qs
weights-both [] qs = omega arith
weights-both (p ∷ ps) qs = omega (arith, weights-both ps qs)

sizes-list_of : (ts : Terms) → sizes (list_of ts) ≡ size_all ts
sizes-list_of none = refl
sizes-list_of (more t ts) = omega (arith, sizes-list_of ts)

size-onto : (ts : List Term) (r : Term) → size (onto ts r) ≡ sizes ts + length ts + size r
size-onto [] r = omega arith
size-onto (t ∷ ts) r = omega (arith, size-onto ts r)

size-states : (n : Term) (a b : ℕ) → size (with_states n (variable a) (variable b)) ≤ size n + 2
size-states (variable v) a b = omega arith
size-states (integer i) a b = omega arith
size-states (compound f ts) a b =
    omega (arith, size-terms_of (list_of ts ++ variable a ∷ variable b ∷ []), sizes-append (list_of ts) (variable a ∷ variable b ∷ []), sizes-list_of ts)

size-goal : (p : Part) (a b : ℕ) → size (goal_between p (variable a) (variable b)) ≤ weight p + 3
size-goal (Terminals ts) a b = omega (arith, size-onto ts (variable b))
size-goal (Goal g) a b = omega arith
size-goal (Nonterminal n) a b = omega (arith, size-states n a b)

sizes-goals : (n : ℕ) (ps : List Part) → sizes (goals_from n ps) ≤ weights ps + 3 * length ps
sizes-goals n [] = omega arith
sizes-goals n (p ∷ ps) = omega (arith, size-goal p n (n + 1), sizes-goals (state_after n p) ps)

-- The parts of a body have no more symbols than it.

weight-listed : (t : Term) (ts : List Term) → listed t ≡ Some ts → sizes ts + length ts + 1 ≡ size t
weight-listed (variable v) ts e = cc
weight-listed (integer i) ts e = cc
weight-listed (compound f none) ts e = either (f.0 == NIL.0) e
  where
    either : (b : Bool) → (if b then Some [] else None) ≡ Some ts → sizes ts + length ts + 1 ≡ 0 + 1
    either true e = let same : ts ≡ [] = cc in ap (λ xs. sizes xs + length xs + 1) same
    either false e = cc
weight-listed (compound f (more t none)) ts e = cc
weight-listed (compound f (more t (more u none))) ts e = either (f.0 == CELL.0) (listed u) (weight-listed u) refl e
  where
    either : (b : Bool) (o : Option (List Term)) → ((us : List Term) → listed u ≡ Some us → sizes us + length us + 1 ≡ size u) → listed u ≡ o
        → (if b then option_map (λ us. t ∷ us) o else None) ≡ Some ts → sizes ts + length ts + 1 ≡ (size t + (size u + 0)) + 1
    either true None ih k e = cc
    either true (Some us) ih k e =
        let same : ts ≡ t ∷ us = cc in
        ap (λ xs. sizes xs + length xs + 1) same ∙ omega (arith, ih us k)
    either false o ih k e = cc
weight-listed (compound f (more t (more u (more v us)))) ts e = cc

weight-part : (t : Term) → weight (part_of t) ≤ size t
weight-part t = either (listed t) refl
  where
    either : (o : Option (List Term)) → listed t ≡ o → weight (part_by o t) ≤ size t
    either (Some ts) k = omega (arith, weight-listed t ts k)
    either None k = omega arith

weights-goals : (gs : List Term) → weights (map Goal gs) ≡ sizes gs
weights-goals [] = refl
weights-goals (g ∷ gs) = ap (λ k. size g + k) (weights-goals gs)

size-braced : (t g : Term) → braced t ≡ Some g → size g ≤ size t
size-braced (variable v) g e = cc
size-braced (integer i) g e = cc
size-braced (compound f none) g e = cc
size-braced (compound f (more x none)) g e = either (f.0 == CURLY.0) e
  where
    either : (b : Bool) → (if b then Some x else None) ≡ Some g → size g ≤ (size x + 0) + 1
    either true e = let same : g ≡ x = cc in omega (arith, ap size same)
    either false e = cc
size-braced (compound f (more x (more y ts))) g e = cc

weights-parts_of : (t : Term) → weights (parts_of t) ≤ size t
weights-parts_of t = either (braced t) refl
  where
    either : (o : Option Term) → braced t ≡ o → weights (parts_by o t) ≤ size t
    either None k = omega (arith, weight-part t)
    either (Some g) k = omega (arith, weights-goals (conjuncts g), sizes-conjuncts g, size-braced t g k)

weights-all : (ts : List Term) → weights (flat_map parts_of ts) ≤ sizes ts
weights-all [] = omega arith
weights-all (t ∷ ts) = omega (arith, weights-both (parts_of t) (flat_map parts_of ts), weights-parts_of t, weights-all ts)

weights-parts : (b : Term) → weights (parts b) ≤ size b
weights-parts b = omega (arith, weights-all (conjuncts b), sizes-conjuncts b)

weights-end : (end : List Part) → IsEnd end → weights end ≡ 0
weights-end end (inl e) = ap weights e
weights-end end (inr e) = ap weights e

pub size-clause : (n : ℕ) (h b : Term) → length (with_move (parts b)) ≤ 64 → size_of_tuple (clause_with n h (with_move (parts b))) ≤ most_symbols (rule_term h b)
size-clause n h b few =
    let k = with_end (parts b) in
    omega (
      arith,
      size-states h n (last_state n (with_move (parts b))),
      sizes-goals n (with_move (parts b)),
      ap weights k.is,
      weights-both (parts b) k.end,
      weights-end k.end k.is_end,
      weights-parts b,
    )
