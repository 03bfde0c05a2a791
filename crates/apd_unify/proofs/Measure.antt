-- The measure of textbook unification: each rule leaves fewer steps.
use Rattle.std.proofs.Common.{◌≡◌, inl, inr, ℕ, zero, suc, ◌+◌, ◌-◌, ◌*◌, ◌<◌, ◌≤◌, List, [], ◌∷◌, ◌++◌, length, ap, arith, mul-le-mul}
use Rattle.std.proofs.lemmas.Bool.{cases_eq}
use Rattle.apd_term.specs.Term.{Term, Terms, variable, integer, compound, none, more, size, size_all, apply, apply_all, variables}
use Rattle.apd_term.proofs.Spelling.{size_positive}
use Rattle.apd_term.specs.Substitution.{term_for, single, extended}
use Rattle.apd_term.proofs.Pairs.{term_for-same, term_for-other}
use Rattle.apd_unify.specs.Textbook.{Equation, apply_equations, size_equations}
use Rattle.apd_unify.proofs.Rounds.{IsRound, fewer_left, length-extended}
use Rattle.apd_unify.proofs.Rules.{Eliminates}
use Rattle.apd_unify.proofs.Textbook.{eliminated_round}

-- no less than the rules that equations of s symbols take, where n variables may be eliminated
abbrev pub most_steps : ℕ → ℕ → ℕ
most_steps zero s = s
most_steps (suc n) s = s + suc (most_steps n (s * s))

most_steps-le : (n s r : ℕ) → s ≤ r → most_steps n s ≤ most_steps n r
most_steps-le zero s r l = l
most_steps-le (suc n) s r l = omega (arith, most_steps-le n (s * s) (r * r) (mul-le-mul l l))

pub most_steps-lt : (n s r : ℕ) → s < r → most_steps n s < most_steps n r
most_steps-lt zero s r l = l
most_steps-lt (suc n) s r l =
    let k : s ≤ r = omega arith in
    omega (arith, most_steps-le n (s * s) (r * r) (mul-le-mul k k))

-- a substitution by terms of at most k symbols
mutual
  size-apply : (s : ℕ → Term) (k : ℕ) → 0 < k → ((v : ℕ) → size (s v) ≤ k) → (t : Term) → size (apply s t) ≤ size t * k
  size-apply s k p h (variable v) = omega (arith, h v)
  size-apply s k p h (integer i) = omega arith
  size-apply s k p h (compound f ts) = omega (arith, size_all-apply s k p h ts)

  size_all-apply : (s : ℕ → Term) (k : ℕ) → 0 < k → ((v : ℕ) → size (s v) ≤ k) → (ts : Terms) → size_all (apply_all s ts) ≤ size_all ts * k
  size_all-apply s k p h none = omega arith
  size_all-apply s k p h (more t ts) = omega (arith, size-apply s k p h t, size_all-apply s k p h ts)

size_equations-apply : (s : ℕ → Term) (k : ℕ) → 0 < k → ((v : ℕ) → size (s v) ≤ k) → (es : List Equation) → size_equations (apply_equations s es) ≤ size_equations es * k
size_equations-apply s k p h [] = omega arith
size_equations-apply s k p h (e ∷ es) =
    omega (arith, size-apply s k p h e.0, size-apply s k p h e.1, size_equations-apply s k p h es)

size-single : (v : ℕ) (t : Term) (w : ℕ) → size (term_for (single v t) w) ≤ size t
size-single v t w = elim (cases_eq v w) [
  | inl e ↦ omega (arith, ap size (term_for-same (v, t) [] w e))
  | inr n ↦ omega (arith, ap size (term_for-other (v, t) [] w n), size_positive t)
]

-- an elimination leaves fewer steps, although it may make the equations larger
pub steps_eliminated : (a b : Term) (e : Equation) (es : List Equation) (found : List (ℕ × Term)) (v : ℕ) (t : Term) → IsRound a b (e ∷ es) found → Eliminates e.0 e.1 v t
    → most_steps (length (variables a ++ variables b) - length (extended found v t)) (size_equations (apply_equations (term_for (single v t)) es))
    < most_steps (length (variables a ++ variables b) - length found) (size_equations (e ∷ es))
steps_eliminated a b e es found v t r k =
    let one = term_for (single v t) in
    let rest = apply_equations one es in
    let grown : size_equations rest ≤ size_equations es * size t = size_equations-apply one (size t) (size_positive t) (size-single v t) es in
    let es_within : size_equations es ≤ size_equations (e ∷ es) = omega arith in
    let t_within : size t ≤ size_equations (e ∷ es) = omega (arith, k.smaller) in
    let within : size_equations es * size t ≤ size_equations (e ∷ es) * size_equations (e ∷ es) = mul-le-mul es_within t_within in
    fewer (length (variables a ++ variables b) - length found) (length (variables a ++ variables b) - length (extended found v t))
    (size_equations (e ∷ es)) (size_equations rest)
    (let l = fewer_left a b rest found v t (eliminated_round a b e es found v t r k) in omega (arith, l, length-extended found v t))
    (omega arith)
  where
    fewer : (n m s r : ℕ) → n ≡ suc m → r ≤ s * s → most_steps m r < most_steps n s
    fewer n m s r q l = rw q (omega (arith, most_steps-le m r (s * s) l))
