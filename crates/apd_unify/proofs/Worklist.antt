-- What the program that solves equations by the textbook's rules keeps.
use Rattle.std.proofs.Common.{◌≡◌, ◌⊎◌, inl, inr, ℕ, zero, suc, ◌+◌, ◌-◌, ◌<◌, ◌≤◌, Some, None, List, [], ◌∷◌, ◌++◌, length, drop, map, refl, sym, ◌∙◌, ap, subst, arith}
use Rattle.std.specs.List.{zip, slice_get}
use Rattle.std.proofs.lemmas.List.{map-append}
use Rattle.apd_term.specs.Term.{Term, arguments, size, apply, variables}
use Rattle.apd_term.proofs.Spelling.{size_positive}
use Rattle.apd_term.specs.Substitution.{term_for, IsFree, single, extended}
use Rattle.apd_unify.specs.declared.rule.Rule.{Rule}
use Rattle.apd_unify.specs.declared.rule.Rule.TheVariants.{Delete, Decompose, Clash, Cycle, Eliminate}
use Rattle.apd_unify.specs.Textbook.{Equation, apply_equations, size_equations, rule_for, solution_in, unifier_of}
use Rattle.apd_unify.proofs.Measure.{most_steps, most_steps-lt, steps_eliminated}
use Rattle.apd_unify.proofs.Rounds.{IsRound, apply_equations-append, first_round, fewer_left}
use Rattle.apd_unify.proofs.Rules.{IsRightRule, rule_for-right}
use Rattle.apd_unify.proofs.Textbook.{after_rule, deleted_round, decomposed_round, eliminated_round}

-- the equations that are left, with the pairs found, have the answer that the first equation has
pub record IsUnderWay (a b : Term) (es : List Equation) (found : List (ℕ × Term)) : Type 0 where
  pub round : IsRound a b es found
  pub eliminations : ℕ
  pub steps : ℕ
  pub left : length (variables a ++ variables b) - length found < eliminations
  pub enough : size_equations es ≤ steps
  pub same : solution_in eliminations steps es found ≡ unifier_of a b

pub under_way_first : (a b : Term) → IsUnderWay a b ((a, b) ∷ []) []
under_way_first a b = record {
  round = first_round a b;
  eliminations = suc (length (variables a ++ variables b));
  steps = size a + size b;
  left = omega arith;
  enough = omega arith;
  same = refl;
}

-- what one rule does, with the two numbers taken apart
record Unrolled (a b : Term) (e : Equation) (es : List Equation) (found : List (ℕ × Term)) (rule : Rule) : Type 0 where
  n : ℕ
  m : ℕ
  left : length (variables a ++ variables b) - length found < suc n
  enough : size_equations (e ∷ es) ≤ suc m
  same : after_rule n m e es found rule ≡ unifier_of a b

unrolled : (a b : Term) (e : Equation) (es : List Equation) (found : List (ℕ × Term)) (rule : Rule) → IsUnderWay a b (e ∷ es) found → rule ≡ rule_for e.0 e.1
    → Unrolled a b e es found rule
unrolled a b e es found rule w is = apart w.eliminations w.steps w.left w.enough w.same
  where
    apart : (n m : ℕ) → length (variables a ++ variables b) - length found < n → size_equations (e ∷ es) ≤ m → solution_in n m (e ∷ es) found ≡ unifier_of a b
        → Unrolled a b e es found rule
    apart zero m l k s = absurd (omega arith)
    apart (suc n) zero l k s = absurd (omega (arith, size_positive e.0))
    apart (suc n) (suc m) l k s = record { n = n; m = m; left = l; enough = k; same = ap (after_rule n m e es found) is ∙ s }

right_rule : (e : Equation) (rule : Rule) → rule ≡ rule_for e.0 e.1 → IsRightRule e.0 e.1 rule
right_rule e rule is = subst (IsRightRule e.0 e.1) (sym is) (rule_for-right e.0 e.1)

pub under_way_deleted : (a b : Term) (e : Equation) (es : List Equation) (found : List (ℕ × Term)) → IsUnderWay a b (e ∷ es) found → Delete ≡ rule_for e.0 e.1
    → IsUnderWay a b es found
under_way_deleted a b e es found w is =
    let u = unrolled a b e es found Delete w is in
    record {
      round = deleted_round a b e es found w.round (right_rule e Delete is);
      eliminations = suc u.n;
      steps = u.m;
      left = u.left;
      enough = omega (arith, u.enough, size_positive e.0);
      same = u.same;
    }

pub under_way_decomposed : (a b : Term) (e : Equation) (es : List Equation) (found : List (ℕ × Term)) → IsUnderWay a b (e ∷ es) found → Decompose ≡ rule_for e.0 e.1
    → IsUnderWay a b (zip (arguments e.0) (arguments e.1) ++ es) found
under_way_decomposed a b e es found w is =
    let u = unrolled a b e es found Decompose w is in
    let k = decomposed_round a b e es found w.round (right_rule e Decompose is) in
    record {
      round = k.0;
      eliminations = suc u.n;
      steps = u.m;
      left = u.left;
      enough = omega (arith, u.enough, k.1);
      same = u.same;
    }

pub under_way_refused : (a b : Term) (e : Equation) (es : List Equation) (found : List (ℕ × Term)) (rule : Rule) → IsUnderWay a b (e ∷ es) found → rule ≡ rule_for e.0 e.1
    → ((rule ≡ Clash) ⊎ (rule ≡ Cycle)) → None ≡ unifier_of a b
under_way_refused a b e es found rule w is (inl c) = (unrolled a b e es found Clash w (sym c ∙ is)).same
under_way_refused a b e es found rule w is (inr c) = (unrolled a b e es found Cycle w (sym c ∙ is)).same

pub under_way_eliminated : (a b : Term) (e : Equation) (es : List Equation) (found : List (ℕ × Term)) (v : ℕ) (t : Term) → IsUnderWay a b (e ∷ es) found
    → Eliminate v t ≡ rule_for e.0 e.1 → IsUnderWay a b (apply_equations (term_for (single v t)) es) (extended found v t)
under_way_eliminated a b e es found v t w is =
    let u = unrolled a b e es found (Eliminate v t) w is in
    let rest = apply_equations (term_for (single v t)) es in
    let r = eliminated_round a b e es found v t w.round (right_rule e (Eliminate v t) is) in
    record {
      round = r;
      eliminations = u.n;
      steps = size_equations rest;
      left = omega (arith, u.left, fewer_left a b rest found v t r);
      enough = omega arith;
      same = u.same;
    }

-- each rule leaves fewer steps, although an elimination may make the equations larger
pub steps_deleted : (a b : Term) (e : Equation) (es : List Equation) (found : List (ℕ × Term))
    → most_steps (length (variables a ++ variables b) - length found) (size_equations es)
    < most_steps (length (variables a ++ variables b) - length found) (size_equations (e ∷ es))
steps_deleted a b e es found =
    most_steps-lt (length (variables a ++ variables b) - length found) (size_equations es) (size_equations (e ∷ es)) (omega (arith, size_positive e.0))

pub steps_decomposed : (a b : Term) (e : Equation) (es : List Equation) (found : List (ℕ × Term)) → IsUnderWay a b (e ∷ es) found → Decompose ≡ rule_for e.0 e.1
    → most_steps (length (variables a ++ variables b) - length found) (size_equations (zip (arguments e.0) (arguments e.1) ++ es))
    < most_steps (length (variables a ++ variables b) - length found) (size_equations (e ∷ es))
steps_decomposed a b e es found w is =
    most_steps-lt (length (variables a ++ variables b) - length found) (size_equations (zip (arguments e.0) (arguments e.1) ++ es)) (size_equations (e ∷ es))
    (decomposed_round a b e es found w.round (right_rule e Decompose is)).1

-- one more place of the arguments
zip_at : (ts us : List Term) (i : ℕ) (x y : Term) → slice_get ts i ≡ Some x → slice_get us i ≡ Some y
    → zip (drop i ts) (drop i us) ≡ (x, y) ∷ zip (drop (suc i) ts) (drop (suc i) us)
zip_at [] us i x y e f = cc
zip_at (t ∷ ts) [] i x y e f = cc
zip_at (t ∷ ts) (u ∷ us) zero x y e f =
    let g : t ≡ x = cc in
    let h : u ≡ y = cc in
    cc
zip_at (t ∷ ts) (u ∷ us) (suc i) x y e f = zip_at ts us i x y e f

pub pushed_place : (ts us : List Term) (k : ℕ) (x y : Term) (rest before after : List Equation) → 0 < k
    → slice_get ts (k - 1) ≡ Some x → slice_get us (k - 1) ≡ Some y
    → before ≡ zip (drop k ts) (drop k us) ++ rest → after ≡ (x, y) ∷ before
    → after ≡ zip (drop (k - 1) ts) (drop (k - 1) us) ++ rest
pushed_place ts us k x y rest before after l e f g h =
    let n : suc (k - 1) ≡ k = omega arith in
    let z : zip (drop (k - 1) ts) (drop (k - 1) us) ≡ (x, y) ∷ zip (drop k ts) (drop k us) =
    zip_at ts us (k - 1) x y e f ∙ ap (λ j. (x, y) ∷ zip (drop j ts) (drop j us)) n in
    h ∙ ap (λ r. (x, y) ∷ r) g ∙ ap (λ r. r ++ rest) (sym z)

-- one more equation with the substitution applied
pub substituted_more : {X : Type 0} (f : X → Equation) (s : ℕ → Term) (ys : List X) (y : X) (before after : List Equation) (l r : Term)
    → before ≡ apply_equations s (map f ys) → l ≡ apply s (f y).0 → r ≡ apply s (f y).1 → after ≡ before ++ (l, r) ∷ []
    → after ≡ apply_equations s (map f (ys ++ y ∷ []))
substituted_more f s ys y before after l r e g h i =
    let m : apply_equations s (map f (ys ++ y ∷ [])) ≡ apply_equations s (map f ys) ++ (apply s (f y).0, apply s (f y).1) ∷ [] =
    ap (apply_equations s) (map-append f ys (y ∷ [])) ∙ apply_equations-append s (map f ys) (f y ∷ []) in
    rw (i, e, g, h) (sym m)

-- one round of the program: what it kept still holds, and fewer steps are left
pub record Proceeds (a b : Term) (items : List Equation) (found : List (ℕ × Term)) (items' : List Equation) (found' : List (ℕ × Term)) : Type 0 where
  pub kept : IsUnderWay a b items' found'
  pub smaller : most_steps (length (variables a ++ variables b) - length found') (size_equations items')
      < most_steps (length (variables a ++ variables b) - length found) (size_equations items)

-- the rule for the first equation, as the program has taken it from the list
pub record Takes (a b l r : Term) (items rest : List Equation) (found : List (ℕ × Term)) (rule : Rule) : Type 0 where
  pub under_way : IsUnderWay a b items found
  pub first : items ≡ (l, r) ∷ rest
  pub right : rule ≡ rule_for l r

pub proceeds_deleted : (a b l r : Term) (items rest items' : List Equation) (found found' : List (ℕ × Term)) (rule : Rule) → Takes a b l r items rest found rule → rule ≡ Delete
    → items' ≡ rest → found' ≡ found → Proceeds a b items found items' found'
proceeds_deleted a b l r items rest items' found found' rule k is i f =
    let w = subst (λ es. IsUnderWay a b es found) k.first k.under_way in
    rw (i, f, k.first) (record {
      kept = under_way_deleted a b (l, r) rest found w (sym is ∙ k.right);
      smaller = steps_deleted a b (l, r) rest found;
    })

pub proceeds_decomposed : (a b l r : Term) (items rest items' : List Equation) (found found' : List (ℕ × Term)) (rule : Rule) → Takes a b l r items rest found rule → rule ≡ Decompose
    → items' ≡ zip (arguments l) (arguments r) ++ rest → found' ≡ found → Proceeds a b items found items' found'
proceeds_decomposed a b l r items rest items' found found' rule k is i f =
    let w = subst (λ es. IsUnderWay a b es found) k.first k.under_way in
    rw (i, f, k.first) (record {
      kept = under_way_decomposed a b (l, r) rest found w (sym is ∙ k.right);
      smaller = steps_decomposed a b (l, r) rest found w (sym is ∙ k.right);
    })

pub proceeds_eliminated : (a b l r : Term) (items rest items' : List Equation) (found found' one : List (ℕ × Term)) (rule : Rule) (v : ℕ) (t : Term)
    → Takes a b l r items rest found rule → rule ≡ Eliminate v t → one ≡ single v t
    → items' ≡ apply_equations (term_for one) rest → found' ≡ extended found v t → Proceeds a b items found items' found'
proceeds_eliminated a b l r items rest items' found found' one rule v t k is o i f =
    let w = subst (λ es. IsUnderWay a b es found) k.first k.under_way in
    rw (i, f, k.first, o) (record {
      kept = under_way_eliminated a b (l, r) rest found v t w (sym is ∙ k.right);
      smaller = steps_eliminated a b (l, r) rest found v t w.round (right_rule (l, r) (Eliminate v t) (sym is ∙ k.right));
    })

pub eliminated_free : (a b l r : Term) (items rest : List Equation) (found : List (ℕ × Term)) (rule : Rule) (v : ℕ) (t : Term)
    → Takes a b l r items rest found rule → rule ≡ Eliminate v t → IsFree v found
eliminated_free a b l r items rest found rule v t k is =
    let w = subst (λ es. IsUnderWay a b es found) k.first k.under_way in
    let e = right_rule (l, r) (Eliminate v t) (sym is ∙ k.right) in
    w.round.free v (inl e.there)

pub none_refused : (a b l r : Term) (items rest : List Equation) (found : List (ℕ × Term)) (rule : Rule)
    → Takes a b l r items rest found rule → ((rule ≡ Clash) ⊎ (rule ≡ Cycle)) → None ≡ unifier_of a b
none_refused a b l r items rest found rule k is =
    under_way_refused a b (l, r) rest found rule (subst (λ es. IsUnderWay a b es found) k.first k.under_way) k.right is
