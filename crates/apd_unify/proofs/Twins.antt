-- A variable that is written twice, one time right after the other.
use Rattle.std.proofs.Common.{◌≡◌, inr, ℕ, ◌+◌, ◌-◌, ◌<◌, List, ◌∷◌, ◌++◌, length, refl, sym, ◌∙◌, ap, subst, arith}
use Rattle.apd_term.specs.Term.{Term, variables}
use Rattle.apd_term.proofs.Spelling.{size_positive}
use Rattle.apd_cells.specs.Stored.{Stored}
use Rattle.apd_cells.specs.Store.{term_at, IsStore, IsTwin}
use Rattle.apd_unify.specs.Textbook.{Equation, size_equations}
use Rattle.apd_unify.specs.Unifying.{IsPairs, equations_of, IsPast, IsPastTwin, GoesOn}
use Rattle.apd_unify.specs.declared.unify.Pairs.{Pairs}
use Rattle.apd_unify.proofs.Pairing.{is_past, split_pairs, rest_of}
use Rattle.apd_unify.proofs.Rounds.{IsRound}
use Rattle.apd_unify.proofs.Measure.{most_steps-lt}
use Rattle.apd_unify.proofs.Rounding.{Unifying, Proceeds, proceeds_on, unifying_on}
use Rattle.std.specs.Prelude.{Some}
use Rattle.apd_cells.proofs.Skipping.{two_inside, twin_same, twin_size}

-- the pairs behind a pair that comes again
pub past_twin_is : (s : Stored) (p next : Pairs) → IsStore s.cells s.variables s.trail → IsPairs s.cells p → 1 < p.left → IsTwin s p.a → IsTwin s p.b
    → next ≡ record { a = p.a + 1; b = p.b + 1; left = p.left - 1 } → IsPastTwin s p next
past_twin_is s p next h r l t u is =
    let la = two_inside s.cells p.a p.left r.left_run l in
    let lb = two_inside s.cells p.b p.left r.right_run l in
    let past : IsPast s p next = is_past s p next h r (omega arith) (is ∙ rw (twin_size s p.a t la, twin_size s p.b u lb) refl) in
    record {
      past = past;
      some = rw is (omega arith);
      a_again = rw is (twin_same s p.a t la);
      b_again = rw is (twin_same s p.b u lb);
    }

-- an equation that comes again is left out
twin_round : (a b : Term) (e : Equation) (es : List Equation) (found : List (ℕ × Term)) → IsRound a b (e ∷ e ∷ es) found → IsRound a b (e ∷ es) found
twin_round a b e es found h = record {
  unifies = λ u g. (h.unifies u g).1;
  solves = λ u g. h.solves u (g.0, g);
  kept = h.kept;
  inside = λ w o. h.inside w (inr o);
  brings = h.brings;
  free = λ w o. h.free w (inr o);
  distinct = h.distinct;
}

unifying_twin : (old s : Stored) (a b : ℕ) (p next : Pairs) (ps : List Pairs) → Unifying old s a b (p ∷ ps) → IsPastTwin s p next → Proceeds old s s a b (p ∷ ps) (next ∷ ps)
unifying_twin old s a b p next ps h k =
    let first : Equation = (term_at s p.a, term_at s p.b) in
    let rest = rest_of s next ++ equations_of s ps in
    let e : equations_of s (p ∷ ps) ≡ first ∷ equations_of s (next ∷ ps) = ap (λ z. z ++ equations_of s ps) k.past.first in
    let f : equations_of s (next ∷ ps) ≡ first ∷ rest = ap (λ z. z ++ equations_of s ps) (split_pairs s next k.past.right k.some) ∙ rw (k.a_again, k.b_again) refl in
    let r = subst (λ es. IsRound (term_at old a) (term_at old b) es h.found) (e ∙ ap (λ z. first ∷ z) f) h.round in
    let N = length (variables (term_at old a) ++ variables (term_at old b)) - (length s.trail - length old.trail) in
    record {
      kept = record {
        same_cells = h.same_cells;
        same_variables = h.same_variables;
        keeps = h.keeps;
        right = (k.past.right, h.right.1);
        found = h.found;
        round = subst (λ es. IsRound (term_at old a) (term_at old b) es h.found) (sym f) (twin_round (term_at old a) (term_at old b) first rest h.found r);
        made = h.made;
        count = h.count;
      };
      smaller = most_steps-lt N (size_equations (equations_of s (next ∷ ps))) (size_equations (equations_of s (p ∷ ps)))
          (omega (arith, ap size_equations e, size_positive (term_at s p.a)));
    }

pub turn_twin : (old s : Stored) (a b : ℕ) (here : Pairs) (ps : List Pairs) (next : Pairs) (qs : List Pairs) (out : Pairs) → Unifying old s a b (here ∷ ps) → GoesOn here ps (Some next) qs
    → IsPastTwin s next out → Proceeds old s s a b (here ∷ ps) (out ∷ qs)
turn_twin old s a b here ps next qs out h g k =
    proceeds_on old s s a b here next ps qs (out ∷ qs) g (unifying_twin old s a b next out qs (unifying_on old s a b here next ps qs h g) k)
