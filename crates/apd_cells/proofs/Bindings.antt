-- What one binding does.
use Rattle.std.proofs.Common.{◌≡◌, ◌≢◌, ◌⊎◌, inl, inr, ℕ, suc, ◌-◌, ◌≤◌, List, [], ◌∷◌, length, sym, ◌∙◌, ap, subst, arith}
use Rattle.std.proofs.lemmas.Bool.{cases_eq}
use Rattle.apd_term.specs.Term.{Term, variable, apply, variables, IsAmong, Occurs}
use Rattle.apd_term.specs.Substitution.{term_for, single}
use Rattle.apd_term.proofs.Among.{IsAmong-flat_map}
use Rattle.apd_term.proofs.Pairs.{term_for-same, term_for-other}
use Rattle.apd_term.proofs.Applying.{apply-followed_by, variables-apply}
use Rattle.apd_cells.specs.declared.heap.TrailNote.TheVariants.{Bound}
use Rattle.apd_cells.specs.Stored.{Stored}
use Rattle.apd_cells.specs.Store.{meaning, term_at, bound, before_notes, at_mark, Keeps}
use Rattle.apd_cells.proofs.Undoing.{at_mark-here, before_more}

-- the variables of a term with a single pair applied
pub Occurs-single : (v : ℕ) (t x : Term) (w : ℕ) → ¬ Occurs v t → Occurs w (apply (term_for (single v t)) x) → (v ≢ w) × (Occurs w t ⊎ Occurs w x)
Occurs-single v t x w n o =
    let one = term_for (single v t) in
    let f : ℕ → List ℕ = λ y. variables (one y) in
    let m = IsAmong-flat_map f (variables x) w (subst (λ r. IsAmong r w) (variables-apply one x) o) in
    elim (cases_eq v m.0) [
      | inl e ↦
          let in_t : Occurs w t = subst (λ y. Occurs w y) (term_for-same (v, t) [] m.0 e) m.2 in
          (λ q. n (subst (λ y. Occurs y t) (sym q) in_t), inl in_t)
      | inr d ↦
          let is : m.0 ≡ w = only m.0 (subst (λ y. Occurs w y) (term_for-other (v, t) [] m.0 d) m.2) in
          (λ q. d (q ∙ sym is), inr (subst (IsAmong (variables x)) is m.1))
    ]
  where
    only : (y : ℕ) → Occurs w (variable y) → y ≡ w
    only y (inl e) = e
    only y (inr b) = absurd b

-- a binding is a single pair applied to all
pub meaning-bound-applied : (s : Stored) (v to : ℕ) (t : Term) → apply (meaning s.cells (Bound v to ∷ s.trail)) t ≡ apply (term_for (single v (term_at s to))) (apply (meaning s.cells s.trail) t)
meaning-bound-applied s v to t = sym (apply-followed_by (meaning s.cells s.trail) (term_for (single v (term_at s to))) t)

-- a binding changes nothing at an earlier mark
pub at_mark-bound : (k : ℕ) (s : Stored) (v to : ℕ) → k ≤ length s.trail → at_mark k (bound s v to) ≡ at_mark k s
at_mark-bound k s v to l =
    let e : length (Bound v to ∷ s.trail) - k ≡ suc (length s.trail - k) = omega arith in
    ap (before_notes s.cells s.variables (Bound v to ∷ s.trail)) e
    ∙ before_more s.cells s.variables (Bound v to) s.trail (length s.trail - k)

pub Keeps-bound : (old s : Stored) (v to : ℕ) → Keeps old s → Keeps old (bound s v to)
Keeps-bound old s v to h = (omega (arith, h.0), at_mark-bound (length old.trail) s v to h.0 ∙ h.1)

pub Keeps-self : (s : Stored) → Keeps s s
Keeps-self s = (omega arith, at_mark-here (length s.trail) s (omega arith))
