-- A term without variables that a new variable is bound to.
use Rattle.std.proofs.Common.{◌≡◌, ℕ, ◌+◌, ◌-◌, ◌<◌, length, get_or, refl, sym, ◌∙◌, ap, subst, arith}
use Rattle.std.proofs.lemmas.List.{length-append, get_or-append_right}
use Rattle.apd_term.specs.declared.term.Sym.TheVariants.{Var}
use Rattle.apd_term.specs.Term.{Term, variable, integer, compound, apply, spell, variables, IsGround, Occurs, IsAmong}
use Rattle.apd_term.specs.Canonical.{shifted}
use Rattle.apd_term.specs.Substitution.{term_for, single}
use Rattle.apd_term.proofs.Ground.{apply-ground}
use Rattle.apd_term.proofs.Spelling.{some_symbol}
use Rattle.apd_cells.specs.declared.heap.Binding.TheVariants.{Free}
use Rattle.apd_unify.specs.Copies.{HasShared}
use Rattle.apd_cells.specs.Stored.{Stored}
use Rattle.apd_cells.specs.Store.{above, binding_of, bound, loaded, meaning, term_at, written, IsSound, Keeps, MayBind}
use Rattle.apd_cells.proofs.Bindings.{meaning-bound-applied, Keeps-bound}
use Rattle.apd_cells.proofs.Keeping.{term_at-loaded, term_at-others, Keeps-loaded, Keeps-trans}
use Rattle.apd_cells.proofs.Meaning.{apply-absent}
use Rattle.apd_cells.proofs.Numbering.{is_numbered}
use Rattle.apd_cells.proofs.Standing.{shifted_zero}
use Rattle.apd_cells.proofs.Undoing.{free-above}

no_variable_first : (t : Term) (w : ℕ) → IsGround t → get_or (spell t) 0 (Var 0) ≡ Var w → ⊥
no_variable_first (variable v) w g e = cc
no_variable_first (integer i) w g e = cc
no_variable_first (compound f ts) w g e = cc

ground_absent : (t : Term) (v : ℕ) → IsGround t → ¬ Occurs v t
ground_absent t v g o = subst (λ vs. IsAmong vs v) g o

-- a new variable v was loaded, and then a term t without variables
module _ (old s1 s2 : Stored) (v to : ℕ) (t : Term) (sound : IsSound old) (sound1 : IsSound s1) (g : IsGround t) (is : v ≡ old.variables)
    (first : s1 ≡ loaded old (variable v) 0) (second : s2 ≡ loaded s1 t 0) (there : to ≡ length s1.cells) where
  same_term : shifted 0 t ≡ t
  same_term = shifted_zero t

  count1 : s1.variables ≡ old.variables + 1
  count1 = ap (λ (s : Stored). s.variables) first ∙ omega (arith, is)

  count2 : s2.variables ≡ s1.variables
  count2 = ap (λ (s : Stored). s.variables) second ∙ ap (λ u. above s1.variables (variables u)) same_term ∙ ap (above s1.variables) g

  cells1 : length s1.cells ≡ length old.cells + 1
  cells1 = ap (λ (s : Stored). length s.cells) first ∙ length-append old.cells (spell (shifted 0 (variable v)))

  cells2 : length s2.cells ≡ length s1.cells + length (spell (shifted 0 t))
  cells2 = ap (λ (s : Stored). length s.cells) second ∙ length-append s1.cells (spell (shifted 0 t))

  term_there : term_at s2 to ≡ t
  term_there =
      ap (term_at s2) there ∙ ap (λ (s : Stored). term_at s (length s1.cells)) second ∙ term_at-loaded s1 t 0
      ∙ ap (apply (meaning s1.cells s1.trail)) same_term ∙ apply-ground (meaning s1.cells s1.trail) t g

  is_free : binding_of s2.trail v ≡ Free
  is_free =
      ap (λ (s : Stored). binding_of s.trail v) second ∙ ap (λ (s : Stored). binding_of s.trail v) first
      ∙ free-above old.cells old.variables old.trail v sound (omega (arith, is))

  pub may_share : MayBind s2.cells s2.variables s2.trail v to
  may_share = record {
    inside = omega (arith, there, cells2, some_symbol (shifted 0 t));
    below = omega (arith, count1, count2, is);
    free = is_free;
    acyclic = λ o. ground_absent t v g (subst (Occurs v) term_there o);
    down = λ w e. absurd (no_variable_first t w g (first_symbol w e));
  }
    where
      first_symbol : (w : ℕ) → get_or s2.cells to (Var 0) ≡ Var w → get_or (spell t) 0 (Var 0) ≡ Var w
      first_symbol w e =
          let z : length s1.cells - length s1.cells ≡ 0 = omega arith in
          ap (λ u. get_or (spell u) 0 (Var 0)) (sym same_term)
          ∙ ap (λ i. get_or (spell (shifted 0 t)) i (Var 0)) (sym z)
          ∙ sym (get_or-append_right s1.cells (spell (shifted 0 t)) (length s1.cells) (length s1.cells) (Var 0) refl (omega arith))
          ∙ ap (λ (s : Stored). get_or s.cells (length s1.cells) (Var 0)) (sym second) ∙ ap (λ c. get_or s2.cells c (Var 0)) (sym there) ∙ e

  module _ (s3 : Stored) (third : s3 ≡ bound s2 v to) where
    others3 : (c : ℕ) → c < length old.cells → term_at s3 c ≡ term_at old c
    others3 c l =
        let before : term_at s2 c ≡ term_at old c =
        ap (λ (s : Stored). term_at s c) second ∙ term_at-others s1 t 0 c sound1 (omega (arith, cells1))
        ∙ ap (λ (s : Stored). term_at s c) first ∙ term_at-others old (variable v) 0 c sound l in
        ap (λ (s : Stored). term_at s c) third
        ∙ meaning-bound-applied s2 v to (written s2.cells c)
        ∙ ap (λ x. apply (term_for (single v x)) (term_at s2 c)) term_there
        ∙ ap (apply (term_for (single v t))) before
        ∙ apply-absent v t (term_at old c) (λ o. (let b = (is_numbered old sound).below c v l o in omega (arith, b, is)))

    pub has_shared : HasShared old s3
    has_shared = record {
      cells = omega (arith, ap (λ (s : Stored). length s.cells) third, cells1, cells2);
      others = others3;
    }

    pub keeps_shared : Keeps old s3
    keeps_shared =
        subst (Keeps old) (sym third)
        (Keeps-bound old s2 v to
        (Keeps-trans old s1 s2
        (subst (Keeps old) (sym first) (Keeps-loaded old (variable v) 0))
        (subst (Keeps s1) (sym second) (Keeps-loaded s1 t 0))))
