-- What is read off two terms makes the one into the other.
use Rattle.std.proofs.Common.{◌≡◌, ◌⊎◌, inl, inr, ℕ, ◌==◌, true, if◌then◌else◌, List, [], ◌∷◌, Some, None, refl, sym, ◌∙◌, ap, subst, arith}
use Rattle.std.specs.Prelude.{◌↔◌, IsTrue}
use Rattle.std.specs.Option.{unwrap_or}
use Rattle.std.proofs.lemmas.Bool.{cases_eq, and_parts}
use Rattle.std.proofs.lemmas.Bool.Decides.{Decides-eqb, Decides-int_eq, nat_tests}
use Rattle.apd_term.specs.Term.{Term, Terms, variable, integer, compound, none, more, apply, apply_all, variables, variables_all, IsAmong, Occurs}
use Rattle.apd_term.specs.Substitution.{IsInstance, IsMatch, term_for, IsFree}
use Rattle.apd_term.specs.declared.term.NameId.{NameId}
use Rattle.apd_term.proofs.Among.{IsAmong-left, IsAmong-right, IsAmong-append}
use Rattle.apd_term.proofs.Variants.{apply-agree}
use Rattle.apd_term.specs.Matching.{same_term, same_terms, opposite, opposite_among, matching, is_instance}

-- the test of equal terms
mutual
  pub same_term-same : (t : Term) → same_term t t ≡ true
  same_term-same (variable v) = (Decides-eqb v v).1 refl
  same_term-same (integer i) = (Decides-int_eq i i).1 refl
  same_term-same (compound f ts) = rw ((Decides-eqb f.0 f.0).1 refl, same_terms-same ts) refl

  same_terms-same : (ts : Terms) → same_terms ts ts ≡ true
  same_terms-same none = refl
  same_terms-same (more t ts) = rw (same_term-same t, same_terms-same ts) refl

name_eta : (f g : NameId) → f.0 ≡ g.0 → f ≡ g
name_eta f g e = ap (λ n. record { 0 = n }) e

mutual
  pub same_term-equal : (a b : Term) → same_term a b ≡ true → a ≡ b
  same_term-equal (variable v) (variable w) e = ap variable ((Decides-eqb v w).0 e)
  same_term-equal (variable v) (integer j) e = absurd (cc)
  same_term-equal (variable v) (compound g us) e = absurd (cc)
  same_term-equal (integer i) (variable w) e = absurd (cc)
  same_term-equal (integer i) (integer j) e = ap integer ((Decides-int_eq i j).0 e)
  same_term-equal (integer i) (compound g us) e = absurd (cc)
  same_term-equal (compound f ts) (variable w) e = absurd (cc)
  same_term-equal (compound f ts) (integer j) e = absurd (cc)
  same_term-equal (compound f ts) (compound g us) e =
      let p = and_parts (f.0 == g.0) (same_terms ts us) e in
      ap (λ n. compound n ts) (name_eta f g ((Decides-eqb f.0 g.0).0 p.0)) ∙ ap (compound g) (same_terms-equal ts us p.1)

  same_terms-equal : (ts us : Terms) → same_terms ts us ≡ true → ts ≡ us
  same_terms-equal none none e = refl
  same_terms-equal none (more u us) e = absurd (cc)
  same_terms-equal (more t ts) none e = absurd (cc)
  same_terms-equal (more t ts) (more u us) e =
      let p = and_parts (same_term t u) (same_terms ts us) e in
      ap (λ x. more x ts) (same_term-equal t u p.0) ∙ ap (more u) (same_terms-equal ts us p.1)

pub same_term-is : (a b : Term) → IsTrue (same_term a b) ↔ (a ≡ b)
same_term-is a b = (same_term-equal a b, λ e. subst (λ x. same_term a x ≡ true) e (same_term-same a))

mutual
  pub opposite-same : (s : ℕ → Term) (v : ℕ) (t : Term) → ((opposite v t (apply s t) ≡ Some (s v)) × Occurs v t) ⊎ ((opposite v t (apply s t) ≡ None) × (Occurs v t → ⊥))
  opposite-same s v (variable w) = elim (cases_eq w v) [
    | inl e ↦ inl (ap (λ b. if b then Some (s w) else None) ((Decides-eqb w v).1 e) ∙ ap (λ x. Some (s x)) e, inl e)
    | inr n ↦ inr (grind (arith, nat_tests), λ o. elim o [ inl e ↦ n e | inr b ↦ b ])
  ]
  opposite-same s v (integer i) = inr (refl, λ o. o)
  opposite-same s v (compound f ts) = opposite_among-same s v ts

  opposite_among-same : (s : ℕ → Term) (v : ℕ) (ts : Terms)
      → ((opposite_among v ts (apply_all s ts) ≡ Some (s v)) × IsAmong (variables_all ts) v) ⊎ ((opposite_among v ts (apply_all s ts) ≡ None) × (IsAmong (variables_all ts) v → ⊥))
  opposite_among-same s v none = inr (refl, λ o. o)
  opposite_among-same s v (more t ts) = elim (opposite-same s v t) [
    | inl h ↦ inl (rw h.0 refl, IsAmong-left (variables t) (variables_all ts) v h.1)
    | inr n ↦ (elim (opposite_among-same s v ts) [
      | inl h ↦ inl (rw (n.0, h.0) refl, IsAmong-right (variables t) (variables_all ts) v h.1)
      | inr m ↦ inr (rw (n.0, m.0) refl, λ o. elim (IsAmong-append (variables t) (variables_all ts) v o) [ inl a ↦ n.1 a | inr b ↦ m.1 b ])
    ])
  ]

-- each substitution that makes the general term into the special one puts that for its variables
pub matching-forced : (s : ℕ → Term) (general special : Term) → apply s general ≡ special → (v : ℕ) → Occurs v general → matching general special v ≡ s v
matching-forced s general special e v o = elim (opposite-same s v general) [
  | inl h ↦ ap (λ t. unwrap_or (opposite v general t) (variable v)) (sym e) ∙ ap (λ x. unwrap_or x (variable v)) h.0
  | inr n ↦ absurd (n.1 o)
]

pub matching-makes : (special general : Term) → IsInstance special general → apply (matching general special) general ≡ special
matching-makes special general i = apply-agree (matching general special) i.0 general (matching-forced i.0 general special i.1) ∙ i.1

-- and the other variables stay
mutual
  opposite-none : (v : ℕ) (t u : Term) → (Occurs v t → ⊥) → opposite v t u ≡ None
  opposite-none v (variable w) u n = elim (cases_eq w v) [ inl e ↦ absurd (n (inl e)) | inr m ↦ grind (arith, nat_tests) ]
  opposite-none v (integer i) u n = refl
  opposite-none v (compound f ts) (variable w) n = refl
  opposite-none v (compound f ts) (integer i) n = refl
  opposite-none v (compound f ts) (compound g us) n = opposite_among-none v ts us n

  opposite_among-none : (v : ℕ) (ts us : Terms) → (IsAmong (variables_all ts) v → ⊥) → opposite_among v ts us ≡ None
  opposite_among-none v none us n = refl
  opposite_among-none v (more t ts) none n = refl
  opposite_among-none v (more t ts) (more u us) n =
      rw (
        opposite-none v t u (λ o. n (IsAmong-left (variables t) (variables_all ts) v o)),
        opposite_among-none v ts us (λ o. n (IsAmong-right (variables t) (variables_all ts) v o)),
      ) refl

pub matching-stays : (special general : Term) (v : ℕ) → (Occurs v general → ⊥) → matching general special v ≡ variable v
matching-stays special general v n = ap (λ x. unwrap_or x (variable v)) (opposite-none v general special n)

pub is_instance-is : (special general : Term) → IsTrue (is_instance special general) ↔ IsInstance special general
is_instance-is special general = (
  λ e. (matching general special, same_term-equal (apply (matching general special) general) special e),
  λ i. subst (λ t. same_term t special ≡ true) (sym (matching-makes special general i)) (same_term-same special),
)

-- a variable without a pair stays
term_for-free : (ps : List (ℕ × Term)) (v : ℕ) → IsFree v ps → term_for ps v ≡ variable v
term_for-free [] v f = refl
term_for-free (p ∷ ps) v f = grind (arith, nat_tests, f.0, term_for-free ps v f.1)

free_or_not : (ps : List (ℕ × Term)) (v : ℕ) → IsFree v ps ⊎ (IsFree v ps → ⊥)
free_or_not [] v = inl tt
free_or_not (p ∷ ps) v = elim (cases_eq p.0 v) [
  | inl e ↦ inr (λ f. f.0 e)
  | inr n ↦ (elim (free_or_not ps v) [ inl f ↦ inl (n, f) | inr m ↦ inr (λ f. m f.1) ])
]

pub matching-only : (special general : Term) (s : List (ℕ × Term)) → IsMatch special general s → (v : ℕ) → term_for s v ≡ matching general special v
matching-only special general s m v = elim (opposite-same (term_for s) v general) [
  | inl h ↦ sym (matching-forced (term_for s) general special m.makes v h.1)
  | inr n ↦ (elim (free_or_not s v) [
    | inl f ↦ term_for-free s v f ∙ sym (matching-stays special general v n.1)
    | inr b ↦ absurd (n.1 (m.within v b))
  ])
]
