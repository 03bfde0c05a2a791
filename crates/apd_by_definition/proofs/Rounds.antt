-- A round of the textbook's rules.
use Rattle.std.proofs.Common.{◌≡◌, inl, inr, ℕ, List, ◌∷◌, None, Bool, true, false, refl}
use Rattle.apd_term.specs.Term.{Term}
use Rattle.apd_term.specs.Substitution.{IsFree, single}
use Rattle.apd_unify.specs.declared.rule.Rule.{Rule}
use Rattle.apd_unify.specs.declared.rule.Rule.TheVariants.{Delete, Decompose, Clash, Cycle, Eliminate}
use Rattle.apd_unify.specs.Textbook.{Equation, rule_for, unifier_of}
use Rattle.apd_unify.proofs.Worklist.{IsUnderWay, Proceeds, Takes, proceeds_deleted, proceeds_decomposed, proceeds_eliminated, eliminated_free, none_refused}
use Rattle.apd_by_definition.specs.Rules.{IsAfter}

module _ (a b l r : Term) (items rest : List Equation) (found : List (ℕ × Term)) (way : IsUnderWay a b items found) (first : items ≡ (l, r) ∷ rest) where
  taken : (rule : Rule) → rule ≡ rule_for l r → Takes a b l r items rest found rule
  taken rule right = record { under_way = way; first = first; right = right }

  -- a variable that is eliminated has no pair yet
  pub round_free : (v : ℕ) (t : Term) → rule_for l r ≡ Eliminate v t → IsFree v found
  round_free v t is = eliminated_free a b l r items rest found (rule_for l r) v t (taken (rule_for l r) refl) is

  module _ (items' : List Equation) (found' : List (ℕ × Term)) where
    goes_by : (rule : Rule) → rule ≡ rule_for l r → (goes : Bool) → goes ≡ true → IsAfter rule l r rest found goes items' found' → Proceeds a b items found items' found'
    goes_by Delete right goes is h = proceeds_deleted a b l r items rest items' found found' Delete (taken Delete right) refl h.1 h.2
    goes_by Decompose right goes is h = proceeds_decomposed a b l r items rest items' found found' Decompose (taken Decompose right) refl h.1 h.2
    goes_by Clash right goes is h = cc
    goes_by Cycle right goes is h = cc
    goes_by (Eliminate v t) right goes is h =
        proceeds_eliminated a b l r items rest items' found found' (single v t) (Eliminate v t) v t (taken (Eliminate v t) right) refl refl h.1 h.2

    ends_by : (rule : Rule) → rule ≡ rule_for l r → (goes : Bool) → goes ≡ false → IsAfter rule l r rest found goes items' found' → None ≡ unifier_of a b
    ends_by Delete right goes is h = let on = h.0 in cc
    ends_by Decompose right goes is h = let on = h.0 in cc
    ends_by Clash right goes is h = none_refused a b l r items rest found Clash (taken Clash right) (inl refl)
    ends_by Cycle right goes is h = none_refused a b l r items rest found Cycle (taken Cycle right) (inr refl)
    ends_by (Eliminate v t) right goes is h = let on = h.0 in cc

    -- it goes on, or there is no unifier
    pub round_goes : (goes : Bool) → goes ≡ true → IsAfter (rule_for l r) l r rest found goes items' found' → Proceeds a b items found items' found'
    round_goes goes is h = goes_by (rule_for l r) refl goes is h

    pub round_ends : (goes : Bool) → goes ≡ false → IsAfter (rule_for l r) l r rest found goes items' found' → None ≡ unifier_of a b
    round_ends goes is h = ends_by (rule_for l r) refl goes is h
