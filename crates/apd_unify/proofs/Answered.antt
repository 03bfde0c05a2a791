-- What an answer on two terms says, fact by fact.
use Rattle.std.proofs.Common.{ℕ, Option, Some, None, List, refl, sym}
use Rattle.std.specs.Prelude.{◌↔◌, IfSome, IsNone}
use Rattle.apd_term.specs.Term.{Term}
use Rattle.apd_term.specs.Substitution.{term_for, Unifies}
use Rattle.apd_unify.specs.Unifier.{FactorsUnifiers, IsMostGeneral, BringsNoVariable, HasNoUnifier, IsAnswer}

-- the idempotent form of most general implies the textbook's
pub FactorsUnifiers_from_most_general : (s : ℕ → Term) (a b : Term) → IsMostGeneral s a b → FactorsUnifiers s a b
FactorsUnifiers_from_most_general s a b h u k = (u, λ v. sym (h u k v))

pub unifies : (a b : Term) (x : Option (List (ℕ × Term))) → IsAnswer a b x → IfSome x (λ s. Unifies (term_for s) a b)
unifies a b None h = tt
unifies a b (Some s) h = h.unifies

pub most_general : (a b : Term) (x : Option (List (ℕ × Term))) → IsAnswer a b x → IfSome x (λ s. FactorsUnifiers (term_for s) a b)
most_general a b None h = tt
most_general a b (Some s) h = FactorsUnifiers_from_most_general (term_for s) a b h.most_general

pub idempotent : (a b : Term) (x : Option (List (ℕ × Term))) → IsAnswer a b x → IfSome x (λ s. IsMostGeneral (term_for s) a b)
idempotent a b None h = tt
idempotent a b (Some s) h = h.most_general

pub brings_no_variable : (a b : Term) (x : Option (List (ℕ × Term))) → IsAnswer a b x → IfSome x (λ s. BringsNoVariable s a b)
brings_no_variable a b None h = tt
brings_no_variable a b (Some s) h = h.brings

pub none_exactly : (a b : Term) (x : Option (List (ℕ × Term))) → IsAnswer a b x → IsNone x ↔ HasNoUnifier a b
none_exactly a b None h = (λ e. h, λ n. refl)
none_exactly a b (Some s) h = (λ e. (cc), λ n. absurd (n (term_for s) h.unifies))
