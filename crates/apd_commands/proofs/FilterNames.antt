-- The names of a filter that a term tells.
use Rattle.std.proofs.Common.{◌≡◌, ℕ, ◌<◌, Bool, true, false, ◌==◌, List, [], ◌∷◌, Option, None, Some, if◌then◌else◌, refl, subst}
use Rattle.std.specs.Option.{option_and_then, option_map}
use Rattle.std.specs.Prelude.{IfSome}
use Rattle.apd_term.proofs.Listed.{listed-named}
use Rattle.apd_term.specs.Listed.{each_as, listed, listed_as}
use Rattle.apd_term.specs.Named.{AllNamed, IsNamed}
use Rattle.apd_term.specs.Term.{Term, variable, integer, compound, none, more}
use Rattle.apd_term.specs.declared.standard.TheConstants.{ALL, LEAP, OFF, SKIP}
use Rattle.apd_term.specs.declared.term.Pred.{Pred}
use Rattle.apd_ports.specs.declared.filter.Filter.{Filter}
use Rattle.apd_ports.specs.declared.filter.Filter.TheVariants.{Off, All, Leap, Skip}
use Rattle.apd_clauses.specs.Indicators.{predicate_from}
use Rattle.apd_clauses.proofs.Indicating.{predicate_known}
use Rattle.apd_text.specs.FilterTerms.{FilterIsNamed, PredsAreNamed}
use Rattle.apd_commands.specs.Filters.{box_from, filter_at, filter_from}

-- predicates that terms are have their names
known_each : (n : ℕ) (ts : List Term) (ps : List Pred) → AllNamed n ts → each_as predicate_from ts ≡ Some ps → PredsAreNamed n ps
known_each n [] ps named e = let same : [] ≡ ps = cc in subst (PredsAreNamed n) same tt
known_each n (t ∷ ts) ps named e = either (predicate_from t) (each_as predicate_from ts) (λ p is. predicate_known n t p named.0 is) (λ qs is. known_each n ts qs named.1 is) e
  where
    either : (o : Option Pred) (os : Option (List Pred)) → ((p : Pred) → o ≡ Some p → p.name.0 < n) → ((qs : List Pred) → os ≡ Some qs → PredsAreNamed n qs)
        → option_and_then (λ p. option_map (λ qs. p ∷ qs) os) o ≡ Some ps → PredsAreNamed n ps
    either None os first others e = absurd (cc)
    either (Some p) None first others e = absurd (cc)
    either (Some p) (Some qs) first others e = let same : p ∷ qs ≡ ps = cc in subst (PredsAreNamed n) same (first p refl, others qs refl)

listed_known : (n : ℕ) (t : Term) (ps : List Pred) → IsNamed n t → listed_as predicate_from t ≡ Some ps → PredsAreNamed n ps
listed_known n t ps named e = either (listed t) (listed-named n t named) e
  where
    either : (o : Option (List Term)) → IfSome o (AllNamed n) → option_and_then (each_as predicate_from) o ≡ Some ps → PredsAreNamed n ps
    either None h e = absurd (cc)
    either (Some ts) h e = known_each n ts ps h e

leap_known : (n : ℕ) (o : Option (List Pred)) (f : Filter) → ((ps : List Pred) → o ≡ Some ps → PredsAreNamed n ps) → option_map Leap o ≡ Some f → FilterIsNamed n f
leap_known n None f known e = absurd (cc)
leap_known n (Some ps) f known e = let same : Leap ps ≡ f = cc in subst (FilterIsNamed n) same (known ps refl)

skip_known : (n : ℕ) (o : Option ℕ) (f : Filter) → option_map Skip o ≡ Some f → FilterIsNamed n f
skip_known n None f e = absurd (cc)
skip_known n (Some b) f e = let same : Skip b ≡ f = cc in subst (FilterIsNamed n) same tt

plain_known : (n : ℕ) (a b : Bool) (f : Filter) → (if a then Some Off else (if b then Some All else None)) ≡ Some f → FilterIsNamed n f
plain_known n true b f e = let same : Off ≡ f = cc in subst (FilterIsNamed n) same tt
plain_known n false true f e = let same : All ≡ f = cc in subst (FilterIsNamed n) same tt
plain_known n false false f e = absurd (cc)

told_known : (n : ℕ) (t : Term) (f : Filter) → IsNamed n t → filter_from t ≡ Some f → FilterIsNamed n f
told_known n (variable v) f named e = absurd (cc)
told_known n (integer i) f named e = absurd (cc)
told_known n (compound g none) f named e = plain_known n (g.0 == OFF.0) (g.0 == ALL.0) f e
told_known n (compound g (more t none)) f named e = either (g.0 == LEAP.0) (g.0 == SKIP.0) e
  where
    either : (a b : Bool) → (if a then option_map Leap (listed_as predicate_from t) else (if b then option_map Skip (box_from t) else None)) ≡ Some f → FilterIsNamed n f
    either true b e = leap_known n (listed_as predicate_from t) f (λ ps is. listed_known n t ps named.1.0 is) e
    either false true e = skip_known n (box_from t) f e
    either false false e = absurd (cc)
told_known n (compound g (more t (more u ts))) f named e = absurd (cc)

-- the names of the filter are those of its term
pub filter_known : (n : ℕ) (t : Term) (f : Filter) → IsNamed n t → filter_at t ≡ Some f → FilterIsNamed n f
filter_known n (variable v) f named e = absurd (cc)
filter_known n (integer i) f named e = absurd (cc)
filter_known n (compound g none) f named e = absurd (cc)
filter_known n (compound g (more t ts)) f named e = told_known n t f named.1.0 e
