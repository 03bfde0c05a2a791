-- Predicate indicators, symbol by symbol, and their names.
use Rattle.std.proofs.Common.{◌≡◌, ℕ, ◌<◌, Bool, true, false, ◌&&◌, ◌==◌, List, [], ◌++◌, length, Option, None, Some, if◌then◌else◌, refl, subst, ap, ◌∙◌, append_assoc, arith}
use Rattle.std.specs.Prelude.{pos, negsuc}
use Rattle.std.proofs.lemmas.Bool.Decides.{nat_tests}
use Rattle.std.proofs.lemmas.List.{append-nil}
use Rattle.apd_term.specs.Named.{IsNamed}
use Rattle.apd_term.specs.Term.{Term, Terms, variable, integer, compound, none, more, spell, spell_all, list_of}
use Rattle.apd_term.specs.declared.standard.TheConstants.{DIVIDE}
use Rattle.apd_term.specs.declared.term.Pred.{Pred}
use Rattle.apd_term.specs.declared.term.Sym.{Sym}
use Rattle.apd_clauses.specs.Indicators.{arity_from, indicated, name_alone, predicate_from}
use Rattle.apd_clauses.specs.IndicatorSymbols.{arity_in, named_in, predicate_in}

pub not_without_arguments : (t : Term) (ts : Terms) → (length (list_of (more t ts)) == 0) ≡ false
not_without_arguments t ts = grind (arith, nat_tests)

pub not_two_arguments : (t u v : Term) (ts : Terms) → (length (list_of (more t (more u (more v ts)))) == 2) ≡ false
not_two_arguments t u v ts = grind (arith, nat_tests)

pub if_and_false : {A : Type 0} (b : Bool) (o : Option A) → (if b && false then o else None) ≡ None
if_and_false true o = refl
if_and_false false o = refl

pub if_and_true : {A : Type 0} (b : Bool) (o : Option A) → (if b && true then o else None) ≡ (if b then o else None)
if_and_true true o = refl
if_and_true false o = refl

-- what the symbols of terms tell
arity_in-spell : (t : Term) (rest : List Sym) → arity_in (spell t ++ rest) ≡ arity_from t
arity_in-spell (variable v) rest = refl
arity_in-spell (integer (pos n)) rest = refl
arity_in-spell (integer (negsuc n)) rest = refl
arity_in-spell (compound f ts) rest = refl

named_in-spell : (a : Term) (rest : List Sym) → named_in (spell a ++ rest) ≡ indicated (name_alone a) (arity_in rest)
named_in-spell (variable v) rest = refl
named_in-spell (integer i) rest = refl
named_in-spell (compound f none) rest = refl
named_in-spell (compound f (more t ts)) rest = rw (not_without_arguments t ts) refl

pub predicate_in-spell : (t : Term) (rest : List Sym) → predicate_in (spell t ++ rest) ≡ predicate_from t
predicate_in-spell (variable v) rest = refl
predicate_in-spell (integer i) rest = refl
predicate_in-spell (compound f none) rest = if_and_false (f.0 == DIVIDE.0) (named_in rest)
predicate_in-spell (compound f (more a none)) rest = if_and_false (f.0 == DIVIDE.0) (named_in ((spell a ++ []) ++ rest))
predicate_in-spell (compound f (more a (more b none))) rest =
    let behind : (spell a ++ (spell b ++ [])) ++ rest ≡ spell a ++ (spell b ++ rest) = rw (append-nil (spell b)) (append_assoc (spell a) (spell b) rest) in
    let named : named_in ((spell a ++ (spell b ++ [])) ++ rest) ≡ indicated (name_alone a) (arity_from b) =
    ap named_in behind ∙ named_in-spell a (spell b ++ rest) ∙ ap (indicated (name_alone a)) (arity_in-spell b rest) in
    if_and_true (f.0 == DIVIDE.0) (named_in ((spell a ++ (spell b ++ [])) ++ rest)) ∙ ap (λ (o : Option Pred). if f.0 == DIVIDE.0 then o else None) named
predicate_in-spell (compound f (more a (more b (more c ts)))) rest =
    ap (λ (two : Bool). if (f.0 == DIVIDE.0) && two then named_in (spell_all (more a (more b (more c ts))) ++ rest) else None) (not_two_arguments a b c ts)
    ∙ if_and_false (f.0 == DIVIDE.0) (named_in (spell_all (more a (more b (more c ts))) ++ rest))

abbrev IfKnown : ℕ → Option Pred → Type 0
IfKnown n None = Unit {0}
IfKnown n (Some p) = p.name.0 < n

indicated_known : (n : ℕ) (a : Term) (arity : Option ℕ) (p : Pred) → IsNamed n a → indicated (name_alone a) arity ≡ Some p → p.name.0 < n
indicated_known n (variable v) arity p named e = absurd (cc)
indicated_known n (integer i) arity p named e = absurd (cc)
indicated_known n (compound f (more t ts)) arity p named e = absurd (cc)
indicated_known n (compound f none) None p named e = absurd (cc)
indicated_known n (compound f none) (Some k) p named e = subst (IfKnown n) e named.0

-- the name of a predicate is one of its indicator
pub predicate_known : (n : ℕ) (t : Term) (p : Pred) → IsNamed n t → predicate_from t ≡ Some p → p.name.0 < n
predicate_known n (variable v) p named e = absurd (cc)
predicate_known n (integer i) p named e = absurd (cc)
predicate_known n (compound f none) p named e = absurd (cc)
predicate_known n (compound f (more a none)) p named e = absurd (cc)
predicate_known n (compound f (more a (more b none))) p named e = either (f.0 == DIVIDE.0) e
  where
    either : (c : Bool) → (if c then indicated (name_alone a) (arity_from b) else None) ≡ Some p → p.name.0 < n
    either true e = indicated_known n a (arity_from b) p named.1.0 e
    either false e = absurd (cc)
predicate_known n (compound f (more a (more b (more c ts)))) p named e = absurd (cc)
