-- What the elements of a list are.
use Rattle.std.proofs.Common.{◌≡◌, ◌==◌, ℕ, Bool, true, false, List, [], ◌∷◌, ◌++◌, Option, Some, None, refl, ap, sym, append_assoc}
use Rattle.std.specs.Prelude.{IfSome, if◌then◌else◌}
use Rattle.std.specs.Option.{option_map}
use Rattle.apd_term.specs.Listed.{each_as, list_term, listed, listed_in}
use Rattle.apd_term.specs.Named.{AllNamed, AreNamed, IsNamed}
use Rattle.apd_term.specs.Term.{Term, Terms, variable, integer, compound, none, more}
use Rattle.apd_term.specs.declared.standard.TheConstants.{CELL, NIL}
use Rattle.apd_term.specs.declared.term.NameId.{NameId}

-- what the first terms are, before what the others are
abbrev pub with_front : {A : Type 0} → List A → Option (List A) → Option (List A)
with_front xs o = option_map (λ ys. xs ++ ys) o

pub with_front-none : {A : Type 0} (o : Option (List A)) → o ≡ with_front [] o
with_front-none None = refl
with_front-none (Some xs) = refl

front-more : {A : Type 0} (xs : List A) (x : A) (o : Option (List A)) → with_front xs (option_map (λ ys. x ∷ ys) o) ≡ with_front (xs ++ x ∷ []) o
front-more xs x None = refl
front-more xs x (Some ys) = ap Some (sym (append_assoc xs (x ∷ []) ys))

-- one more of the terms is something
pub with_front-more : {A : Type 0} (f : Term → Option A) (xs : List A) (t : Term) (x : A) (ts : List Term) → f t ≡ Some x → with_front xs (each_as f (t ∷ ts)) ≡ with_front (xs ++ x ∷ []) (each_as f ts)
with_front-more f xs t x ts is = rw is (front-more xs x (each_as f ts))

-- the elements of a list are what it was made of
pub listed-list : (ts : List Term) → listed (list_term ts) ≡ Some ts
listed-list [] = refl
listed-list (t ∷ ts) = ap (option_map (λ us. t ∷ us)) (listed-list ts)

-- the names of a list are those of its elements, and more
mutual
  pub listed-named : (n : ℕ) (t : Term) → IsNamed n t → IfSome (listed t) (AllNamed n)
  listed-named n (variable v) h = tt
  listed-named n (integer i) h = tt
  listed-named n (compound f ts) h = listed_in-named n f ts h.1

  listed_in-named : (n : ℕ) (f : NameId) (ts : Terms) → AreNamed n ts → IfSome (listed_in f ts) (AllNamed n)
  listed_in-named n f none h = either (f.0 == NIL.0)
    where
      either : (b : Bool) → IfSome (if b then Some [] else None) (AllNamed n)
      either true = tt
      either false = tt
  listed_in-named n f (more t none) h = tt
  listed_in-named n f (more t (more u none)) h = either (f.0 == CELL.0) (listed u) (listed-named n u h.1.0)
    where
      either : (b : Bool) (o : Option (List Term)) → IfSome o (AllNamed n) → IfSome (if b then option_map (λ us. t ∷ us) o else None) (AllNamed n)
      either true None x = tt
      either true (Some us) x = (h.0, x)
      either false o x = tt
  listed_in-named n f (more t (more u (more v ts))) h = tt
