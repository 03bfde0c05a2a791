-- The marks of root symbols: an instance of an atom that is no variable has the same.
use Rattle.std.proofs.Common.{◌≡◌, ℕ, true, List, [], ◌∷◌, get_or, None, Some, Bool, Result, Ok, Err, refl, sym, ap, ◌∙◌}
use Rattle.std.specs.Prelude.{IfOk, slice_get}
use Rattle.apd_term.specs.Term.{Term, variable, integer, compound, apply, spell}
use Rattle.apd_term.specs.Matching.{is_instance}
use Rattle.apd_term.specs.Substitution.{IsInstance}
use Rattle.apd_term.specs.declared.term.Sym.{Sym}
use Rattle.apd_term.proofs.Opposite.{is_instance-is}
use Rattle.apd_term.proofs.Spelling.{length-apply_all}
use Rattle.apd_marks.specs.Positions.{noted, top}
use Rattle.apd_index.specs.Retrieval.{has_special, is_below, root_mark}
use Rattle.apd_index.specs.Subterms.{position}

pub first-root : (t : Term) (d : Sym) → slice_get (noted (position top 1) (get_or (spell t) 0 d)) 0 ≡ root_mark t
first-root (variable v) d = refl
first-root (integer i) d = refl
first-root (compound f ts) d = refl

root-kept : (s : ℕ → Term) (t : Term) (m : ℕ) → root_mark t ≡ Some m → root_mark (apply s t) ≡ Some m
root-kept s (variable v) m e = absurd (cc)
root-kept s (integer i) m e = e
root-kept s (compound f ts) m e = rw (length-apply_all s ts) e

only : {x y : ℕ} → Some x ≡ Some y → x ≡ y
only e = cc

pub same-root : (a x : Term) (m n : ℕ) → root_mark a ≡ Some m → IsInstance x a → root_mark x ≡ Some n → m ≡ n
same-root a x m n e (s, is) f = only (sym (root-kept s a m e) ∙ ap root_mark is ∙ f)

-- each term is an instance of a variable
below-variable : (x : Term) (v : ℕ) → is_instance x (variable v) ≡ true
below-variable x v = (is_instance-is x (variable v)).1 ((λ w. x), refl)

variable-all : (xs : List Term) (a : Term) → root_mark a ≡ None → is_below a (slice_get xs 0) ≡ has_special xs a
variable-all xs (integer i) e = absurd (cc)
variable-all xs (compound f ts) e = absurd (cc)
variable-all [] (variable v) e = refl
variable-all (x ∷ xs) (variable v) e = rw (below-variable x v) refl

pub variable-is : {E : Type 0} (r : Result Bool E) (xs : List Term) (a : Term) → root_mark a ≡ None → IfOk r (λ b. b ≡ is_below a (slice_get xs 0)) → IfOk r (λ b. b ≡ has_special xs a)
variable-is (Ok b) xs a e h = h ∙ variable-all xs a e
variable-is (Err u) xs a e h = tt
