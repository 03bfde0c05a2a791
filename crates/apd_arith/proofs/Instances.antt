-- The values of a term's instances.
use Rattle.std.proofs.Common.{◌≡◌, ℕ, ℤ, refl, Bool, Option, Some, None, Ok, Err}
use Rattle.apd_term.specs.Term.{Term, variable, integer, compound, none, more, apply}
use Rattle.apd_arith.specs.declared.comparison.Comparison.{Comparison}
use Rattle.apd_arith.specs.declared.operation.UnaryOperation.{UnaryOperation}
use Rattle.apd_arith.specs.declared.operation.BinaryOperation.{BinaryOperation}
use Rattle.apd_arith.specs.Operations.{unary_operation, binary_operation}
use Rattle.apd_arith.specs.Truth.{compared}
use Rattle.apd_arith.specs.Value.{Value, of_one_by, of_two_by, value}

-- where the first is an integer, so is the second
abbrev pub Follows : Value → Value → Type 0
Follows x y = (i : ℤ) → x ≡ Ok i → y ≡ Ok i

pub one-follows : (o : Option UnaryOperation) (x y : Value) → Follows x y → Follows (of_one_by o x) (of_one_by o y)
one-follows None x y h i e = cc
one-follows (Some o) (Err fault) y h i e = cc
one-follows (Some o) (Ok x) y h i e = rw (h x refl) e

pub two-follows : (o : Option BinaryOperation) (x y v w : Value) → Follows x v → Follows y w → Follows (of_two_by o x y) (of_two_by o v w)
two-follows None x y v w h k i e = cc
two-follows (Some o) (Err fault) y v w h k i e = cc
two-follows (Some o) (Ok x) (Err fault) v w h k i e = cc
two-follows (Some o) (Ok x) (Ok y) v w h k i e = rw (h x refl, k y refl) e

pub compared-follows : (c : Comparison) (x y v w : Value) (b : Bool) → Follows x v → Follows y w → compared c x y ≡ Ok b → compared c v w ≡ Ok b
compared-follows c (Err fault) y v w b h k e = cc
compared-follows c (Ok x) (Err fault) v w b h k e = cc
compared-follows c (Ok x) (Ok y) v w b h k e = rw (h x refl, k y refl) e

-- where an expression has a value, each of its instances has it
pub value-apply : (s : ℕ → Term) (t : Term) → Follows (value t) (value (apply s t))
value-apply s (variable v) i e = cc
value-apply s (integer j) i e = e
value-apply s (compound f none) i e = cc
value-apply s (compound f (more t none)) i e = one-follows (unary_operation f) (value t) (value (apply s t)) (value-apply s t) i e
value-apply s (compound f (more t (more u none))) i e = two-follows (binary_operation f) (value t) (value u) (value (apply s t)) (value (apply s u)) (value-apply s t) (value-apply s u) i e
value-apply s (compound f (more t (more u (more v ts)))) i e = cc
