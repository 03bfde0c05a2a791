-- Want of memory is no expression's value.
use Rattle.std.proofs.Common.{◌≢◌, ℤ, pos, neg_ℤ, ◌+ℤ◌, ◌-ℤ◌, ◌*ℤ◌, Option, Some, None, Ok, Err, Bool, true, false}
use Rattle.std.specs.Prelude.{if◌then◌else◌, unsigned_abs}
use Rattle.apd_term.specs.Term.{Term, variable, integer, compound, none, more}
use Rattle.apd_arith.specs.declared.fault.ArithFault.TheVariants.{Overflow, ZeroDivisor, Memory}
use Rattle.apd_arith.specs.declared.operation.UnaryOperation.{UnaryOperation}
use Rattle.apd_arith.specs.declared.operation.UnaryOperation.TheVariants.{Negate, Absolute}
use Rattle.apd_arith.specs.declared.operation.BinaryOperation.{BinaryOperation}
use Rattle.apd_arith.specs.declared.operation.BinaryOperation.TheVariants.{Add, Subtract, Multiply, Quotient, Modulo, Remainder, Minimum, Maximum}
use Rattle.apd_arith.specs.Integers.{fits, within, is_zero, divided, truncated, remainder, modulo}
use Rattle.apd_arith.specs.Operations.{unary_operation, binary_operation, unary_value, binary_value}
use Rattle.apd_arith.specs.Value.{Value, value, of_one_by, of_two_by}

either : (b : Bool) (x y : Value) → x ≢ Err Memory → y ≢ Err Memory → (if b then x else y) ≢ Err Memory
either true x y p q = p
either false x y p q = q

no-within : (z : ℤ) → within z ≢ Err Memory
no-within z = either (fits z) (Ok z) (Err Overflow) (λ e. (cc)) (λ e. (cc))

no-divided : (f : ℤ → ℤ → ℤ) (x y : ℤ) → divided f x y ≢ Err Memory
no-divided f x y = either (is_zero y) (Err ZeroDivisor) (within (f x y)) (λ e. (cc)) (no-within (f x y))

no-unary : (o : UnaryOperation) (x : ℤ) → unary_value o x ≢ Err Memory
no-unary Negate x = no-within (neg_ℤ x)
no-unary Absolute x = no-within (pos (unsigned_abs x))

no-binary : (o : BinaryOperation) (x y : ℤ) → binary_value o x y ≢ Err Memory
no-binary Add x y = no-within (x +ℤ y)
no-binary Subtract x y = no-within (x -ℤ y)
no-binary Multiply x y = no-within (x *ℤ y)
no-binary Quotient x y = no-divided truncated x y
no-binary Modulo x y = no-divided modulo x y
no-binary Remainder x y = no-divided remainder x y
no-binary Minimum x y = λ e. (cc)
no-binary Maximum x y = λ e. (cc)

no-one : (o : Option UnaryOperation) (x : Value) → x ≢ Err Memory → of_one_by o x ≢ Err Memory
no-one None x p = λ e. (cc)
no-one (Some o) (Err fault) p = p
no-one (Some o) (Ok x) p = no-unary o x

no-two : (o : Option BinaryOperation) (x y : Value) → x ≢ Err Memory → y ≢ Err Memory → of_two_by o x y ≢ Err Memory
no-two None x y p q = λ e. (cc)
no-two (Some o) (Err fault) y p q = p
no-two (Some o) (Ok x) (Err fault) p q = q
no-two (Some o) (Ok x) (Ok y) p q = no-binary o x y

pub no_memory : (t : Term) → value t ≢ Err Memory
no_memory (variable v) = λ e. (cc)
no_memory (integer i) = λ e. (cc)
no_memory (compound name none) = λ e. (cc)
no_memory (compound name (more t none)) = no-one (unary_operation name) (value t) (no_memory t)
no_memory (compound name (more t (more u none))) = no-two (binary_operation name) (value t) (value u) (no_memory t) (no_memory u)
no_memory (compound name (more t (more u (more v ts)))) = λ e. (cc)
