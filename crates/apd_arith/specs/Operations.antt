-- The arithmetic operations: their names, and what each makes of values.
use Rattle.std.specs.Prelude.{ℤ, pos, neg_ℤ, ◌+ℤ◌, ◌-ℤ◌, ◌*ℤ◌, unsigned_abs, ◌==◌, if◌then◌else◌, Option, Some, None, Result, Ok}
use Rattle.std.specs.Int.{int_min, int_max}
use Rattle.apd_term.specs.declared.term.NameId.{NameId}
use Rattle.apd_term.specs.declared.standard.TheConstants.{PLUS, MINUS, TIMES, QUOTIENT, MOD, REM, MIN, MAX, ABS}
use Rattle.apd_arith.specs.declared.fault.ArithFault.{ArithFault}
use Rattle.apd_arith.specs.declared.operation.UnaryOperation.{UnaryOperation}
use Rattle.apd_arith.specs.declared.operation.UnaryOperation.TheVariants.{Negate, Absolute}
use Rattle.apd_arith.specs.declared.operation.BinaryOperation.{BinaryOperation}
use Rattle.apd_arith.specs.declared.operation.BinaryOperation.TheVariants.{Add, Subtract, Multiply, Quotient, Modulo, Remainder, Minimum, Maximum}
use Rattle.apd_arith.specs.Integers.{within, divided, truncated, remainder, modulo}

-- the operation of a name with one argument
abbrev pub unary_operation : NameId → Option UnaryOperation
unary_operation name = if name.0 == MINUS.0 then Some Negate else (if name.0 == ABS.0 then Some Absolute else None)

-- the operation of a name with two arguments
abbrev pub binary_operation : NameId → Option BinaryOperation
binary_operation name =
    if name.0 == PLUS.0 then Some Add
    else (if name.0 == MINUS.0 then Some Subtract
    else (if name.0 == TIMES.0 then Some Multiply
    else (if name.0 == QUOTIENT.0 then Some Quotient
    else (if name.0 == MOD.0 then Some Modulo
    else (if name.0 == REM.0 then Some Remainder
    else (if name.0 == MIN.0 then Some Minimum
    else (if name.0 == MAX.0 then Some Maximum else None)))))))

abbrev pub unary_value : UnaryOperation → ℤ → Result ℤ ArithFault
unary_value Negate x = within (neg_ℤ x)
unary_value Absolute x = within (pos (unsigned_abs x))

abbrev pub binary_value : BinaryOperation → ℤ → ℤ → Result ℤ ArithFault
binary_value Add x y = within (x +ℤ y)
binary_value Subtract x y = within (x -ℤ y)
binary_value Multiply x y = within (x *ℤ y)
binary_value Quotient x y = divided truncated x y
binary_value Modulo x y = divided modulo x y
binary_value Remainder x y = divided remainder x y
binary_value Minimum x y = Ok (int_min x y)
binary_value Maximum x y = Ok (int_max x y)
