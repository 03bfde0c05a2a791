-- The value of an expression, or its first fault in the order of evaluation.
use Rattle.std.specs.Prelude.{ℤ, List, [], ◌∷◌, Option, Some, None, Result, Ok, Err}
use Rattle.apd_term.specs.Term.{Term, Terms, variable, integer, compound, none, more}
use Rattle.apd_term.specs.declared.term.NameId.{NameId}
use Rattle.apd_arith.specs.declared.fault.ArithFault.{ArithFault}
use Rattle.apd_arith.specs.declared.fault.ArithFault.TheVariants.{Unbound, NotEvaluable}
use Rattle.apd_arith.specs.declared.operation.UnaryOperation.{UnaryOperation}
use Rattle.apd_arith.specs.declared.operation.BinaryOperation.{BinaryOperation}
use Rattle.apd_arith.specs.Operations.{unary_operation, binary_operation, unary_value, binary_value}

-- an integer or a fault
abbrev pub Value : Type 0
Value = Result ℤ ArithFault

-- an operation on one argument: the argument's fault comes first
abbrev pub of_one : UnaryOperation → Value → Value
of_one operation (Err fault) = Err fault
of_one operation (Ok x) = unary_value operation x

-- an operation on two arguments: the first argument's fault comes first, then that of the second
abbrev pub of_two : BinaryOperation → Value → Value → Value
of_two operation (Err fault) y = Err fault
of_two operation (Ok x) (Err fault) = Err fault
of_two operation (Ok x) (Ok y) = binary_value operation x y

-- a name that is no operation is a fault whatever its arguments are
abbrev pub of_one_by : Option UnaryOperation → Value → Value
of_one_by None x = Err NotEvaluable
of_one_by (Some operation) x = of_one operation x

abbrev pub of_two_by : Option BinaryOperation → Value → Value → Value
of_two_by None x y = Err NotEvaluable
of_two_by (Some operation) x y = of_two operation x y

-- the value of a name with arguments of these values
abbrev pub value_of : NameId → List Value → Value
value_of name [] = Err NotEvaluable
value_of name (x ∷ []) = of_one_by (unary_operation name) x
value_of name (x ∷ y ∷ []) = of_two_by (binary_operation name) x y
value_of name (x ∷ y ∷ z ∷ rest) = Err NotEvaluable

-- the value of an expression
abbrev mutual
  pub value : Term → Value
  value (variable v) = Err Unbound
  value (integer i) = Ok i
  value (compound name ts) = value_of name (values ts)

  pub values : Terms → List Value
  values none = []
  values (more t ts) = value t ∷ values ts
