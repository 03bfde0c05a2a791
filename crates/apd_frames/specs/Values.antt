-- Values of expressions that stand in a store.
use Rattle.std.specs.Prelude.{ℕ, Bool, Result}
use Rattle.apd_arith.specs.declared.comparison.Comparison.{Comparison}
use Rattle.apd_arith.specs.declared.fault.ArithFault.{ArithFault}
use Rattle.apd_arith.specs.Truth.{compared}
use Rattle.apd_arith.specs.Value.{Value, value}
use Rattle.apd_cells.specs.Store.{term_at}
use Rattle.apd_cells.specs.Stored.{Stored}

-- the value of the expression at a cell
abbrev pub value_at : Stored → ℕ → Value
value_at s c = value (term_at s c)

-- whether the values of the expressions at two cells compare so, or the first fault
abbrev pub compared_at : Stored → Comparison → ℕ → ℕ → Result Bool ArithFault
compared_at s comparison a b = compared comparison (value_at s a) (value_at s b)
