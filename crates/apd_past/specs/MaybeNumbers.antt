-- A number, or none, as one number.
use Rattle.std.specs.Prelude.{ℕ, Option, Some, None}
use Rattle.std.proofs.Common.{zero, suc}

abbrev pub number_in : ℕ → Option ℕ
number_in zero = None
number_in (suc n) = Some n
