-- Truth values as bits, and what is known of a tuple as a truth value.
use Rattle.std.specs.Prelude.{ℕ, Bool, true, false}
use Rattle.apd_tuples.specs.declared.spots.Fact.{Fact}
use Rattle.apd_tuples.specs.declared.spots.Fact.TheVariants.{Nothing, Ground}

abbrev pub bit : Bool → ℕ
bit false = 0
bit true = 1

abbrev pub fact_in : Bool → Fact
fact_in false = Nothing
fact_in true = Ground
