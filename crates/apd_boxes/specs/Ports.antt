-- Ports that boxes pass, and their numbers.
use Rattle.std.specs.Prelude.{◌≡◌, ℕ, Bool, true, refl}
use Rattle.std.proofs.Common.{zero, suc}
use Rattle.apd_ports.specs.declared.event.Port.{Port}
use Rattle.apd_ports.specs.declared.event.Port.TheVariants.{Call, Exit, Redo, Fail}

-- Fail completes a box
abbrev pub completes : Port → Bool → Bool
completes Call complete = complete
completes Exit complete = complete
completes Redo complete = complete
completes Fail complete = true

abbrev pub number_of_port : Port → ℕ
number_of_port Call = 0
number_of_port Exit = 1
number_of_port Redo = 2
number_of_port Fail = 3

abbrev pub port_of_number : ℕ → Port
port_of_number zero = Call
port_of_number (suc zero) = Exit
port_of_number (suc (suc zero)) = Redo
port_of_number (suc (suc (suc n))) = Fail

pub same_port : (p : Port) → port_of_number (number_of_port p) ≡ p
same_port Call = refl
same_port Exit = refl
same_port Redo = refl
same_port Fail = refl
