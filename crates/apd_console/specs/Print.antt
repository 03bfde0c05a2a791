-- Bytes on their way to a sink.
use Rattle.std.specs.Prelude.{ℕ, ◌≡◌, List, ◌++◌, Option}
use Rattle.apd_io.specs.Outside.{Adds}

-- of these bytes the sink gained all but the rest
pub record Prints (held held_now : Option (List ℕ)) (bytes rest : List ℕ) : Type 0 where
  pub shown : List ℕ
  pub parts : bytes ≡ shown ++ rest
  pub adds : Adds held held_now shown

-- the sink gained the front of these bytes
abbrev pub AddsFront : Option (List ℕ) → Option (List ℕ) → List ℕ → Type 0
AddsFront held held_now bytes = (rest : List ℕ) × Prints held held_now bytes rest
