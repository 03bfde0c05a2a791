-- What boxes own, and how that grows.
use Rattle.std.specs.Prelude.{ℕ, ◌++◌, List, [], ◌∷◌, Bool, if◌then◌else◌, Option, Some, None}
use Rattle.std.proofs.Common.{zero, suc}
use Rattle.apd_ports.specs.declared.point.PointId.{PointId}

-- what a box owns: its exits in order, and the newest of its points without solved goals
pub record Owned : Type 0 where
  pub exits : List PointId
  pub first : Option ℕ

abbrev pub nothing : Owned
nothing = record { exits = []; first = None }

-- the list with what f makes of its element at this place
abbrev pub edited : {X : Type 0} → (X → X) → List X → ℕ → List X
edited f [] i = []
edited f (x ∷ xs) zero = f x ∷ xs
edited f (x ∷ xs) (suc i) = x ∷ edited f xs i

-- a box with one more point
abbrev pub owning : ℕ → Bool → Bool → Owned → Owned
owning n is_first is_exit o =
    record {
      exits = o.exits ++ (if is_exit then record { 0 = n } ∷ [] else []);
      first = if is_first then Some n else o.first;
    }

-- its newest point without solved goals, if the new one is one too
abbrev pub earlier_of : Bool → Owned → Option ℕ
earlier_of is_first o = if is_first then o.first else None
