-- How the operators are kept: their maps, and the last name that is one.
use Rattle.std.specs.Prelude.{ℕ, ◌≡◌, ◌≤◌, List, Some}
use Rattle.std.specs.FinMap.{from_entries}
use Rattle.apd_ops.specs.Table.{Meaning, Table, prefix_in, infix_in, IsTable}

-- no name with a greater number is an operator
pub record EndsBy (t : Table) (last : ℕ) : Type 0 where
  pub prefixes : (f : ℕ) (m : Meaning) → prefix_in t f ≡ Some m → f ≤ last
  pub infixes : (f : ℕ) (m : Meaning) → infix_in t f ≡ Some m → f ≤ last

-- the entries of its maps make a table, and no name behind the last is in it
abbrev pub IsKept : List (ℕ × Meaning) → List (ℕ × Meaning) → ℕ → Type 0
IsKept prefixes infixes last =
    IsTable (record { prefixes = from_entries prefixes; infixes = from_entries infixes })
    × EndsBy (record { prefixes = from_entries prefixes; infixes = from_entries infixes }) last
