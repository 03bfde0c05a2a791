-- Two lists of names, of which one program numbers names by the one, and another program by the other.
use Rattle.std.specs.Prelude.{◌≡◌, ◌<◌, ◌≤◌, ℕ, List, length, None}
use Rattle.apd_ops.specs.Table.{Table, infix_in, prefix_in}
use Rattle.apd_term.specs.Growth.{Grown}
use Rattle.apd_term.specs.Names.{HasDistinctTexts, number_of}
use Rattle.apd_term.specs.StandardNames.{standard_names}

-- Both lists begin with the same n names, the standard ones first, and neither has a text twice.
pub record BeginAlike (n : ℕ) (names others : List (List ℕ)) : Type 0 where
  pub first : List (List ℕ)
  pub count : length first ≡ n
  pub standard : Grown standard_names first
  pub names_grown : Grown first names
  pub others_grown : Grown first others
  pub names_distinct : HasDistinctTexts names
  pub others_distinct : HasDistinctTexts others

-- each of the names is one of the others
abbrev pub HasAll : List (List ℕ) → List (List ℕ) → Type 0
HasAll names others = (v : List ℕ) → number_of names v < length names → number_of others v < length others

-- no name is an operator but the first n
abbrev pub HasFewOperators : ℕ → Table → Type 0
HasFewOperators n ops = (f : ℕ) → n ≤ f → (prefix_in ops f ≡ None) × (infix_in ops f ≡ None)
