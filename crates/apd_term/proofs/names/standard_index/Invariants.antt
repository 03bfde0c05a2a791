use Rattle.std.proofs.Common.{◌≡◌, ◌≤◌, ℕ, length, List, map, drop}
use Rattle.std.specs.List.{fold}
use Rattle.apd_term.specs.Names.{with_name}
use Rattle.apd_term.specs.StandardNames.{standard_names}
use Rattle.apd_term.proofs.names.standard_index.Given as goal

-- the names so far and the texts to come are the standard names
pub record IsBegun (names texts : List (List ℕ)) (i : ℕ) : Type 0 where
  pub rest : fold with_name names texts ≡ standard_names
  pub few : length names ≤ i

abbrev pub invariant-loop-text : goal.invariant-loop-text
invariant-loop-text l = IsBegun l.index (map (λ t. t.now) (drop l.text-index l.text-items)) l.text-index
