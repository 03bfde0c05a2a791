-- The lines of candidates, one after the other.
use Rattle.std.proofs.Common.{◌≡◌, ◌++◌, true, ℕ, List, [], ◌∷◌, Option, None, Some, refl, ap, ◌∙◌}
use Rattle.apd_term.specs.declared.instance.Instance.{Instance}
use Rattle.apd_ops.specs.Table.{Table}
use Rattle.apd_read.specs.Reader.{Reader}
use Rattle.apd_parts.specs.Parts.{if_some}
use Rattle.apd_claims.specs.Saying.{instance_in, instances_in, is_candidate}

module _ (n : List (List ℕ)) (reader : Reader n) (ops : Table) where
  step : (cs : List Instance) (line : List ℕ) (lines : List (List ℕ)) (o : Option Instance) → is_candidate line ≡ true → o ≡ instance_in reader ops line
      → instances_in reader ops cs (line ∷ lines) ≡ if_some o (λ c. instances_in reader ops (cs ++ c ∷ []) lines) None
  step cs line lines o marked is = rw (marked, is) refl

  pub instances-more : (cs : List Instance) (c : Instance) (line : List ℕ) (lines later : List (List ℕ)) → later ≡ line ∷ lines → is_candidate line ≡ true → Some c ≡ instance_in reader ops line
      → instances_in reader ops cs later ≡ instances_in reader ops (cs ++ c ∷ []) lines
  instances-more cs c line lines later is marked e = ap (instances_in reader ops cs) is ∙ step cs line lines (Some c) marked e
