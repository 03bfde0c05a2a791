-- Bounds on the numbers of variables.
use Rattle.std.proofs.Common.{◌≡◌, ℕ, ◌<◌, ◌≤◌, subst, arith}
use Rattle.apd_term.specs.Term.{IsAmong}
use Rattle.apd_term.specs.Tuple.{canonical_tuple, size_of_tuple, variables_of_tuple}
use Rattle.apd_term.specs.declared.tuple.Tuple.{Tuple}
use Rattle.apd_trace.proofs.Clauses.{canonical_numbers}

-- a tuple's variables have small numbers
abbrev pub IsSmall : Tuple → Type 0
IsSmall r = (v : ℕ) → IsAmong (variables_of_tuple r) v → v < 4294967297

-- a canonical tuple that is short has small numbers
pub IsSmall-canonical : (t c : Tuple) → size_of_tuple t ≤ 4294967295 → c ≡ canonical_tuple t → IsSmall c
IsSmall-canonical t c h is v o = omega (arith, h, canonical_numbers t v (subst (λ z. IsAmong (variables_of_tuple z) v) is o))
