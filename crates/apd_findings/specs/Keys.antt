-- Keys of canonical forms: what stands for a term and its variants in a set. A set's keys are numbered from 0 in their order.
use Rattle.std.specs.Prelude.{ℕ, zero, suc, ◌≡◌, ◌≢◌, ◌⊎◌, ◌↔◌, List, [], ◌∷◌}
use Rattle.apd_term.specs.Term.{Term}
use Rattle.apd_term.specs.Canonical.{canonical}
use Rattle.apd_term.specs.declared.instance.Instance.{Instance}
use Rattle.apd_marks.specs.Keys.{key}
use Rattle.apd_marks.specs.declared.keys.KeyPart.{KeyPart}
use Rattle.apd_answers.specs.Findings.{IsHeadAmong}

-- the key is one of these
abbrev pub IsKeyAmong : List (List KeyPart) → List KeyPart → Type 0
IsKeyAmong [] k = ⊥
IsKeyAmong (m ∷ ms) k = (m ≡ k) ⊎ IsKeyAmong ms k

-- the number of a key: the place of the first of these that is it
abbrev pub IsNumber : List (List KeyPart) → List KeyPart → ℕ → Type 0
IsNumber [] k n = ⊥
IsNumber (m ∷ ms) k zero = m ≡ k
IsNumber (m ∷ ms) k (suc n) = (m ≢ k) × IsNumber ms k n

-- the number of a term by the key that it shares with its variants
abbrev pub HasNumber : List (List KeyPart) → Term → ℕ → Type 0
HasNumber keys t n = IsNumber keys (key (canonical t)) n

-- the keys are those of the heads of these instances
abbrev pub AreHeads : List (List KeyPart) → List Instance → Type 0
AreHeads keys instances = (a : Term) → IsKeyAmong keys (key (canonical a)) ↔ IsHeadAmong instances a
