-- What contracts see of a sink, a source and files that are the standard library's, and what is done to
-- the writer or the reader there.
use Rattle.std.specs.Prelude.{ℕ, ◌≡◌, ◌⊎◌, List, Option, length, take}
use Rattle.std.specs.Io.KnownBytes.{Appends, Consumes}
use Rattle.apd_io.specs.Outside.{risen}
use Rattle.apd_io.specs.declared.tally.Tally.{Tally}

-- a writer: the bytes that it holds, where it tells them, and how many writes failed
pub record Written : Type 0 where
  pub bytes : Option (List ℕ)
  pub faults : ℕ

-- a reader: the bytes that it has left, where it tells them, how many reads failed, and what it gave
pub record Drawn : Type 0 where
  pub bytes : Option (List ℕ)
  pub faults : ℕ
  pub tally : Tally

-- files: how many loads failed
pub record Loads : Type 0 where
  pub faults : ℕ

-- one load: the count stayed, or is one higher
abbrev pub CountsLoad : Loads → Loads → Type 0
CountsLoad before now = (now.faults ≡ before.faults) ⊎ (now.faults ≡ risen before.faults)

-- where they are told, the bytes that are held grew by the front of these
abbrev pub AppendsFront : Option (List ℕ) → Option (List ℕ) → List ℕ → Type 0
AppendsFront held held_now bytes = (n : ℕ) × Appends held held_now (take n bytes)

-- where they are told, the bytes that are left lost their first so many
abbrev pub ConsumesCount : Option (List ℕ) → Option (List ℕ) → ℕ → Type 0
ConsumesCount left left_now n = (bytes : List ℕ) × Consumes left left_now bytes × (length bytes ≡ n)
