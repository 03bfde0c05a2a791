-- What is said of a call on something outside: the fault that it counts, and the bytes where they are told.
use Rattle.std.specs.Prelude.{ℕ, ◌≡◌, ◌+◌, ◌-◌, ◌^◌, ◌<◌, ◌≤◌, List, Option, None, Some, Bool, true, false, ⊤, length, min, [], ◌∷◌, ◌++◌, ◌||◌, if◌then◌else◌, nat_eq, nat_lt, IfSome, Result, Ok, Err}
pub use Rattle.apd_base.specs.Counts.{risen}
use Rattle.apd_io.specs.declared.fault.LoadFault.{LoadFault}
use Rattle.apd_io.specs.declared.fault.LoadFault.TheVariants.{Failed}
use Rattle.apd_base.specs.declared.limits.TheConstants.{MAX_FILE}

-- one call more is counted
abbrev pub Rose : ℕ → ℕ → Type 0
Rose before now = now ≡ risen before

-- a fault that is counted is one, and the count never falls; any other leaves it
abbrev pub Counted : Bool → ℕ → ℕ → Type 0
Counted true before now = Rose before now × (before ≤ now)
Counted false before now = now ≡ before

-- over a call with this answer one such fault was counted where the answer is one of them, and none where it is any other
abbrev pub Counts : {T E : Type 0} → (E → Bool) → ℕ → ℕ → Result T E → Type 0
Counts is_fault before now (Ok value) = now ≡ before
Counts is_fault before now (Err fault) = Counted (is_fault fault) before now

-- a load is counted where the file isn't there or can't be read
abbrev pub is_load_fault : LoadFault → Bool
is_load_fault Failed = true
is_load_fault fault = false

-- where a content is told, it is this
abbrev pub Tells : Option (List ℕ) → List ℕ → Type 0
Tells None bytes = ⊤
Tells (Some known) bytes = bytes ≡ known

-- where a content is told, it is longer than a file may be
abbrev pub TellsLong : Option (List ℕ) → Type 0
TellsLong None = ⊤
TellsLong (Some known) = MAX_FILE < length known

-- a source: the bytes that are left, where they are told; how many its reads gave so far; and how many reads there were from the
-- first on that gave none, at the end or since it failed
pub record Left : Type 0 where
  pub bytes : Option (List ℕ)
  pub taken : ℕ
  pub late : ℕ

-- where they are told, the bytes that are left began with these, and lost them; what isn't told stays untold
abbrev pub Loses : Option (List ℕ) → Option (List ℕ) → List ℕ → Type 0
Loses None None bytes = ⊤
Loses None (Some now) bytes = ⊥
Loses (Some left) None bytes = ⊥
Loses (Some left) (Some now) bytes = left ≡ bytes ++ now

-- reads gave these bytes, and no more
pub record Takes (left now : Left) (bytes : List ℕ) : Type 0 where
  pub loses : Loses left.bytes now.bytes bytes
  pub few : now.taken ≤ left.taken + length bytes

-- a count that is higher by so much, as far as a u64 goes
abbrev pub raised : ℕ → ℕ → ℕ
raised n count = min (count + n) (2 ^ 64 - 1)

-- how many bytes were given after a read
abbrev pub taken_after : {E : Type 0} → Result ℕ E → ℕ → ℕ
taken_after (Ok n) taken = raised n taken
taken_after (Err e) taken = taken

-- a read gave no byte: it met the end or failed
abbrev pub gives_none : {E : Type 0} → Result ℕ E → Bool
gives_none (Ok n) = nat_eq n 0
gives_none (Err e) = true

-- a read that gives no byte is late, and so is each behind one
abbrev pub late_by : Bool → ℕ → ℕ
late_by none late = if none || nat_lt 0 late then risen late else late

-- how many reads were late after a read
abbrev pub late_after : {E : Type 0} → Result ℕ E → ℕ → ℕ
late_after result late = late_by (gives_none result) late

-- where they are told, the bytes that are held grew by these; what isn't told stays untold
abbrev pub Adds : Option (List ℕ) → Option (List ℕ) → List ℕ → Type 0
Adds None None bytes = ⊤
Adds None (Some now) bytes = ⊥
Adds (Some held) None bytes = ⊥
Adds (Some held) (Some now) bytes = now ≡ held ++ bytes

-- where they are told, no bytes are left
abbrev pub IsOver : Left → Type 0
IsOver left = IfSome left.bytes (λ bytes. bytes ≡ [])

-- from some files to those after loads of these names, in this order and of no others; `step` is one load
abbrev pub LoadsInTurn : {T : Type 0} → (T → List ℕ → T → Type 0) → T → List (List ℕ) → T → Type 0
LoadsInTurn step before [] after = after ≡ before
LoadsInTurn {T} step before (name ∷ names) after = (between : T) × step before name between × LoadsInTurn step between names after
