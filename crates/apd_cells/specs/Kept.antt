-- Notes and bindings as they are kept: a note as two numbers, a binding as one.
use Rattle.std.specs.Prelude.{ℕ, ◌-◌, nat_lt, if◌then◌else◌}
use Rattle.std.proofs.Common.{zero, suc}
use Rattle.apd_cells.specs.declared.heap.TrailNote.{TrailNote}
use Rattle.apd_cells.specs.declared.heap.TrailNote.TheVariants.{Loaded, Bound}
use Rattle.apd_cells.specs.declared.heap.Binding.{Binding}
use Rattle.apd_cells.specs.declared.heap.Binding.TheVariants.{Free, At}

-- the second number is below 2 ^ 31 exactly where a term was loaded
abbrev pub note_in : ℕ → ℕ → TrailNote
note_in first second = if nat_lt second 2147483648 then Loaded first second else Bound first (second - 2147483648)

-- one more than the cell, or 0
abbrev pub binding_in : ℕ → Binding
binding_in zero = Free
binding_in (suc c) = At c
