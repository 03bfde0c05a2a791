-- What a printer of runs does with what it is shown.
use Rattle.std.specs.Prelude.{ℕ, ◌≡◌, ◌+◌, ◌-◌, ◌^◌, min, List, Option, Result, Ok, Err}
use Rattle.std.specs.declared.alloc.AllocError.{AllocError}
use Rattle.apd_io.specs.Outside.{Adds}
use Rattle.apd_console.specs.Print.{AddsFront}
use Rattle.apd_ports.specs.Filter.{Admission}
use Rattle.apd_ports.specs.declared.hook.HookFault.{HookFault}
use Rattle.apd_ports.specs.declared.hook.HookFault.TheVariants.{WriteFault, Memory}
use Rattle.apd_ports.specs.declared.hook.Shown.{Shown}
use Rattle.apd_ports.specs.declared.hook.Shown.TheVariants.{Port, Answer}
use Rattle.apd_ops.specs.Table.{Table}
use Rattle.apd_query.specs.Runs.{one_text}

-- the next number, as far as 64 bits go
abbrev pub next_number : ℕ → ℕ
next_number n = min (n + 1) (2 ^ 64 - 1)

-- how many answers were printed after this was shown
abbrev pub counted : ℕ → Shown → ℕ
counted n (Port e) = n
counted n (Answer a) = next_number n

-- a line was printed, or the front of it, or there was no memory for it
abbrev pub PrintsLine : Option (List ℕ) → Option (List ℕ) → Result (List ℕ) AllocError → Result (Unit {0}) HookFault → Type 0
PrintsLine held held_now (Ok text) (Ok u) = Adds held held_now text
PrintsLine held held_now (Ok text) (Err WriteFault) = AddsFront held held_now text
PrintsLine held held_now (Ok text) (Err Memory) = ⊥
PrintsLine held held_now (Err e) (Ok u) = ⊥
PrintsLine held held_now (Err e) (Err WriteFault) = ⊥
PrintsLine held held_now (Err e) (Err Memory) = held_now ≡ held

-- its lines were printed, or the front of them before a fault
abbrev pub Prints : Table → List (List ℕ) → List (List ℕ) → Admission → Option (List ℕ) → Option (List ℕ) → ℕ → ℕ → Shown → Result (Unit {0}) HookFault → Type 0
Prints ops names vars admission held held_now count count_now x (Ok u) = Adds held held_now (one_text ops names vars admission (next_number count) x) × (count_now ≡ counted count x)
Prints ops names vars admission held held_now count count_now x (Err e) = AddsFront held held_now (one_text ops names vars admission (next_number count) x)
