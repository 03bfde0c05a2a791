-- What a fault at one thing that is shown says of a run.
use Rattle.std.proofs.Common.{ℕ, inr, Result, Err}
use Rattle.apd_base.specs.Counts.{Counts}
use Rattle.apd_ports.specs.Hook.{is_write_fault as is_hook_write_fault}
use Rattle.apd_ports.specs.declared.hook.HookFault.{HookFault}
use Rattle.apd_ports.specs.declared.hook.HookFault.TheVariants.{WriteFault as HookWriteFault, Memory as HookMemory}
use Rattle.apd_engine.specs.Cut.{FailsAt, is_write_fault, run_fault}
use Rattle.apd_engine.specs.declared.running.RunFault.{RunFault}

-- the hook's own fault
pub hook_fails : {H X : Type 0} (step : H → X → Result (Unit {0}) HookFault → H → Type 0) (from : H) (x : X) (to : H) (fault : HookFault) → step from x (Err fault) to → FailsAt step from x to (run_fault fault)
hook_fails step from x to HookWriteFault h = h
hook_fails step from x to HookMemory h = inr h

-- a write fault of the hook is one of the run, and counted as such
pub hook_counts : (before now : ℕ) (fault : HookFault) → Counts {T = Unit {0}} {E = HookFault} is_hook_write_fault before now (Err fault) → Counts {T = Unit {0}} {E = RunFault} is_write_fault before now (Err (run_fault fault))
hook_counts before now HookWriteFault h = h
hook_counts before now HookMemory h = h
