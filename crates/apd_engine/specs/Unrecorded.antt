-- A run on the way that leaves no record.
use Rattle.std.specs.Prelude.{◌≡◌, ℕ, List, Result}
use Rattle.apd_term.specs.declared.tuple.Tuple.{Tuple}
use Rattle.apd_ports.specs.declared.hook.HookFault.{HookFault}
use Rattle.apd_ports.specs.declared.hook.Shown.{Shown}
use Rattle.apd_engine.specs.Progress.{Course, Showing}
use Rattle.apd_engine.specs.Search.{opened, stand}
use Rattle.apd_engine.specs.declared.progress.Limits.{Limits}
use Rattle.apd_engine.specs.declared.unrecorded.Unrecorded.{Unrecorded}

-- nothing was passed yet
pub record IsFirstShown (query : Tuple) (p : Unrecorded) : Type 0 where
  pub search : stand p.search ≡ opened query
  pub ports : p.ports ≡ 0
  pub answered : p.answered ≡ 0

-- such a run on the way, and its hook
abbrev pub IsShowing : {H : Type 0} → (H → Shown → Result (Unit {0}) HookFault → H → Type 0) → (H → ℕ) → Course H → List Tuple → Limits → Unrecorded → H → Type 0
IsShowing step faults course P limits p hook =
    Showing step faults course.start P limits.budget limits.answers course.run p.ports p.answered (stand p.search) hook
