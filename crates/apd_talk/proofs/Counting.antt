-- What counts of faults say of a part of a conversation.
use Rattle.std.proofs.Common.{◌≡◌, ℕ}
use Rattle.apd_io.specs.Outside.{Rose, Counted, is_load_fault}
use Rattle.apd_io.specs.declared.fault.LoadFault.{LoadFault}
use Rattle.apd_io.specs.declared.fault.LoadFault.TheVariants as loads
use Rattle.apd_talk.specs.declared.talk.Trouble.{Trouble}
use Rattle.apd_talk.specs.declared.talk.Trouble.TheVariants as troubles
use Rattle.apd_talk.specs.Speech.{is_write_fault}

pub write_rose : (before now : ℕ) (t : Trouble) → Counted (is_write_fault t) before now → t ≡ troubles.WriteFault → Rose before now
write_rose before now troubles.WriteFault h is = h.0
write_rose before now troubles.Memory h is = absurd (cc)

pub load_rose : (before now : ℕ) (fault : LoadFault) → Counted (is_load_fault fault) before now → fault ≡ loads.Failed → Rose before now
load_rose before now loads.Failed h is = h.0
load_rose before now (loads.TooLong n) h is = absurd (cc)
load_rose before now loads.Memory h is = absurd (cc)
