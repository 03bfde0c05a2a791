-- The calls that the last run was within when its limit on ports ended it, or why no run without end is diagnosed.
use Rattle.std.specs.Prelude.{ℕ, List, length, nat_lt, if◌then◌else◌, Result, Ok, Err}
use Rattle.apd_causes.specs.declared.run.RunEnd.{RunEnd}
use Rattle.apd_causes.specs.declared.run.RunEnd.TheVariants.{Budget}
use Rattle.apd_record.specs.Recorded.{Recorded, chain}
use Rattle.apd_text.specs.declared.entry.Refusal.{Refusal}
use Rattle.apd_text.specs.declared.entry.Refusal.TheVariants.{NoChain, NotStopped}

-- two calls or more
abbrev pub if_several : List ℕ → Result (List ℕ) Refusal
if_several calls = if nat_lt (length calls) 2 then Err NoChain else Ok calls

-- the chain of a run that ended so
abbrev pub stopped_chain : Recorded → RunEnd → Result (List ℕ) Refusal
stopped_chain R Budget = if_several (chain R)
stopped_chain R end = Err NotStopped
