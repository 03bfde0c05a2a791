-- The check of a log in a session.
use Rattle.std.specs.Prelude.{ℕ, ◌⊎◌, List, Option}
use Rattle.apd_base.specs.declared.limits.TheConstants.{MAX_INPUT}
use Rattle.apd_check.specs.declared.checked.Checked.{Checked}
use Rattle.apd_ops.specs.Table.{Table}
use Rattle.apd_read.specs.Reader.{Reader}
use Rattle.apd_talk.specs.Speech.{Lasting}
use Rattle.apd_term.specs.Growth.{GrowsBy}
use Rattle.apd_text.specs.declared.log.Log.{Log}
use Rattle.apd_session.specs.Causes.{Comes}
use Rattle.apd_session.specs.Opening.{checks}
use Rattle.apd_session.specs.Outcome.{IsSaid, SaysNothing}
use Rattle.apd_session.specs.Session.{IsVerdict, ends_before, verdict_stop}
use Rattle.apd_session.specs.declared.opening.Start.{Start}
use Rattle.apd_session.specs.declared.status.Status.{Status}

-- a log with this text was checked, with these names at first: what was said is the verdict, which is what the check finds, unless memory
-- ran out before anything was said
pub record IsLogChecked (ops : Table) (start : Start) (text : List ℕ) (before : List (List ℕ)) (log : Log) (held held_now : Option (List ℕ)) (result : Status) : Type 0 where
  pub verdict : Checked
  pub judged : Lasting log.names (λ names. (reader : Reader names) → SaysNothing result log ⊎ IsVerdict reader (checks ops start text) verdict)
  pub said : Lasting log.names (λ names. IsSaid result (ends_before names ops start.beginning (verdict_stop verdict)) log held held_now)
  pub names : GrowsBy MAX_INPUT before log.names
  pub is : Comes result (verdict_stop verdict).status
