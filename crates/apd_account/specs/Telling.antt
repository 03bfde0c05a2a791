-- What an entry tells of runs and diagnoses.
use Rattle.std.specs.Prelude.{ℕ, Bool, Option}
use Rattle.apd_causes.specs.declared.run.Query.{Query}
use Rattle.apd_causes.specs.declared.run.Ran.{Ran}
use Rattle.apd_answers.specs.declared.finding.Finding.{Finding}
use Rattle.apd_answers.specs.declared.question.Asked.{Asked}
use Rattle.apd_answers.specs.declared.question.Reply.{Reply}
use Rattle.apd_text.specs.declared.entry.Entry.{Entry}
use Rattle.apd_text.specs.declared.entry.Entry.TheVariants as entry
use Rattle.apd_text.specs.declared.entry.Told.{Told}

-- a query was run within these limits, to this end if it came to one; a symptom was told, something asked, or a reply given, which
-- leaves so many suspects, without a line where it is marked; this was found, or so many calls all descend; a diagnosis, if one
-- went on, ended without a finding; or nothing of that
pub data Telling : Type 0 where
  Runs : Query → ℕ → ℕ → Option Ran → Telling
  Begins : Told → Telling
  Asks : Asked → Telling
  Replies : Reply → Option ℕ → Bool → Telling
  Finds : Finding → Telling
  Clears : ℕ → Telling
  Breaks : Telling
  Other : Telling

abbrev pub told_by : Entry → Telling
told_by (entry.PassedOver line pred) = Other
told_by (entry.Warning line pred) = Other
told_by (entry.Loaded clauses) = Other
told_by (entry.OracleLoaded statements) = Other
told_by (entry.ReferenceLoaded clauses) = Other
told_by (entry.TraceSet filter) = Other
told_by (entry.Known text) = Other
told_by (entry.Run query budget answers filter end) = Runs query budget answers end
told_by (entry.Symptom what) = Begins what
told_by (entry.Question number asked) = Asks asked
told_by (entry.Replied reply left by_reference) = Replies reply left by_reference
told_by (entry.BadReply reason) = Other
told_by (entry.Found finding line) = Finds finding
told_by (entry.AllDescend calls) = Clears calls
told_by (entry.Unanswered stopped) = Breaks
told_by (entry.Refused refusal) = Other
told_by (entry.Demo nodes questions clause) = Other
told_by entry.UsageRefused = Other
told_by (entry.ProgramRefused line cause) = Other
told_by (entry.OracleRefused line cause) = Other
told_by (entry.ReferenceRefused line cause) = Other
told_by (entry.CheckHolds findings) = Other
told_by (entry.CheckFails line why) = Other
told_by (entry.FileTooLong length) = Other
told_by entry.InputFault = Breaks
told_by entry.InputOver = Breaks
