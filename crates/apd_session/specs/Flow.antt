-- What is due in a log: each diagnosis asks, gets a reply to each question, and comes to an end.
use Rattle.std.specs.Prelude.{◌≡◌, List, [], ◌∷◌, Option, None, Some}
use Rattle.apd_text.specs.declared.entry.Entry.{Entry}
use Rattle.apd_text.specs.declared.entry.Entry.TheVariants as entry
use Rattle.apd_session.specs.declared.status.Status.{Status}
use Rattle.apd_session.specs.declared.status.Status.TheVariants as status

-- what an entry is to a diagnosis: it begins one, asks, replies, mistakes what a reply is, concludes it or breaks it off; an input that
-- can't be read ends it with the session; any other stands outside of diagnoses
pub data Part : Type 0 where
  Begins : Part
  Asks : Part
  Replies : Part
  Mistakes : Part
  Concludes : Part
  Breaks : Part
  Stops : Part
  Outside : Part

abbrev pub part_of : Entry → Part
part_of (entry.PassedOver line pred) = Outside
part_of (entry.Warning line pred) = Outside
part_of (entry.Loaded clauses) = Outside
part_of (entry.OracleLoaded statements) = Outside
part_of (entry.ReferenceLoaded clauses) = Outside
part_of (entry.TraceSet filter) = Outside
part_of (entry.Known text) = Outside
part_of (entry.Run query budget answers filter end) = Outside
part_of (entry.Symptom what) = Begins
part_of (entry.Question number asked) = Asks
part_of (entry.Replied reply left by_reference) = Replies
part_of (entry.BadReply reason) = Mistakes
part_of (entry.Found finding line) = Concludes
part_of (entry.AllDescend calls) = Concludes
part_of (entry.Unanswered stopped) = Breaks
part_of (entry.Refused refusal) = Outside
part_of (entry.Demo nodes questions clause) = Outside
part_of entry.UsageRefused = Outside
part_of (entry.ProgramRefused line cause) = Outside
part_of (entry.OracleRefused line cause) = Outside
part_of (entry.ReferenceRefused line cause) = Outside
part_of (entry.CheckHolds findings) = Outside
part_of (entry.CheckFails line why) = Outside
part_of (entry.FileTooLong length) = Outside
part_of entry.InputFault = Stops
part_of entry.InputOver = Stops

-- nothing; a question or the end of a diagnosis; or the reply to a question
pub data Due : Type 0 where
  Nothing : Due
  Move : Due
  Reply : Due

-- what is due after an entry of this part; none where it doesn't fit what is due
abbrev pub due_by : Due → Part → Option Due
due_by Nothing Begins = Some Move
due_by Nothing Stops = Some Nothing
due_by Nothing Outside = Some Nothing
due_by Move Asks = Some Reply
due_by Move Concludes = Some Nothing
due_by Reply Replies = Some Move
due_by Reply Mistakes = Some Reply
due_by Reply Breaks = Some Nothing
due_by Reply Stops = Some Nothing
due_by due part = None

abbrev pub due_after : Due → Entry → Option Due
due_after due e = due_by due (part_of e)

-- from what is due, these entries fit one after another, and then that is due
abbrev pub Flows : Due → List Entry → Due → Type 0
Flows d [] end = d ≡ end
Flows d (e ∷ es) end = (x : Due) × (due_after d e ≡ Some x) × Flows x es end

-- where a session ended with this status, each entry of its log fits what is due, and in the end nothing is due, unless a write
-- failed or memory ran out
abbrev pub FlowsTo : Status → List Entry → Type 0
FlowsTo status.WriteFault es = (d : Due) × Flows Nothing es d
FlowsTo status.Memory es = (d : Due) × Flows Nothing es d
FlowsTo st es = Flows Nothing es Nothing
