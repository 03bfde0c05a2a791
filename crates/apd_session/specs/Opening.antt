-- What a session begins with, as a value: why it ends before it hears anything, or what it goes on with. It is made of what the
-- loads of its files give; an input has no part in it.
-- Texts are read by a reader, which gives what the definitions of tokens and of reading have.
use Rattle.std.specs.Prelude.{ℕ, List, [], ◌∷◌, ◌++◌, length, if◌then◌else◌, Option, None, Some, Result, Ok, Err, nat_lt}
use Rattle.apd_answers.specs.Store.{Store, empty_store}
use Rattle.apd_causes.specs.declared.faults.LoadCause.{LoadCause}
use Rattle.apd_causes.specs.declared.faults.LoadCause.TheVariants as causes
use Rattle.apd_clauses.specs.declared.clause.Clause.{Clause}
use Rattle.apd_gen.specs.Programs.{tree_text}
use Rattle.apd_known.specs.Files.{States, stated_in}
use Rattle.apd_known.specs.Files as oracle
use Rattle.apd_load.specs.Program.{Loads, refused, loads, program_of}
use Rattle.apd_load.specs.Warnings.{warnings_of}
use Rattle.apd_load.specs.declared.Note.{Note}
use Rattle.apd_ops.specs.Table.{Table}
use Rattle.apd_query.specs.declared.state.State.{State}
use Rattle.apd_read.specs.Reader.{Reader}
use Rattle.apd_reference.specs.declared.referee.Referee.{Referee}
use Rattle.apd_reference.specs.declared.referee.Referee.TheVariants.{Nobody, Program}
use Rattle.apd_talk.specs.Speech.{plain}
use Rattle.apd_talk.specs.Utterance.{Utterance}
use Rattle.apd_text.specs.declared.entry.Entry.{Entry}
use Rattle.apd_text.specs.declared.entry.Entry.TheVariants.{UsageRefused, ProgramRefused, OracleRefused, ReferenceRefused, FileTooLong, InputFault, Loaded, OracleLoaded, ReferenceLoaded}
use Rattle.apd_words.specs.Words.{InFile, OfLog, OfTree, Options, Subject}
use Rattle.apd_session.specs.Roles.{Role, KnownReplies, Reference, FileLoad, Gives, Faults, file_of}
use Rattle.apd_session.specs.Roles as roles
use Rattle.apd_session.specs.Steps.{remarks}
use Rattle.apd_session.specs.declared.notes.Noted.TheVariants as noted
use Rattle.apd_session.specs.declared.opening.Beginning.{Beginning}
use Rattle.apd_session.specs.declared.opening.Course.{Course}
use Rattle.apd_session.specs.declared.opening.Course.TheVariants.{Hears, Plays, Checks}
use Rattle.apd_session.specs.declared.opening.Opening.{Opening}
use Rattle.apd_session.specs.declared.opening.Opening.TheVariants.{Unloaded, Closed, Open}
use Rattle.apd_session.specs.declared.opening.Start.{Start}
use Rattle.apd_session.specs.declared.opening.Stop.{Stop}
use Rattle.apd_session.specs.declared.opening.Reviewed.{Reviewed}
use Rattle.apd_session.specs.declared.preparing.Prepared.{Prepared}
use Rattle.apd_session.specs.declared.preparing.Prepared.TheVariants.{Knows, Refuses}
use Rattle.apd_session.specs.declared.referring.Referring.{Referring}
use Rattle.apd_session.specs.declared.referring.Referring.TheVariants.{Asks, Stops}
use Rattle.apd_session.specs.declared.status.Status.{Status}
use Rattle.apd_session.specs.declared.status.Status.TheVariants as status
use Rattle.apd_base.specs.declared.limits.TheConstants.{MAX_FILE, MOST_CLAUSES, OVER_MAX_FILE}

-- a session ends: what is said last, and its status
abbrev pub stop : Entry → Status → Stop
stop entry st = record { said = entry; status = st }

-- the text of a file; or why a session ends where it can't be read or is too long
abbrev pub text_in : FileLoad → Result (List ℕ) Stop
text_in Faults = Err (stop InputFault status.ReadFault)
text_in (Gives text) =
    if nat_lt MAX_FILE (length text) then Err (stop (FileTooLong OVER_MAX_FILE) status.FileTooLong) else Ok text

-- the text of what is debugged: of its file, or of its tree, for which nothing is loaded
abbrev pub subject_text : (Role → FileLoad) → Subject → Result (List ℕ) Stop
subject_text files (InFile name) = text_in (files roles.Program)
subject_text files (OfTree nodes) = Ok (tree_text nodes)
subject_text files (OfLog program log) = text_in (files roles.Program)

-- the line of the last clause
abbrev pub last_line : List Clause → ℕ
last_line [] = 0
last_line (c ∷ []) = c.line
last_line (c ∷ (d ∷ cs)) = last_line (d ∷ cs)

-- what there is to say of a reference program
abbrev pub reviewed : List Clause → List Note → Reviewed
reviewed program passed = record { clauses = length program; passed = passed; called = warnings_of program }

-- a reference program is refused
abbrev pub refused_reference : ℕ → LoadCause → Referring
refused_reference line cause = Stops (stop (ReferenceRefused line cause) status.ReferenceText)

-- a reference program is refused, or it is asked before the user, within so many ports. One more clause is put behind its own for each
-- question, so it has fewer than a program may have
abbrev pub referred_by : ℕ → Loads → Referring
referred_by budget (refused line cause) = refused_reference line cause
referred_by budget (loads l) =
    if nat_lt (length l.program) MOST_CLAUSES
    then Asks (Program (record { program = l.program; budget = budget })) (Some (reviewed l.program l.passed))
    else refused_reference (last_line l.program) causes.ClausesOver

-- by the text of its file, where it has one; its operators are its own
abbrev pub referred_from : {names : List (List ℕ)} → Reader names → ℕ → Result (List ℕ) Stop → Referring
referred_from reader budget (Err why) = Stops why
referred_from reader budget (Ok text) = referred_by budget (program_of reader text)

-- who is asked before the user, by what the load of the reference program's file gives; where the words name none, nobody is
abbrev pub referred : {names : List (List ℕ)} → Reader names → ℕ → Option (List ℕ) → FileLoad → Referring
referred reader budget None loading = Asks Nobody None
referred reader budget (Some name) loading = referred_from reader budget (text_in loading)

-- an oracle file is refused, or its replies are known
abbrev pub prepared_by : States → Prepared
prepared_by (oracle.refused line cause) = Refuses (stop (OracleRefused line cause) status.OracleText)
prepared_by (oracle.states s) = Knows (Some s.statements) s.answers

-- by the text of an oracle file, where it has one
abbrev pub prepared_from : {names : List (List ℕ)} → Reader names → Table → Result (List ℕ) Stop → Prepared
prepared_from reader ops (Err why) = Refuses why
prepared_from reader ops (Ok text) = prepared_by (stated_in reader ops text)

-- what is known before the first line, by what the load of the oracle file gives; where the words name none, nothing is known
abbrev pub prepared : {names : List (List ℕ)} → Reader names → Table → Option (List ℕ) → FileLoad → Prepared
prepared reader ops None loading = Knows None empty_store
prepared reader ops (Some name) loading = prepared_from reader ops (text_in loading)

-- what there is to say of a program, of so many statements of an oracle file, and of a reference program, where there is one
abbrev pub beginning_of : List Clause → List Note → Option ℕ → Option Reviewed → Beginning
beginning_of program passed statements reference =
    record { clauses = length program; passed = passed; called = warnings_of program; statements = statements; reference = reference }

-- the first state of a session: no query was run yet, nothing was asked, these replies are known, and this is who is asked before a line
-- is read
abbrev pub first_state : List Clause → Options → Store → Referee → State
first_state program options store referee = record {
  program = program;
  budget = options.budget;
  answers = options.answers;
  filter = options.filter;
  strategy = options.strategy;
  last = None;
  replies = store;
  referee = referee;
  asked = 0;
}

-- the session goes on with a program that has left these operators: the lines of the input are heard, a tree is demonstrated, or the
-- text of a log is checked
abbrev pub hears : Table → Start → Opening
hears ops start = Open ops start Hears

abbrev pub plays : Table → Start → ℕ → Opening
plays ops start nodes = Open ops start (Plays nodes)

abbrev pub checks : Table → Start → List ℕ → Opening
checks ops start text = Open ops start (Checks text)

-- a log is checked, where it has a text
abbrev pub course_with : Result (List ℕ) Stop → Result Course Stop
course_with (Err why) = Err why
course_with (Ok text) = Ok (Checks text)

-- a file is debugged by the lines of the input, a tree is demonstrated, and a log is checked, by what the load of its file gives
abbrev pub course_of : FileLoad → Subject → Result Course Stop
course_of loading (InFile name) = Ok Hears
course_of loading (OfTree nodes) = Ok (Plays nodes)
course_of loading (OfLog program log) = course_with (text_in loading)

-- the session goes on so; or it ends before it hears anything
abbrev pub goes_on : Table → Start → Result Course Stop → Opening
goes_on ops start (Ok course) = Open ops start course
goes_on ops start (Err why) = Closed ops start.beginning why

-- what a session with a program begins with, by what is known before the first line, who is asked before the user and how it goes on
abbrev pub opening_with : Options → List Clause → Table → List Note → Prepared → Referring → Result Course Stop → Opening
opening_with options program ops passed (Refuses why) referring course = Closed ops (beginning_of program passed None None) why
opening_with options program ops passed (Knows statements store) (Stops why) course = Closed ops (beginning_of program passed statements None) why
opening_with options program ops passed (Knows statements store) (Asks referee reference) course =
    goes_on ops (record { beginning = beginning_of program passed statements reference; state = first_state program options store referee }) course

-- by what the text of what is debugged makes
abbrev pub opening_after : {names : List (List ℕ)} → Reader names → (Role → FileLoad) → Options → Loads → Opening
opening_after reader files options (refused line cause) = Unloaded (stop (ProgramRefused line cause) status.Program)
opening_after reader files options (loads l) =
    opening_with options l.program l.ops l.passed (prepared reader l.ops (file_of options KnownReplies) (files KnownReplies))
    (referred reader options.budget (file_of options Reference) (files Reference)) (course_of (files roles.Log) options.subject)

-- by that text, where there is one
abbrev pub opening_by : {names : List (List ℕ)} → Reader names → (Role → FileLoad) → Options → Result (List ℕ) Stop → Opening
opening_by reader files options (Err why) = Unloaded why
opening_by reader files options (Ok text) = opening_after reader files options (program_of reader text)

-- what a session begins with, by what the words ask for, where they keep their rules
abbrev pub opening_of : {names : List (List ℕ)} → Reader names → (Role → FileLoad) → Option Options → Opening
opening_of reader files None = Unloaded (stop UsageRefused status.Usage)
opening_of reader files (Some options) = opening_by reader files options (subject_text files options.subject)

-- the status with which a session ends before it hears anything, where it does
abbrev pub stops_with : Opening → Option Status
stops_with (Unloaded why) = Some why.status
stops_with (Closed ops beginning why) = Some why.status
stops_with (Open ops start course) = None

-- the directives of a program that were passed over, the predicates that its clauses call and that have no clauses, and that it is
-- loaded
unfoldable pub load_said : Table → List (List ℕ) → Beginning → List (Utterance Entry)
load_said ops names b =
    remarks ops names noted.PassedOver b.passed ++ (remarks ops names noted.Called b.called ++ plain ops names (Loaded b.clauses) ∷ [])

-- how many statements an oracle file has, where there is one
abbrev pub known_said : Table → List (List ℕ) → Option ℕ → List (Utterance Entry)
known_said ops names None = []
known_said ops names (Some statements) = plain ops names (OracleLoaded statements) ∷ []

-- the same as of a program, of a reference program
unfoldable pub reviewed_said : Table → List (List ℕ) → Reviewed → List (Utterance Entry)
reviewed_said ops names r =
    remarks ops names noted.PassedOver r.passed ++ (remarks ops names noted.Called r.called ++ plain ops names (ReferenceLoaded r.clauses) ∷ [])

-- of the one that there is
abbrev pub reference_said : Table → List (List ℕ) → Option Reviewed → List (Utterance Entry)
reference_said ops names None = []
reference_said ops names (Some r) = reviewed_said ops names r

-- what is said of the oracle file and of the reference program, where there are such
abbrev pub further_said : Table → List (List ℕ) → Beginning → List (Utterance Entry)
further_said ops names b = known_said ops names b.statements ++ reference_said ops names b.reference

-- what is said of a program that was loaded
abbrev pub beginning_said : Table → List (List ℕ) → Beginning → List (Utterance Entry)
beginning_said ops names b = load_said ops names b ++ further_said ops names b

-- that, and why the session ends there
abbrev pub closing_said : Table → List (List ℕ) → Beginning → Entry → List (Utterance Entry)
closing_said ops names b entry = beginning_said ops names b ++ plain ops names entry ∷ []
