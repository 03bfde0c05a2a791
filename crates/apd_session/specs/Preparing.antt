-- What the calls that make an opening give, and what an opening may be.
use Rattle.std.specs.Prelude.{ℕ, ◌≡◌, ◌≤◌, List, length, Bool, true, false, Option, None, Some, IfSome, Result, Ok, Err, ⊤}
use Rattle.apd_io.specs.Outside.{Counted}
use Rattle.apd_base.specs.declared.limits.TheConstants.{MAX_FILE}
use Rattle.apd_debug.specs.NamedStates.{AreReplies}
use Rattle.apd_gen.specs.Nodes.{IsNodeCount}
use Rattle.apd_known.specs.Files.{stated_in}
use Rattle.apd_clauses.specs.Clauses.{tuples_of}
use Rattle.apd_load.specs.Program.{program_of}
use Rattle.apd_load.specs.Warnings.{NotesAreNamed, warnings_of}
use Rattle.apd_load.specs.declared.Loaded.{Loaded}
use Rattle.apd_ops.specs.Table.{Table}
use Rattle.apd_read.specs.Reader.{Reader}
use Rattle.apd_reference.specs.Referees.{names_known}
use Rattle.apd_session.specs.Opening.{beginning_of, course_of, goes_on, opening_after, opening_of, opening_with, prepared, prepared_by, referred, referred_by, subject_text, text_in}
use Rattle.apd_session.specs.Roles.{Role, KnownReplies, Reference, FileLoad, Faults, AreLoads, IsFileLoad, IsNamedLoad, file_of_subject, log_of_subject}
use Rattle.apd_session.specs.Roles as roles
use Rattle.apd_session.specs.Turns.{IsPrepared}
use Rattle.apd_words.specs.Words.{InFile, OfLog, OfTree, Options, Subject}
use Rattle.apd_session.specs.declared.opening.Beginning.{Beginning}
use Rattle.apd_session.specs.declared.opening.Course.{Course}
use Rattle.apd_session.specs.declared.opening.Course.TheVariants.{Hears, Plays, Checks}
use Rattle.apd_session.specs.declared.opening.Opening.{Opening}
use Rattle.apd_session.specs.declared.opening.Opening.TheVariants.{Unloaded, Closed, Open}
use Rattle.apd_session.specs.declared.opening.Start.{Start}
use Rattle.apd_session.specs.declared.opening.Stop.{Stop}
use Rattle.apd_session.specs.declared.opening.Reviewed.{Reviewed}
use Rattle.apd_session.specs.declared.preparing.Prepared.{Prepared}
use Rattle.apd_session.specs.declared.preparing.Prepared.TheVariants.{Knows, Refuses}
use Rattle.apd_session.specs.declared.referring.Referring.{Referring}
use Rattle.apd_session.specs.declared.referring.Referring.TheVariants.{Asks, Stops}
use Rattle.apd_session.specs.declared.status.Status.{Status}
use Rattle.apd_session.specs.declared.status.Status.TheVariants as status
use Rattle.apd_talk.specs.Speech.{Lasting}
use Rattle.apd_term.specs.Named.{AllTuplesNamed}
use Rattle.apd_text.specs.Named.{EntryIsNamed}

-- this is the text of the file of this name, or why there is none; its load may fail as is said
pub record HasText (content : List ℕ → Option (List ℕ)) (failed : Type 0) (name : List ℕ) (x : Result (List ℕ) Stop) : Type 0 where
  pub loading : FileLoad
  pub is : IsFileLoad (content name) loading
  pub faults : loading ≡ Faults → failed
  pub so : text_in loading ≡ x

-- this is the text of what is debugged, or why there is none
pub record HasSubject (content : List ℕ → Option (List ℕ)) (failed : Type 0) (subject : Subject) (x : Result (List ℕ) Stop) : Type 0 where
  pub loading : FileLoad
  pub is : IsNamedLoad content (file_of_subject subject) loading
  pub faults : loading ≡ Faults → failed
  pub so : subject_text (λ role. loading) subject ≡ x

-- this is what the text makes known, whatever names are kept later
abbrev pub States : Table → List ℕ → List (List ℕ) → Prepared → Type 0
States ops text names x = Lasting names (λ n. (reader : Reader n) → prepared_by (stated_in reader ops text) ≡ x)

-- this is what the oracle file of this name makes known, whose load may fail as is said
pub record Prepares (content : List ℕ → Option (List ℕ)) (failed : Type 0) (ops : Table) (names : List (List ℕ)) (name : Option (List ℕ)) (x : Prepared) : Type 0 where
  pub loading : FileLoad
  pub is : IsNamedLoad content name loading
  pub faults : loading ≡ Faults → failed
  pub so : Lasting names (λ n. (reader : Reader n) → prepared reader ops name loading ≡ x)

-- this is who is asked by the text of a reference program, whatever names are kept later
abbrev pub ReviewsText : ℕ → List ℕ → List (List ℕ) → Referring → Type 0
ReviewsText budget text names x = Lasting names (λ n. (reader : Reader n) → referred_by budget (program_of reader text) ≡ x)

-- this is who is asked by the reference program's file of this name, whose load may fail as is said
pub record Refers (content : List ℕ → Option (List ℕ)) (failed : Type 0) (budget : ℕ) (names : List (List ℕ)) (name : Option (List ℕ)) (x : Referring) : Type 0 where
  pub loading : FileLoad
  pub is : IsNamedLoad content name loading
  pub faults : loading ≡ Faults → failed
  pub so : Lasting names (λ n. (reader : Reader n) → referred reader budget name loading ≡ x)

-- this is how a session goes on with what is debugged, where a log may be loaded, whose load may fail as is said
pub record Pursues (content : List ℕ → Option (List ℕ)) (failed : Type 0) (subject : Subject) (x : Result Course Stop) : Type 0 where
  pub loading : FileLoad
  pub is : IsNamedLoad content (log_of_subject subject) loading
  pub faults : loading ≡ Faults → failed
  pub so : course_of loading subject ≡ x

-- this is what a session with a program begins with that goes on from here with what is debugged, or ends
pub record Follows (content : List ℕ → Option (List ℕ)) (failed : Type 0) (subject : Subject) (ops : Table) (start : Start) (x : Opening) : Type 0 where
  pub course : Result Course Stop
  pub pursues : Pursues content failed subject course
  pub so : goes_on ops start course ≡ x

-- this is what a session with a program begins with, by what is known, who is asked before the user and how it goes on
pub record OpensKnowing (content : List ℕ → Option (List ℕ)) (failed : Type 0) (options : Options) (l : Loaded) (names : List (List ℕ)) (known : Prepared) (x : Opening) : Type 0 where
  pub referring : Referring
  pub refers : Refers content failed options.budget names options.reference referring
  pub course : Result Course Stop
  pub pursues : Pursues content failed options.subject course
  pub so : opening_with options l.program l.ops l.passed known referring course ≡ x

-- where an oracle file is refused, no other file is loaded
abbrev pub OpensBy : (List ℕ → Option (List ℕ)) → Type 0 → Options → Loaded → List (List ℕ) → Prepared → Opening → Type 0
OpensBy content failed options l names (Refuses why) x = Closed l.ops (beginning_of l.program l.passed None None) why ≡ x
OpensBy content failed options l names (Knows statements store) x = OpensKnowing content failed options l names (Knows statements store) x

-- this is what a session with a program begins with, by what its oracle file makes known and who is asked before the user
pub record OpensWith (content : List ℕ → Option (List ℕ)) (failed : Type 0) (options : Options) (l : Loaded) (names : List (List ℕ)) (x : Opening) : Type 0 where
  pub known : Prepared
  pub prepares : Prepares content failed l.ops names options.oracle known
  pub opens : OpensBy content failed options l names known x

-- this is what a session begins with, by this text of what is debugged and what the loads of its other files give
pub record OpensAfter (content : List ℕ → Option (List ℕ)) (failed : Type 0) (options : Options) (text : List ℕ) (names : List (List ℕ)) (x : Opening) : Type 0 where
  pub files : Role → FileLoad
  pub oracle : IsNamedLoad content options.oracle (files KnownReplies)
  pub reference : IsNamedLoad content options.reference (files Reference)
  pub log : IsNamedLoad content (log_of_subject options.subject) (files roles.Log)
  pub faults : (role : Role) → files role ≡ Faults → failed
  pub so : Lasting names (λ n. (reader : Reader n) → opening_after reader files options (program_of reader text) ≡ x)

-- this is what a session begins with, by what the loads of its files give, which may fail as is said
pub record Opens (content : List ℕ → Option (List ℕ)) (failed : Type 0) (options : Option Options) (names : List (List ℕ)) (x : Opening) : Type 0 where
  pub files : Role → FileLoad
  pub are : AreLoads content options files
  pub faults : (role : Role) → files role ≡ Faults → failed
  pub so : Lasting names (λ n. (reader : Reader n) → opening_of reader files options ≡ x)

-- the statuses with which a session may end that hears nothing and demonstrates nothing
abbrev pub MayStop : Status → Type 0
MayStop status.Done = ⊤
MayStop status.Usage = ⊤
MayStop status.Program = ⊤
MayStop status.ReadFault = ⊤
MayStop status.OracleText = ⊤
MayStop status.FileTooLong = ⊤
MayStop status.ReferenceText = ⊤
MayStop status.CheckFailed = ⊤
MayStop st = ⊥

-- of what stands in an opening, all names are among the first n; so they are in what was loaded, whose warnings are those of its program
pub record IsStop (n : ℕ) (why : Stop) : Type 0 where
  pub named : EntryIsNamed n why.said
  pub may : MayStop why.status

pub record IsReviewed (n : ℕ) (r : Reviewed) : Type 0 where
  pub passed : NotesAreNamed n r.passed
  pub called : NotesAreNamed n r.called

pub record IsBeginning (n : ℕ) (b : Beginning) : Type 0 where
  pub passed : NotesAreNamed n b.passed
  pub called : NotesAreNamed n b.called
  pub reference : IfSome b.reference (IsReviewed n)

pub record IsStart (n : ℕ) (start : Start) : Type 0 where
  pub beginning : IsBeginning n start.beginning
  pub state : IsPrepared n start.state

-- a tree has 1 to 10,000 nodes
abbrev pub IsSubject : Subject → Type 0
IsSubject (InFile name) = ⊤
IsSubject (OfTree nodes) = IsNodeCount nodes
IsSubject (OfLog program log) = ⊤

-- and the text of a log is short enough
abbrev pub IsCourse : Course → Type 0
IsCourse Hears = ⊤
IsCourse (Plays nodes) = IsNodeCount nodes
IsCourse (Checks text) = length text ≤ MAX_FILE

abbrev pub IsReadyOpening : ℕ → Opening → Type 0
IsReadyOpening n (Unloaded why) = IsStop n why
IsReadyOpening n (Closed ops b why) = IsBeginning n b × IsStop n why
IsReadyOpening n (Open ops start course) = IsStart n start × IsCourse course

pub record IsLoaded (n : ℕ) (l : Loaded) : Type 0 where
  pub program : AllTuplesNamed n (tuples_of l.program)
  pub passed : NotesAreNamed n l.passed
  pub called : NotesAreNamed n l.warnings
  pub warnings : l.warnings ≡ warnings_of l.program

-- replies and entries have names that are known
abbrev pub AreReady : ℕ → Prepared → Type 0
AreReady n (Knows statements store) = AreReplies n store
AreReady n (Refuses why) = IsStop n why

-- whoever is asked has names that are known, and so has what there is to say of its program
abbrev pub IsReferring : ℕ → Referring → Type 0
IsReferring n (Asks referee reference) = (names_known referee ≤ n) × IfSome reference (IsReviewed n)
IsReferring n (Stops why) = IsStop n why

-- how a session goes on, or why it ends
abbrev pub IsPursued : Result Course Stop → Type 0
IsPursued (Ok course) = IsCourse course
IsPursued (Err why) = (n : ℕ) → IsStop n why

-- the status with which a file ends a session, where it does
abbrev pub stops_of : {T : Type 0} → Result T Stop → Option Status
stops_of (Ok made) = None
stops_of (Err why) = Some why.status

-- the status with which a reference program's file ends a session, where it does
abbrev pub stops_referring : Referring → Option Status
stops_referring (Asks referee reference) = None
stops_referring (Stops why) = Some why.status

-- the status with which an oracle file ends a session, where it does
abbrev pub refuses_with : Prepared → Option Status
refuses_with (Knows statements store) = None
refuses_with (Refuses why) = Some why.status

-- it is that of a file that can't be read
abbrev pub is_read_fault : Option Status → Bool
is_read_fault (Some status.ReadFault) = true
is_read_fault why = false

-- over a call one failed load was counted where what it made stops the session for that, and none otherwise
abbrev pub CountsLoads : {T E : Type 0} → (T → Option Status) → ℕ → ℕ → Result T E → Type 0
CountsLoads stops before now (Ok made) = Counted (is_read_fault (stops made)) before now
CountsLoads stops before now (Err e) = now ≡ before
