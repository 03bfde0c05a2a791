-- Where each status comes, row by row: by the words, what the load of each file gives, the texts, how the input ends, and what the check
-- of a log finds. The first cause counts: the files are looked at in the order of their roles, and the input comes last.
use Rattle.std.specs.Prelude.{ℕ, ◌≡◌, ◌<◌, ◌≤◌, ◌⊎◌, List, length, Bool, true, false, None, Some, ⊤}
use Rattle.apd_base.specs.declared.limits.TheConstants.{MAX_FILE, MAX_INPUT, MOST_CLAUSES}
use Rattle.apd_check.specs.declared.checked.Checked.{Checked}
use Rattle.apd_check.specs.declared.checked.Checked.TheVariants.{Holds, Fails}
use Rattle.apd_clauses.specs.declared.clause.Clause.{Clause}
use Rattle.apd_console.specs.Lines.{InputEnd, Ended, Fails as Faulty, hear}
use Rattle.apd_gen.specs.Programs.{tree_text}
use Rattle.apd_known.specs.Files as oracle
use Rattle.apd_known.specs.Files.{States, stated_in}
use Rattle.apd_known.specs.declared.file.Stated.{Stated}
use Rattle.apd_load.specs.Program.{Loads, loads, refused, program_of}
use Rattle.apd_load.specs.declared.Note.{Note}
use Rattle.apd_ops.specs.Table.{Table}
use Rattle.apd_read.specs.Reader.{Reader}
use Rattle.apd_session.specs.Causes.{Comes, some_quits}
use Rattle.apd_session.specs.Roles as roles
use Rattle.apd_session.specs.Roles.{Role, KnownReplies, Reference, FileLoad, Gives, Faults, file_of}
use Rattle.apd_session.specs.Session.{World}
use Rattle.apd_session.specs.declared.status.Status.{Status}
use Rattle.apd_session.specs.declared.status.Status.TheVariants as status
use Rattle.apd_words.specs.Words.{InFile, OfLog, OfTree, Options, Subject, options_of}

-- The files.
module _ (files : Role → FileLoad) (o : Options) where
  -- the words name a file of this role, and its load faults
  pub record FailsToLoad (role : Role) : Type 0 where
    pub name : List ℕ
    pub named : file_of o role ≡ Some name
    pub faults : files role ≡ Faults

  -- they name one, and it has more than 1,048,576 bytes
  pub record IsTooLong (role : Role) : Type 0 where
    pub name : List ℕ
    pub named : file_of o role ≡ Some name
    pub text : List ℕ
    pub gives : files role ≡ Gives text
    pub long : MAX_FILE < length text

  -- they name one, and this is its text, of at most 1,048,576 bytes
  pub record IsText (role : Role) (text : List ℕ) : Type 0 where
    pub name : List ℕ
    pub named : file_of o role ≡ Some name
    pub gives : files role ≡ Gives text
    pub short : length text ≤ MAX_FILE

  -- the text of what is debugged: of the program's file; or of a tree, for which no file is loaded
  abbrev pub IsDebugged : List ℕ → Type 0
  IsDebugged text = IsText roles.Program text ⊎ ((nodes : ℕ) × (o.subject ≡ OfTree nodes) × (text ≡ tree_text nodes))

-- what a text makes: a program, the operators that it leaves, and the directives that are passed over
pub record Made : Type 0 where
  pub program : List Clause
  pub ops : Table
  pub passed : List Note

abbrev pub makes : Made → Loads
makes m = loads (record { program = m.program; ops = m.ops; passed = m.passed })

-- a text makes no program
abbrev pub IsRefused : Loads → Type 0
IsRefused (refused line cause) = ⊤
IsRefused (loads l) = ⊥

-- a text makes no program, or one of 20,000 clauses, which is too many for a reference program
abbrev pub IsNoReference : Loads → Type 0
IsNoReference (refused line cause) = ⊤
IsNoReference (loads l) = MOST_CLAUSES ≤ length l.program

-- a text states nothing
abbrev pub IsMisstated : States → Type 0
IsMisstated (oracle.refused line cause) = ⊤
IsMisstated (oracle.states s) = ⊥

module _ {names : List (List ℕ)} (reader : Reader names) (files : Role → FileLoad) (o : Options) where
  -- the text of what is debugged makes this program
  pub record HasProgram (m : Made) : Type 0 where
    pub text : List ℕ
    pub debugged : IsDebugged files o text
    pub so : program_of reader text ≡ makes m

  -- the oracle file states this, read with these operators
  pub record IsStated (ops : Table) : Type 0 where
    pub text : List ℕ
    pub is : IsText files o KnownReplies text
    pub stated : Stated
    pub states : stated_in reader ops text ≡ oracle.states stated

  -- the reference program's file makes a program, of fewer than 20,000 clauses
  pub record IsReference : Type 0 where
    pub text : List ℕ
    pub is : IsText files o Reference text
    pub made : Made
    pub so : program_of reader text ≡ makes made
    pub few : length made.program < MOST_CLAUSES

  -- each of these three files is good, or the words name none
  abbrev pub OracleIsGood : Table → Type 0
  OracleIsGood ops = (file_of o KnownReplies ≡ None) ⊎ IsStated ops

  abbrev pub ReferenceIsGood : Type 0
  ReferenceIsGood = (file_of o Reference ≡ None) ⊎ IsReference

  abbrev pub LogIsGood : Type 0
  LogIsGood = (file_of o roles.Log ≡ None) ⊎ ((text : List ℕ) × IsText files o roles.Log text)

  -- the file of a role is loaded: those of the roles before are good
  abbrev pub IsReached : Role → Type 0
  IsReached roles.Program = ⊤
  IsReached KnownReplies = (m : Made) × HasProgram m
  IsReached Reference = (m : Made) × HasProgram m × OracleIsGood m.ops
  IsReached roles.Log = (m : Made) × HasProgram m × OracleIsGood m.ops × ReferenceIsGood

-- What ends a session before it hears, demonstrates or checks anything.
module _ {names : List (List ℕ)} (words : List (List ℕ)) (reader : Reader names) (files : Role → FileLoad) where
  -- a file that the words name can't be read
  pub record AFileFails : Type 0 where
    pub options : Options
    pub asked : options_of words ≡ Some options
    pub role : Role
    pub reached : IsReached reader files options role
    pub fails : FailsToLoad files options role

  -- one is too long
  pub record AFileIsTooLong : Type 0 where
    pub options : Options
    pub asked : options_of words ≡ Some options
    pub role : Role
    pub reached : IsReached reader files options role
    pub too_long : IsTooLong files options role

  -- the program is refused
  pub record ProgramIsRefused : Type 0 where
    pub options : Options
    pub asked : options_of words ≡ Some options
    pub text : List ℕ
    pub debugged : IsDebugged files options text
    pub refused : IsRefused (program_of reader text)

  -- the oracle file is refused, read with the operators that the program has left
  pub record OracleIsRefused : Type 0 where
    pub options : Options
    pub asked : options_of words ≡ Some options
    pub made : Made
    pub program : HasProgram reader files options made
    pub text : List ℕ
    pub is : IsText files options KnownReplies text
    pub refused : IsMisstated (stated_in reader made.ops text)

  -- the reference program is refused
  pub record ReferenceIsRefused : Type 0 where
    pub options : Options
    pub asked : options_of words ≡ Some options
    pub made : Made
    pub program : HasProgram reader files options made
    pub replies : OracleIsGood reader files options made.ops
    pub text : List ℕ
    pub is : IsText files options Reference text
    pub refused : IsNoReference (program_of reader text)

  -- the status with which a session ends before it hears, demonstrates or checks anything
  abbrev pub StopsWith : Status → Type 0
  StopsWith status.Done = ⊥
  StopsWith status.Usage = options_of words ≡ None
  StopsWith status.Program = ProgramIsRefused
  StopsWith status.ReadFault = AFileFails
  StopsWith status.WriteFault = ⊥
  StopsWith status.Memory = ⊥
  StopsWith status.InputLimit = ⊥
  StopsWith status.OracleText = OracleIsRefused
  StopsWith status.FileTooLong = AFileIsTooLong
  StopsWith status.ReferenceText = ReferenceIsRefused
  StopsWith status.CheckFailed = ⊥

  -- or it starts: the words ask for this, the text of what is debugged makes this program, and each other file is good
  pub record Starts (options : Options) (made : Made) : Type 0 where
    pub asked : options_of words ≡ Some options
    pub program : HasProgram reader files options made
    pub replies : OracleIsGood reader files options made.ops
    pub reference : ReferenceIsGood reader files options
    pub log : LogIsGood reader files options

-- How it ends then.

-- the lines of the input are heard
abbrev pub Hears : Subject → Type 0
Hears (InFile name) = ⊤
Hears (OfTree nodes) = ⊥
Hears (OfLog program log) = ⊥

-- a log is checked, and a line of it isn't good
abbrev pub CheckFails : Subject → Checked → Type 0
CheckFails (OfLog program log) (Fails line why) = ⊤
CheckFails s verdict = ⊥

-- a line that is heard asks to quit, where lines are read with these operators
abbrev pub quits : {names : List (List ℕ)} → Reader names → Table → List ℕ → InputEnd → Bool
quits reader ops input ends = some_quits reader ops (hear MAX_INPUT input ends).lines

-- the input ends before its limit, or a line before that asks to quit; a tree is demonstrated; or a log is checked, and holds
abbrev pub EndsWell : {names : List (List ℕ)} → Reader names → Table → Subject → World → Type 0
EndsWell reader ops (InFile name) w = ((w.ends ≡ Ended) × (length w.input < MAX_INPUT)) ⊎ (quits reader ops w.input w.ends ≡ true)
EndsWell reader ops (OfTree nodes) w = ⊤
EndsWell reader ops (OfLog program log) w = (findings : ℕ) × (w.verdict ≡ Holds findings)

module _ {names : List (List ℕ)} (words : List (List ℕ)) (reader : Reader names) (w : World) where
  -- it comes to its end
  pub record ComesToItsEnd : Type 0 where
    pub options : Options
    pub made : Made
    pub starts : Starts words reader w.files options made
    pub ends : EndsWell reader made.ops options.subject w

  -- a read of the input fails before its limit, and no line before that asks to quit
  pub record InputFails : Type 0 where
    pub options : Options
    pub made : Made
    pub starts : Starts words reader w.files options made
    pub hears : Hears options.subject
    pub stays : quits reader made.ops w.input w.ends ≡ false
    pub short : length w.input < MAX_INPUT
    pub fails : w.ends ≡ Faulty

  -- the input has 16,777,216 bytes, and no line before that asks to quit
  pub record InputIsTooLong : Type 0 where
    pub options : Options
    pub made : Made
    pub starts : Starts words reader w.files options made
    pub hears : Hears options.subject
    pub stays : quits reader made.ops w.input w.ends ≡ false
    pub long : MAX_INPUT ≤ length w.input

  -- a line of the log that is checked isn't good
  pub record LogFails : Type 0 where
    pub options : Options
    pub made : Made
    pub starts : Starts words reader w.files options made
    pub fails : CheckFails options.subject w.verdict

  -- in this world, where no write fails and memory suffices, this is the status
  abbrev pub HasReason : Status → Type 0
  HasReason status.Done = ComesToItsEnd
  HasReason status.Usage = options_of words ≡ None
  HasReason status.Program = ProgramIsRefused words reader w.files
  HasReason status.ReadFault = AFileFails words reader w.files ⊎ InputFails
  HasReason status.WriteFault = ⊥
  HasReason status.Memory = ⊥
  HasReason status.InputLimit = InputIsTooLong
  HasReason status.OracleText = OracleIsRefused words reader w.files
  HasReason status.FileTooLong = AFileIsTooLong words reader w.files
  HasReason status.ReferenceText = ReferenceIsRefused words reader w.files
  HasReason status.CheckFailed = LogFails

  -- a status comes for a reason, unless a write failed or memory ran out; and no other status has one
  pub record ComesForReason (result : Status) : Type 0 where
    pub reason : HasReason result ⊎ ((result ≡ status.WriteFault) ⊎ (result ≡ status.Memory))
    pub only : (due : Status) → HasReason due → Comes result due

-- Where nothing fails.

-- the input ends before its limit, or a line before that asks to quit; where no line is heard, it doesn't matter
abbrev pub IsInTime : {names : List (List ℕ)} → Reader names → Table → Subject → List ℕ → Type 0
IsInTime reader ops (InFile name) input = (length input < MAX_INPUT) ⊎ (quits reader ops input Ended ≡ true)
IsInTime reader ops (OfTree nodes) input = ⊤
IsInTime reader ops (OfLog program log) input = ⊤

-- the status at the end: it is done, and where a log is checked, that may fail
abbrev pub IsEnd : Subject → Status → Type 0
IsEnd (InFile name) result = result ≡ status.Done
IsEnd (OfTree nodes) result = result ≡ status.Done
IsEnd (OfLog program log) result = (result ≡ status.Done) ⊎ (result ≡ status.CheckFailed)
