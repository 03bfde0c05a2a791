-- What a session begins with, case by case.
use Rattle.std.proofs.Common.{◌≡◌, ℕ, ◌<◌, ◌≤◌, List, length, Option, Some, None, Bool, true, false, refl, ap, ◌∙◌, arith}
use borrow.Author.Tests.{ltb-false}
use Rattle.std.specs.Prelude.{All, IfSome, Result, Ok, Err, if◌then◌else◌, nat_lt}
use Rattle.apd_answers.specs.Fitting.{AllFit}
use Rattle.apd_answers.specs.Repliers.{RepliesFit}
use Rattle.apd_answers.specs.declared.question.Question.{Question}
use Rattle.apd_answers.specs.declared.question.Reply.{Reply}
use Rattle.apd_answers.specs.Store.{Store, empty_store}
use Rattle.apd_causes.specs.declared.faults.LoadCause.TheVariants as causes
use Rattle.apd_clauses.specs.Clauses.{IsClause, IsProgram, tuples_of}
use Rattle.apd_gen.proofs.Sizes.{tree-short}
use Rattle.apd_gen.specs.Programs.{tree_text}
use Rattle.apd_known.proofs.Fitting.{FitsIn, stated_fit}
use Rattle.apd_known.specs.Files.{States, stated_in}
use Rattle.apd_known.specs.Files as oracle
use Rattle.apd_load.proofs.Leaving.{LeavesTable, leaves_table}
use Rattle.apd_load.proofs.Programs.{loaded_is_program}
use Rattle.apd_load.specs.Program.{Loads, refused, loads, program_of}
use Rattle.apd_load.specs.Programs.{IsProgramIn}
use Rattle.apd_load.specs.declared.Note.{Note}
use Rattle.apd_clauses.specs.declared.clause.Clause.{Clause}
use Rattle.apd_ops.specs.Table.{Table, IsTable}
use Rattle.apd_read.specs.Reader.{Reader}
use Rattle.apd_recorded.proofs.Recording.{program_clauses}
use Rattle.apd_reference.proofs.Fitting.{replies_fit}
use Rattle.apd_reference.specs.Referees.{is_marked, replies_of}
use Rattle.apd_reference.specs.declared.referee.Referee.{Referee}
use Rattle.apd_reference.specs.declared.referee.Referee.TheVariants.{Nobody, Program, Tree}
use Rattle.apd_text.specs.declared.entry.Entry.{Entry}
use Rattle.apd_text.specs.declared.entry.Entry.TheVariants.{UsageRefused, ProgramRefused, OracleRefused, ReferenceRefused, CheckHolds, CheckFails, FileTooLong, InputFault}
use Rattle.apd_words.proofs.Alone.{words-alone}
use Rattle.apd_words.proofs.Limited.{words-limited}
use Rattle.apd_words.specs.Words.{AreLimits, InFile, OfLog, OfTree, Options, StandsAlone, Subject, options_of}
use Rattle.apd_session.specs.Opening.{beginning_of, course_of, course_with, first_state, goes_on, last_line, opening_after, opening_by, opening_of, opening_with, prepared, prepared_by, prepared_from, referred, referred_by, referred_from, refused_reference, reviewed, stop, subject_text, text_in}
use Rattle.apd_session.specs.Roles as roles
use Rattle.apd_session.specs.Roles.{Role, KnownReplies, Reference, FileLoad, Gives, Faults, file_of, file_of_subject, log_of_subject}
use Rattle.apd_check.specs.declared.checked.Checked.{Checked}
use Rattle.apd_check.specs.declared.checked.Checked.TheVariants.{Holds, Fails}
use Rattle.apd_session.specs.Session.{verdict_stop}
use Rattle.apd_session.specs.declared.opening.Beginning.{Beginning}
use Rattle.apd_session.specs.declared.opening.Course.{Course}
use Rattle.apd_session.specs.declared.opening.Course.TheVariants.{Hears, Plays, Checks}
use Rattle.apd_session.specs.declared.opening.Opening.{Opening}
use Rattle.apd_session.specs.declared.opening.Opening.TheVariants.{Unloaded, Closed, Open}
use Rattle.apd_session.specs.declared.opening.Stop.{Stop}
use Rattle.apd_session.specs.declared.preparing.Prepared.{Prepared}
use Rattle.apd_session.specs.declared.preparing.Prepared.TheVariants.{Knows}
use Rattle.apd_session.specs.declared.referring.Referring.{Referring}
use Rattle.apd_session.specs.declared.referring.Referring.TheVariants.{Asks, Stops}
use Rattle.apd_session.specs.declared.status.Status.TheVariants as status
use Rattle.apd_session.proofs.Righting.{IsMarking}

-- what may be said last where a session hears nothing
abbrev pub IsLastWord : Entry → Type 0
IsLastWord UsageRefused = Unit {0}
IsLastWord (ProgramRefused line cause) = Unit {0}
IsLastWord (OracleRefused line cause) = Unit {0}
IsLastWord (ReferenceRefused line cause) = Unit {0}
IsLastWord (CheckHolds findings) = Unit {0}
IsLastWord (CheckFails line why) = Unit {0}
IsLastWord (FileTooLong size) = Unit {0}
IsLastWord InputFault = Unit {0}
IsLastWord e = ⊥

-- a reference program has clauses, and may be asked within some ports; a session doesn't begin with a tree
abbrev pub IsAskable : Referee → Type 0
IsAskable Nobody = Unit {0}
IsAskable (Program r) = All IsClause (tuples_of r.program) × (0 < r.budget)
IsAskable (Tree t) = ⊥

pub askable-fits : (referee : Referee) → IsAskable referee → RepliesFit (replies_of referee)
askable-fits Nobody is = λ q r e. absurd (cc)
askable-fits (Program r) (are, some) = replies_fit (tuples_of r.program) r.budget are some
askable-fits (Tree t) is = absurd is

-- by whether its replies are marked, they are its own, or there is none
pub askable-marks : (referee : Referee) → IsAskable referee → IsMarking (is_marked referee) (replies_of referee) (replies_of referee)
askable-marks Nobody is = λ q. refl
askable-marks (Program r) is = refl
askable-marks (Tree t) is = absurd is

-- where a tree is demonstrated, nothing is replied without a line by whom the session begins with
abbrev pub IsAlone : Course → (Question → Option Reply) → Type 0
IsAlone Hears given = Unit {0}
IsAlone (Plays nodes) given = (q : Question) → given q ≡ None
IsAlone (Checks text) given = Unit {0}

-- where no reference program is named, nobody is asked
abbrev pub IsNobody : Option (List ℕ) → Referring → Type 0
IsNobody reference (Asks referee reviewed) = reference ≡ None → referee ≡ Nobody
IsNobody reference (Stops why) = Unit {0}

named_nobody : (name : List ℕ) (x : Referring) → IsNobody (Some name) x
named_nobody name (Asks referee reviewed) = λ none. absurd (cc)
named_nobody name (Stops why) = tt

referred-nobody : {names : List (List ℕ)} (reader : Reader names) (budget : ℕ) (reference : Option (List ℕ)) (loading : FileLoad) → IsNobody reference (referred reader budget reference loading)
referred-nobody reader budget None loading = λ none. refl
referred-nobody reader budget (Some name) loading = named_nobody name (referred reader budget (Some name) loading)

-- whoever is asked may be; or there is a last word
abbrev pub IsFitting : Referring → Type 0
IsFitting (Asks referee reference) = IsAskable referee
IsFitting (Stops why) = IsLastWord why.said

-- who is asked by the text of a reference program
referred_by-fits : (budget : ℕ) (o : Loads) → 0 < budget → IsProgramIn o → IsFitting (referred_by budget o)
referred_by-fits budget (refused line cause) some is = tt
referred_by-fits budget (loads l) some is = by (nat_lt (length l.program) 20000)
  where
    by : (b : Bool) → IsFitting (if b then Asks (Program (record { program = l.program; budget = budget })) (Some (reviewed l.program l.passed)) else refused_reference (last_line l.program) causes.ClausesOver)
    by true = (program_clauses l.program is, some)
    by false = tt

referred-fits : {names : List (List ℕ)} (reader : Reader names) (budget : ℕ) (name : Option (List ℕ)) (loading : FileLoad) → 0 < budget → IsFitting (referred reader budget name loading)
referred-fits reader budget None loading some = tt
referred-fits reader budget (Some name) Faults some = tt
referred-fits {names} reader budget (Some name) (Gives text) some = by (nat_lt 1048576 (length text)) refl
  where
    by : (b : Bool) → nat_lt 1048576 (length text) ≡ b → IsFitting (referred_from reader budget (if b then Err (stop (FileTooLong 1048577) status.FileTooLong) else Ok text))
    by true long = tt
    by false short = referred_by-fits budget (program_of reader text) some (loaded_is_program names reader text (ltb-false 1048576 (length text) short))

pub verdict-last : (verdict : Checked) → IsLastWord (verdict_stop verdict).said
verdict-last (Holds total) = tt
verdict-last (Fails line why) = tt

-- a session goes on so, with no reference program where a tree is demonstrated; or there is a last word
abbrev pub IsGoing : Option (List ℕ) → Result Course Stop → Type 0
IsGoing reference (Ok Hears) = Unit {0}
IsGoing reference (Ok (Plays nodes)) = reference ≡ None
IsGoing reference (Ok (Checks text)) = Unit {0}
IsGoing reference (Err why) = IsLastWord why.said

log-going : (reference : Option (List ℕ)) (loading : FileLoad) → IsGoing reference (course_with (text_in loading))
log-going reference Faults = tt
log-going reference (Gives text) = by (nat_lt 1048576 (length text))
  where
    by : (b : Bool) → IsGoing reference (course_with (if b then Err (stop (FileTooLong 1048577) status.FileTooLong) else Ok text))
    by true = tt
    by false = tt

course-going : (oracle reference : Option (List ℕ)) (loading : FileLoad) (s : Subject) → StandsAlone s oracle reference → IsGoing reference (course_of loading s)
course-going oracle reference loading (InFile name) alone = tt
course-going oracle reference loading (OfTree nodes) alone = alone.2
course-going oracle reference loading (OfLog program log) alone = log-going reference loading

going-alone : (reference : Option (List ℕ)) (course : Course) (referee : Referee) → IsGoing reference (Ok course) → (reference ≡ None → referee ≡ Nobody) → IsAlone course (replies_of referee)
going-alone reference Hears referee tell nobody = tt
going-alone reference (Plays nodes) referee tell nobody = λ q. ap (λ (r : Referee). replies_of r q) (nobody tell)
going-alone reference (Checks text) referee tell nobody = tt

-- what holds of each thing that a session may begin with holds of what it begins with
module _ (P : Opening → Type 0) {names : List (List ℕ)} (reader : Reader names) (files : Role → FileLoad)
    (unloaded : (why : Stop) → IsLastWord why.said → P (Unloaded why))
    (closed : (ops : Table) (b : Beginning) (why : Stop) → IsTable ops → IsLastWord why.said → P (Closed ops b why))
    (opened : (options : Options) (program : List Clause) (ops : Table) (b : Beginning) (store : Store) (referee : Referee) (course : Course) → IsProgram program → IsTable ops → AllFit store → IsAskable referee
    → IsAlone course (replies_of referee) → P (Open ops (record { beginning = b; state = first_state program options store referee }) course)) where
  -- by who is asked before the user
  module _ (options : Options) (some : 0 < options.budget) (alone : StandsAlone options.subject options.oracle options.reference) (program : List Clause) (ops : Table) (passed : List Note) (is : IsProgram program) (table : IsTable ops) where
    abbrev asked : Referring
    asked = referred reader options.budget options.reference (files Reference)

    abbrev course : Result Course Stop
    course = course_of (files roles.Log) options.subject

    goes_has : (b : Beginning) (store : Store) (referee : Referee) → AllFit store → IsAskable referee → (options.reference ≡ None → referee ≡ Nobody) → (x : Result Course Stop) → IsGoing options.reference x
        → P (goes_on ops (record { beginning = b; state = first_state program options store referee }) x)
    goes_has b store referee fit his nobody (Ok going) tell = opened options program ops b store referee going is table fit his (going-alone options.reference going referee tell nobody)
    goes_has b store referee fit his nobody (Err why) tell = closed ops b why table tell

    knows_has : (statements : Option ℕ) (store : Store) → AllFit store → (x : Referring) → IsFitting x → IsNobody options.reference x → P (opening_with options program ops passed (Knows statements store) x course)
    knows_has statements store fit (Asks referee reference) his nobody =
        goes_has (beginning_of program passed statements reference) store referee fit his nobody course (course-going options.oracle options.reference (files roles.Log) options.subject alone)
    knows_has statements store fit (Stops why) last nobody = closed ops (beginning_of program passed statements None) why table last

    opens_has : (statements : Option ℕ) (store : Store) → AllFit store → P (opening_with options program ops passed (Knows statements store) asked course)
    opens_has statements store fit = knows_has statements store fit asked (referred-fits reader options.budget options.reference (files Reference) some) (referred-nobody reader options.budget options.reference (files Reference))

    stated_has : (w : States) → FitsIn w → P (opening_with options program ops passed (prepared_by w) asked course)
    stated_has (oracle.refused line cause) fit = closed ops (beginning_of program passed None None) (stop (OracleRefused line cause) status.OracleText) table tt
    stated_has (oracle.states s) fit = opens_has (Some s.statements) s.answers fit

    prepared_has : (name : Option (List ℕ)) (loading : FileLoad) → P (opening_with options program ops passed (prepared reader ops name loading) asked course)
    prepared_has None loading = opens_has None empty_store tt
    prepared_has (Some name) Faults = closed ops (beginning_of program passed None None) (stop InputFault status.ReadFault) table tt
    prepared_has (Some name) (Gives known) = by (nat_lt 1048576 (length known))
      where
        by : (b : Bool) → P (opening_with options program ops passed (prepared_from reader ops (if b then Err (stop (FileTooLong 1048577) status.FileTooLong) else Ok known)) asked course)
        by true = closed ops (beginning_of program passed None None) (stop (FileTooLong 1048577) status.FileTooLong) table tt
        by false = stated_has (stated_in reader ops known) (stated_fit reader ops known)

  -- options whose subject stands alone
  abbrev AreAlone : Options → Type 0
  AreAlone options = StandsAlone options.subject options.oracle options.reference

  loaded_has : (options : Options) → 0 < options.budget → AreAlone options → (o : Loads) → IsProgramIn o → LeavesTable o → P (opening_after reader files options o)
  loaded_has options some alone (refused line cause) is table = unloaded (stop (ProgramRefused line cause) status.Program) tt
  loaded_has options some alone (loads l) is table = prepared_has options some alone l.program l.ops l.passed is table options.oracle (files KnownReplies)

  text_has : (options : Options) → 0 < options.budget → AreAlone options → (text : List ℕ) → length text ≤ 1048576 → P (opening_by reader files options (Ok text))
  text_has options some alone text short = loaded_has options some alone (program_of reader text) (loaded_is_program names reader text short) (leaves_table names reader text)

  file_has : (options : Options) → 0 < options.budget → AreAlone options → (loading : FileLoad) → P (opening_by reader files options (text_in loading))
  file_has options some alone Faults = unloaded (stop InputFault status.ReadFault) tt
  file_has options some alone (Gives text) = by (nat_lt 1048576 (length text)) refl
    where
      by : (b : Bool) → nat_lt 1048576 (length text) ≡ b → P (opening_by reader files options (if b then Err (stop (FileTooLong 1048577) status.FileTooLong) else Ok text))
      by true long = unloaded (stop (FileTooLong 1048577) status.FileTooLong) tt
      by false short = text_has options some alone text (ltb-false 1048576 (length text) short)

  subject_has : (options : Options) → 0 < options.budget → AreAlone options → (s : Subject) → StandsAlone s options.oracle options.reference → P (opening_by reader files options (subject_text files s))
  subject_has options some all (InFile name) alone = file_has options some all (files roles.Program)
  subject_has options some all (OfTree nodes) alone = let size = tree-short nodes alone.0.1 in text_has options some all (tree_text nodes) (omega (arith, size))
  subject_has options some all (OfLog program log) alone = file_has options some all (files roles.Program)

  options_has : (o : Option Options) → IfSome o (λ options. StandsAlone options.subject options.oracle options.reference × AreLimits options.budget options.answers) → P (opening_of reader files o)
  options_has None alone = unloaded (stop UsageRefused status.Usage) tt
  options_has (Some options) (alone, limits) = subject_has options limits.some_ports alone options.subject alone

  pub opening_has : (words : List (List ℕ)) → P (opening_of reader files (options_of words))
  opening_has words = options_has (options_of words) (by (options_of words) refl)
    where
      by : (o : Option Options) → options_of words ≡ o → IfSome o (λ options. StandsAlone options.subject options.oracle options.reference × AreLimits options.budget options.answers)
      by None named = tt
      by (Some options) named = (words-alone words options named, words-limited words options named)

-- only the files that the words name have a part in it
module _ {names : List (List ℕ)} (reader : Reader names) (files others : Role → FileLoad) (options : Options)
    (same : (role : Role) → IfSome (file_of options role) (λ name. files role ≡ others role)) where
  text_same : (s : Subject) → IfSome (file_of_subject s) (λ name. files roles.Program ≡ others roles.Program) → subject_text files s ≡ subject_text others s
  text_same (InFile name) is = ap text_in is
  text_same (OfTree nodes) is = refl
  text_same (OfLog program log) is = ap text_in is

  course_same : (s : Subject) → IfSome (log_of_subject s) (λ name. files roles.Log ≡ others roles.Log) → course_of (files roles.Log) s ≡ course_of (others roles.Log) s
  course_same (InFile name) is = refl
  course_same (OfTree nodes) is = refl
  course_same (OfLog program log) is = ap (λ (f : FileLoad). course_with (text_in f)) is

  prepared_same : (ops : Table) (name : Option (List ℕ)) (x y : FileLoad) → IfSome name (λ n. x ≡ y) → prepared reader ops name x ≡ prepared reader ops name y
  prepared_same ops None x y is = refl
  prepared_same ops (Some name) x y is = ap (λ (f : FileLoad). prepared_from reader ops (text_in f)) is

  referred_same : (name : Option (List ℕ)) (x y : FileLoad) → IfSome name (λ n. x ≡ y) → referred reader options.budget name x ≡ referred reader options.budget name y
  referred_same None x y is = refl
  referred_same (Some name) x y is = ap (λ (f : FileLoad). referred_from reader options.budget (text_in f)) is

  after_same : (o : Loads) → opening_after reader files options o ≡ opening_after reader others options o
  after_same (refused line cause) = refl
  after_same (loads l) =
      ap (λ (x : Prepared). opening_with options l.program l.ops l.passed x (referred reader options.budget options.reference (files Reference)) (course_of (files roles.Log) options.subject))
      (prepared_same l.ops options.oracle (files KnownReplies) (others KnownReplies) (same KnownReplies))
      ∙ ap (λ (x : Referring). opening_with options l.program l.ops l.passed (prepared reader l.ops options.oracle (others KnownReplies)) x (course_of (files roles.Log) options.subject))
      (referred_same options.reference (files Reference) (others Reference) (same Reference))
      ∙ ap (opening_with options l.program l.ops l.passed (prepared reader l.ops options.oracle (others KnownReplies)) (referred reader options.budget options.reference (others Reference)))
      (course_same options.subject (same roles.Log))

  by_same : (x : Result (List ℕ) Stop) → opening_by reader files options x ≡ opening_by reader others options x
  by_same (Err why) = refl
  by_same (Ok text) = after_same (program_of reader text)

  pub opening_same : opening_of reader files (Some options) ≡ opening_of reader others (Some options)
  opening_same = by_same (subject_text files options.subject) ∙ ap (opening_by reader others options) (text_same options.subject (same roles.Program))
