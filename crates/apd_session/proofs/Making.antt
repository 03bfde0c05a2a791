-- How the calls that make an opening fit together.
use Rattle.std.proofs.Common.{◌≡◌, ℕ, ◌<◌, ◌≤◌, List, [], length, refl, ap, sym, ◌∙◌, arith, Option, Some, None, subst, true, false}
use Rattle.std.specs.Prelude.{IfOk, IfSome, Result, Ok, Err, replicate}
use Rattle.std.proofs.lemmas.Bool.{le-leb, lt-leb}
use Rattle.std.proofs.Math.Dec.{leb}
use Rattle.std.proofs.lemmas.List.{length-replicate}
use Rattle.std.specs.declared.alloc.AllocError.{AllocError}
use Rattle.apd_answers.specs.Store.{Store, empty_store}
use Rattle.apd_causes.specs.declared.faults.LoadCause.{LoadCause}
use Rattle.apd_io.specs.Outside.{Tells, TellsLong}
use Rattle.apd_load.specs.Program.{Loads, loads, refused, program_of}
use Rattle.apd_load.specs.Warnings.{NotesAreNamed}
use Rattle.apd_load.specs.declared.Loaded.{Loaded}
use Rattle.apd_load.proofs.Calling.{notes_more}
use Rattle.apd_clauses.specs.Clauses.{tuples_of}
use Rattle.apd_clauses.specs.declared.clause.Clause.{Clause}
use Rattle.apd_debug.specs.NamedStates.{AreReplies}
use Rattle.apd_debug.proofs.KnownGoals.{tuples-more}
use Rattle.apd_term.specs.Named.{AllTuplesNamed}
use Rattle.apd_term.specs.StandardNames.{standard_names}
use Rattle.apd_session.proofs.Refereeing.{refers_later}
use Rattle.apd_ops.specs.Table.{Table}
use Rattle.apd_read.specs.Reader.{Reader}
use Rattle.apd_reference.specs.Referees.{names_known}
use Rattle.apd_reference.specs.declared.referee.Referee.{Referee}
use Rattle.apd_term.specs.Growth.{Grown}
use Rattle.apd_text.specs.declared.entry.Entry.TheVariants as entry
use Rattle.apd_words.specs.Words.{AreLimits, InFile, OfLog, OfTree, Options, Subject}
use Rattle.apd_session.specs.Opening.{beginning_of, course_of, course_with, first_state, goes_on, opening_after, opening_by, opening_with, referred, stop, subject_text, text_in}
use Rattle.apd_session.specs.Preparing.{Follows, HasSubject, HasText, IsBeginning, IsLoaded, IsPursued, IsReadyOpening, IsReviewed, IsStart, Opens, OpensAfter, OpensBy, OpensKnowing, OpensWith, Prepares, Pursues, Refers}
use Rattle.apd_session.specs.Roles as roles
use Rattle.apd_session.specs.Roles.{Role, KnownReplies, Reference, FileLoad, Gives, Faults, AreLoads, IsFileLoad, IsNamedLoad, file_of, file_of_subject, log_of_subject}
use Rattle.apd_session.specs.declared.opening.Course.{Course}
use Rattle.apd_session.specs.declared.opening.Course.TheVariants.{Hears, Plays}
use Rattle.apd_session.specs.declared.opening.Opening.{Opening}
use Rattle.apd_session.specs.declared.opening.Opening.TheVariants.{Unloaded, Closed}
use Rattle.apd_session.specs.declared.opening.Beginning.{Beginning}
use Rattle.apd_session.specs.declared.opening.Start.{Start}
use Rattle.apd_session.specs.declared.opening.Stop.{Stop}
use Rattle.apd_session.specs.declared.preparing.Prepared.{Prepared}
use Rattle.apd_session.specs.declared.preparing.Prepared.TheVariants.{Knows, Refuses}
use Rattle.apd_session.specs.declared.opening.Reviewed.{Reviewed}
use Rattle.apd_session.specs.declared.referring.Referring.{Referring}
use Rattle.apd_session.specs.declared.referring.Referring.TheVariants.{Asks}
use Rattle.apd_session.specs.declared.status.Status.TheVariants as status

-- some content for a file that memory did not suffice for, or that was not looked at
any_of : (told : Option (List ℕ)) → (bytes : List ℕ) × IsFileLoad told (Gives bytes)
any_of None = ([], tt)
any_of (Some known) = (known, refl)

any_named : (content : List ℕ → Option (List ℕ)) (name : Option (List ℕ)) → (bytes : List ℕ) × IsNamedLoad content name (Gives bytes)
any_named content None = ([], tt)
any_named content (Some name) = any_of (content name)

abbrev any_files : (content : List ℕ → Option (List ℕ)) (options : Option Options) (role : Role) → FileLoad
any_files content None role = Gives []
any_files content (Some options) role = Gives (any_named content (file_of options role)).0

are_any : (content : List ℕ → Option (List ℕ)) (options : Option Options) → AreLoads content options (any_files content options)
are_any content None = tt
are_any content (Some options) = λ role. (any_named content (file_of options role)).1

none_fault : (content : List ℕ → Option (List ℕ)) (options : Option Options) (role : Role) → any_files content options role ≡ Faults → ⊥
none_fault content None role is = absurd (cc)
none_fault content (Some options) role is = absurd (cc)

-- loads that a world may have had where nothing is known to have failed
pub some_files : (content : List ℕ → Option (List ℕ)) (options : Option Options) → (files : Role → FileLoad) × AreLoads content options files × ((role : Role) → files role ≡ Faults → ⊥)
some_files content options = (any_files content options, are_any content options, none_fault content options)

-- the text of a file, by what its load answered
tells_loading : (told : Option (List ℕ)) (bytes : List ℕ) → Tells told bytes → IsFileLoad told (Gives bytes)
tells_loading None bytes tells = tt
tells_loading (Some known) bytes tells = tells

faulty_load : (told : Option (List ℕ)) → IsFileLoad told Faults
faulty_load None = tt
faulty_load (Some known) = tt

-- a list of each length; abstract, so that no list of a million numbers is computed
some_list : (n : ℕ) → (bytes : List ℕ) × (length bytes ≡ n)
some_list n = (replicate n 0, length-replicate {A = ℕ} n 0)

-- some content for a file that is too long
long_of : (told : Option (List ℕ)) → TellsLong told → (bytes : List ℕ) × IsFileLoad told (Gives bytes) × (1048576 < length bytes)
long_of None long = let some = some_list 1048577 in (some.0, tt, omega (arith, some.1))
long_of (Some known) long = (known, refl, long)

pub text_told : (content : List ℕ → Option (List ℕ)) (failed : Type 0) (name text : List ℕ) → Tells (content name) text → length text ≤ 1048576 → HasText content failed name (Ok text)
text_told content failed name text tells bound =
    let test : leb 1048577 (length text) ≡ false = lt-leb _ _ (omega arith) in
    record { loading = Gives text; is = tells_loading (content name) text tells; faults = λ e. absurd (cc); so = rw test refl }

pub text_failed : (content : List ℕ → Option (List ℕ)) (failed : Type 0) (name : List ℕ) → failed → HasText content failed name (Err (stop entry.InputFault status.ReadFault))
text_failed content failed name rose = record { loading = Faults; is = faulty_load (content name); faults = λ e. rose; so = refl }

pub text_long : (content : List ℕ → Option (List ℕ)) (failed : Type 0) (name : List ℕ) (n : ℕ) → TellsLong (content name) → n ≡ 1048577 → HasText content failed name (Err (stop (entry.FileTooLong n) status.FileTooLong))
text_long content failed name n long is =
    let some = long_of (content name) long in
    let test : leb 1048577 (length some.0) ≡ true = le-leb _ _ (omega (arith, some.2)) in
    record { loading = Gives some.0; is = some.1; faults = λ e. absurd (cc); so = rw (test, is) refl }

pub subject_file : (content : List ℕ → Option (List ℕ)) (failed : Type 0) (name : List ℕ) (r : Result (Result (List ℕ) Stop) AllocError) → IfOk r (HasText content failed name) → IfOk r (HasSubject content failed (InFile name))
subject_file content failed name (Ok x) h = record { loading = h.loading; is = h.is; faults = h.faults; so = h.so }
subject_file content failed name (Err e) h = tt

pub subject_tree : (content : List ℕ → Option (List ℕ)) (failed : Type 0) (nodes : ℕ) (text : List ℕ) → subject_text (λ role. Gives []) (OfTree nodes) ≡ Ok text → HasSubject content failed (OfTree nodes) (Ok text)
subject_tree content failed nodes text is = record { loading = Gives []; is = tt; faults = λ e. absurd (cc); so = is }

-- how a session goes on
pub pursues_file : (content : List ℕ → Option (List ℕ)) (failed : Type 0) (name : List ℕ) → Pursues content failed (InFile name) (Ok Hears)
pursues_file content failed name = record { loading = Gives []; is = tt; faults = λ e. absurd (cc); so = refl }

pub pursues_tree : (content : List ℕ → Option (List ℕ)) (failed : Type 0) (nodes : ℕ) → Pursues content failed (OfTree nodes) (Ok (Plays nodes))
pursues_tree content failed nodes = record { loading = Gives []; is = tt; faults = λ e. absurd (cc); so = refl }

pub pursues_log : (content : List ℕ → Option (List ℕ)) (failed : Type 0) (program log : List ℕ) (x : Result (List ℕ) Stop) → HasText content failed log x → Pursues content failed (OfLog program log) (course_with x)
pursues_log content failed program log x h = record { loading = h.loading; is = h.is; faults = h.faults; so = ap course_with h.so }

-- where no log is loaded
pub pursues_any : (content : List ℕ → Option (List ℕ)) (failed : Type 0) (subject : Subject) → (x : Result Course Stop) × Pursues content failed subject x
pursues_any content failed subject =
    let some = any_named content (log_of_subject subject) in
    (course_of (Gives some.0) subject, record { loading = Gives some.0; is = some.1; faults = λ e. absurd (cc); so = refl })

pub pursues_later : (content now : List ℕ → Option (List ℕ)) (failed fails : Type 0) (subject : Subject) (x : Result Course Stop) → now ≡ content → (failed → fails) → Pursues now failed subject x → Pursues content fails subject x
pursues_later content now failed fails subject x same rose r = record {
  loading = r.loading;
  is = subst (λ (c : List ℕ → Option (List ℕ)). IsNamedLoad c (log_of_subject subject) r.loading) same r.is;
  faults = λ e. rose (r.faults e);
  so = r.so;
}

pub prepares_unnamed : (content : List ℕ → Option (List ℕ)) (failed : Type 0) (ops : Table) (names : List (List ℕ)) (store : Store) → store ≡ empty_store → Prepares content failed ops names None (Knows None store)
prepares_unnamed content failed ops names store is = record { loading = Gives []; is = tt; faults = λ e. absurd (cc); so = λ n grew reader. rw is refl }

-- what is known is known under names that come later, and its load may have failed before another
pub prepares_later : (content : List ℕ → Option (List ℕ)) (failed fails : Type 0) (ops : Table) (names more : List (List ℕ)) (name : Option (List ℕ)) (x : Prepared) → (failed → fails) → ((n : List (List ℕ)) → Grown more n → Grown names n)
    → Prepares content failed ops names name x → Prepares content fails ops more name x
prepares_later content failed fails ops names more name x rose grows p = record { loading = p.loading; is = p.is; faults = λ e. rose (p.faults e); so = λ n grew reader. p.so n (grows n grew) reader }

-- what a session begins with, where the oracle file is refused, and where its replies are known
pub opens_refusing : (content : List ℕ → Option (List ℕ)) (failed : Type 0) (options : Options) (l : Loaded) (names : List (List ℕ)) (why : Stop) → Prepares content failed l.ops names options.oracle (Refuses why)
    → OpensWith content failed options l names (Closed l.ops (beginning_of l.program l.passed None None) why)
opens_refusing content failed options l names why p = record { known = Refuses why; prepares = p; opens = refl }

pub opens_knowing : (content now : List ℕ → Option (List ℕ)) (before fails failed : Type 0) (options : Options) (l : Loaded) (names more : List (List ℕ)) (statements : Option ℕ) (store : Store) (r : Result Opening AllocError)
    → Prepares content before l.ops names options.oracle (Knows statements store) → now ≡ content → (before → failed) → (fails → failed) → ((n : List (List ℕ)) → Grown more n → Grown names n)
    → IfOk r (OpensKnowing now fails options l more (Knows statements store)) → IfOk r (OpensWith content failed options l more)
opens_knowing content now before fails failed options l names more statements store (Ok x) p same first second grows o = record {
  known = Knows statements store;
  prepares = prepares_later content before failed l.ops names more options.oracle (Knows statements store) first grows p;
  opens = record { referring = o.referring; refers = refers_later content now fails failed options.budget more options.reference o.referring same second o.refers; course = o.course; pursues = pursues_later content now fails failed options.subject o.course same second o.pursues; so = o.so };
}
opens_knowing content now before fails failed options l names more statements store (Err e) p same first second grows o = tt

-- by who is asked before the user
pub opens_asking : (content : List ℕ → Option (List ℕ)) (failed : Type 0) (options : Options) (l : Loaded) (names : List (List ℕ)) (statements : Option ℕ) (store : Store) (x : Referring) (course : Result Course Stop) (o : Opening)
    → Refers content failed options.budget names options.reference x → Pursues content failed options.subject course → o ≡ opening_with options l.program l.ops l.passed (Knows statements store) x course → OpensKnowing content failed options l names (Knows statements store) o
opens_asking content failed options l names statements store x course o r u so = record { referring = x; refers = r; course = course; pursues = u; so = sym so }

-- and goes on from here with what is debugged
pub opens_following : (content now : List ℕ → Option (List ℕ)) (failed fails : Type 0) (options : Options) (l : Loaded) (names : List (List ℕ)) (statements : Option ℕ) (store : Store) (referee : Referee) (reference : Option Reviewed) (start : Start) (r : Result Opening AllocError)
    → Refers content failed options.budget names options.reference (Asks referee reference) → start ≡ record { beginning = beginning_of l.program l.passed statements reference; state = first_state l.program options store referee }
    → now ≡ content → (fails → failed) → IfOk r (Follows now fails options.subject l.ops start) → IfOk r (OpensKnowing content failed options l names (Knows statements store))
opens_following content now failed fails options l names statements store referee reference start (Err e) refers is same rose f = tt
opens_following content now failed fails options l names statements store referee reference start (Ok x) refers is same rose f = record {
  referring = Asks referee reference;
  refers = refers;
  course = f.course;
  pursues = pursues_later content now fails failed options.subject f.course same rose f.pursues;
  so = ap (λ (s : Start). goes_on l.ops s f.course) (sym is) ∙ f.so;
}

-- loads of the files beside the program, by role
abbrev others_by : FileLoad → FileLoad → FileLoad → Role → FileLoad
others_by replies reference log roles.Program = replies
others_by replies reference log KnownReplies = replies
others_by replies reference log Reference = reference
others_by replies reference log roles.Log = log

others_fault : (failed : Type 0) (f g h : FileLoad) → (f ≡ Faults → failed) → (g ≡ Faults → failed) → (h ≡ Faults → failed) → (role : Role) → others_by f g h role ≡ Faults → failed
others_fault failed f g h first second third roles.Program is = first is
others_fault failed f g h first second third KnownReplies is = first is
others_fault failed f g h first second third Reference is = second is
others_fault failed f g h first second third roles.Log is = third is

pub opens_loaded : (content : List ℕ → Option (List ℕ)) (failed : Type 0) (options : Options) (text bytes : List ℕ) (l : Loaded) (before names : List (List ℕ)) (r : Result Opening AllocError) → IfOk r (OpensWith content failed options l names) → bytes ≡ text
    → ((n : List (List ℕ)) → Grown before n → (reader : Reader n) → program_of reader bytes ≡ loads (record { program = l.program; ops = l.ops; passed = l.passed })) → ((n : List (List ℕ)) → Grown names n → Grown before n) → IfOk r (OpensAfter content failed options text names)
opens_loaded content failed options text bytes l before names (Ok x) w is makes more = by w.known w.prepares w.opens
  where
    by : (known : Prepared) → Prepares content failed l.ops names options.oracle known → OpensBy content failed options l names known x → OpensAfter content failed options text names x
    by (Refuses why) p so =
        let other = any_named content options.reference in
        let last = any_named content (log_of_subject options.subject) in
        let files = others_by p.loading (Gives other.0) (Gives last.0) in
        record {
          files = files;
          oracle = p.is;
          reference = other.1;
          log = last.1;
          faults = others_fault failed p.loading (Gives other.0) (Gives last.0) p.faults (λ e. absurd (cc)) (λ e. absurd (cc));
          so = λ n grew reader.
              ap (λ (t : List ℕ). opening_after reader files options (program_of reader t)) (sym is)
              ∙ ap (opening_after reader files options) (makes n (more n grew) reader)
              ∙ ap (λ (k : Prepared). opening_with options l.program l.ops l.passed k (referred reader options.budget options.reference (Gives other.0)) (course_of (Gives last.0) options.subject)) (p.so n grew reader)
              ∙ so;
        }
    by (Knows statements store) p o =
        let files = others_by p.loading o.refers.loading o.pursues.loading in
        record {
          files = files;
          oracle = p.is;
          reference = o.refers.is;
          log = o.pursues.is;
          faults = others_fault failed p.loading o.refers.loading o.pursues.loading p.faults o.refers.faults o.pursues.faults;
          so = λ n grew reader.
              ap (λ (t : List ℕ). opening_after reader files options (program_of reader t)) (sym is)
              ∙ ap (opening_after reader files options) (makes n (more n grew) reader)
              ∙ ap (λ (k : Prepared). opening_with options l.program l.ops l.passed k (referred reader options.budget options.reference o.refers.loading) (course_of o.pursues.loading options.subject)) (p.so n grew reader)
              ∙ ap (λ (x : Referring). opening_with options l.program l.ops l.passed (Knows statements store) x (course_of o.pursues.loading options.subject)) (o.refers.so n grew reader)
              ∙ ap (opening_with options l.program l.ops l.passed (Knows statements store) o.referring) o.pursues.so
              ∙ o.so;
        }
opens_loaded content failed options text bytes l before names (Err e) w is makes more = tt

pub opens_refused : (content : List ℕ → Option (List ℕ)) (failed : Type 0) (options : Options) (text bytes : List ℕ) (line : ℕ) (cause : LoadCause) (names : List (List ℕ)) → bytes ≡ text
    → ((n : List (List ℕ)) → Grown names n → (reader : Reader n) → program_of reader bytes ≡ refused line cause) → OpensAfter content failed options text names (Unloaded (stop (entry.ProgramRefused line cause) status.Program))
opens_refused content failed options text bytes line cause names is makes =
    let some = any_named content options.oracle in
    let other = any_named content options.reference in
    let last = any_named content (log_of_subject options.subject) in
    let files = others_by (Gives some.0) (Gives other.0) (Gives last.0) in
    record {
      files = files;
      oracle = some.1;
      reference = other.1;
      log = last.1;
      faults = others_fault failed (Gives some.0) (Gives other.0) (Gives last.0) (λ e. absurd (cc)) (λ e. absurd (cc)) (λ e. absurd (cc));
      so = λ n grew reader. ap (λ (t : List ℕ). opening_after reader files options (program_of reader t)) (sym is) ∙ ap (opening_after reader files options) (makes n grew reader);
    }

-- loads by role
abbrev by_role : FileLoad → (Role → FileLoad) → Role → FileLoad
by_role program others roles.Program = program
by_role program others KnownReplies = others KnownReplies
by_role program others Reference = others Reference
by_role program others roles.Log = others roles.Log

are_by : (content : List ℕ → Option (List ℕ)) (options : Options) (f : FileLoad) (g : Role → FileLoad) → IsNamedLoad content (file_of_subject options.subject) f → IsNamedLoad content options.oracle (g KnownReplies) → IsNamedLoad content options.reference (g Reference) → IsNamedLoad content (log_of_subject options.subject) (g roles.Log)
    → (role : Role) → IsNamedLoad content (file_of options role) (by_role f g role)
are_by content options f g first second third last roles.Program = first
are_by content options f g first second third last KnownReplies = second
are_by content options f g first second third last Reference = third
are_by content options f g first second third last roles.Log = last

faults_by : (failed : Type 0) (f : FileLoad) (g : Role → FileLoad) → (f ≡ Faults → failed) → ((role : Role) → g role ≡ Faults → failed) → (role : Role) → by_role f g role ≡ Faults → failed
faults_by failed f g first others roles.Program is = first is
faults_by failed f g first others KnownReplies is = others KnownReplies is
faults_by failed f g first others Reference is = others Reference is
faults_by failed f g first others roles.Log is = others roles.Log is

subject_by : (f : FileLoad) (g : Role → FileLoad) (s : Subject) → subject_text (by_role f g) s ≡ subject_text (λ role. f) s
subject_by f g (InFile name) = refl
subject_by f g (OfTree nodes) = refl
subject_by f g (OfLog program log) = refl

after_by : {names : List (List ℕ)} (reader : Reader names) (options : Options) (f : FileLoad) (g : Role → FileLoad) (o : Loads) → opening_after reader (by_role f g) options o ≡ opening_after reader g options o
after_by reader options f g (refused line cause) = refl
after_by reader options f g (loads l) = refl

-- a subject that has a text was loaded without a fault
record Calm (content : List ℕ → Option (List ℕ)) (s : Subject) (text : List ℕ) : Type 0 where
  loading : FileLoad
  is : IsNamedLoad content (file_of_subject s) loading
  calm : loading ≡ Faults → ⊥
  so : subject_text (λ role. loading) s ≡ Ok text

calm_of : (content : List ℕ → Option (List ℕ)) (failed : Type 0) (s : Subject) (text : List ℕ) → HasSubject content failed s (Ok text) → Calm content s text
calm_of content failed (InFile name) text h = record {
  loading = h.loading;
  is = h.is;
  calm = λ e. let never : text_in Faults ≡ Ok text = ap text_in (sym e) ∙ h.so in absurd (cc);
  so = h.so;
}
calm_of content failed (OfTree nodes) text h = record { loading = Gives []; is = tt; calm = λ e. absurd (cc); so = h.so }
calm_of content failed (OfLog program log) text h = record {
  loading = h.loading;
  is = h.is;
  calm = λ e. let never : text_in Faults ≡ Ok text = ap text_in (sym e) ∙ h.so in absurd (cc);
  so = h.so;
}

pub opens_text : (content now : List ℕ → Option (List ℕ)) (before failed fails : Type 0) (options : Options) (text : List ℕ) (names : List (List ℕ)) (r : Result Opening AllocError) → HasSubject content before options.subject (Ok text) → now ≡ content → (fails → failed)
    → IfOk r (OpensAfter now fails options text names) → IfOk r (Opens content failed (Some options) names)
opens_text content now before failed fails options text names (Err e) h same more a = tt
opens_text content now before failed fails options text names (Ok x) h same more a =
    let first = calm_of content before options.subject text h in
    let replies : IsNamedLoad content options.oracle (a.files KnownReplies) = subst (λ (c : List ℕ → Option (List ℕ)). IsNamedLoad c options.oracle (a.files KnownReplies)) same a.oracle in
    let right : IsNamedLoad content options.reference (a.files Reference) = subst (λ (c : List ℕ → Option (List ℕ)). IsNamedLoad c options.reference (a.files Reference)) same a.reference in
    let last : IsNamedLoad content (log_of_subject options.subject) (a.files roles.Log) = subst (λ (c : List ℕ → Option (List ℕ)). IsNamedLoad c (log_of_subject options.subject) (a.files roles.Log)) same a.log in
    record {
      files = by_role first.loading a.files;
      are = are_by content options first.loading a.files first.is replies right last;
      faults = faults_by failed first.loading a.files (λ e. absurd (first.calm e)) (λ role e. more (a.faults role e));
      so = λ n grew reader.
          ap (opening_by reader (by_role first.loading a.files) options) (subject_by first.loading a.files options.subject ∙ first.so)
          ∙ (after_by reader options first.loading a.files (program_of reader text) ∙ a.so n grew reader);
    }

pub opens_not : (content : List ℕ → Option (List ℕ)) (failed : Type 0) (options : Options) (names : List (List ℕ)) (why : Stop) → HasSubject content failed options.subject (Err why) → Opens content failed (Some options) names (Unloaded why)
opens_not content failed options names why h =
    let some = any_named content options.oracle in
    let other = any_named content options.reference in
    let last = any_named content (log_of_subject options.subject) in
    let files = others_by (Gives some.0) (Gives other.0) (Gives last.0) in
    record {
      files = by_role h.loading files;
      are = are_by content options h.loading files h.is some.1 other.1 last.1;
      faults = faults_by failed h.loading files h.faults (others_fault failed (Gives some.0) (Gives other.0) (Gives last.0) (λ e. absurd (cc)) (λ e. absurd (cc)) (λ e. absurd (cc)));
      so = λ n grew reader. ap (opening_by reader (by_role h.loading files) options) (subject_by h.loading files options.subject ∙ h.so);
    }

-- where the words break their rules
pub opens_usage : (content : List ℕ → Option (List ℕ)) (failed : Type 0) (names : List (List ℕ)) → Opens content failed None names (Unloaded (stop entry.UsageRefused status.Usage))
opens_usage content failed names = record { files = λ role. Gives []; are = tt; faults = λ role e. absurd (cc); so = λ n grew reader. refl }

-- what an opening with a program needs
pub start_ready : (n m : ℕ) (options : Options) (program : List Clause) (store : Store) (referee : Referee) (b : Beginning) → n ≤ m → AreLimits options.budget options.answers → length standard_names ≤ n → AllTuplesNamed n (tuples_of program) → NotesAreNamed n b.passed → NotesAreNamed n b.called → IfSome b.reference (IsReviewed m) → AreReplies m store → names_known referee ≤ m
    → IsStart m (record { beginning = b; state = first_state program options store referee })
start_ready n m options program store referee b more limits standard named passed called reference replies known = record {
  beginning = record { passed = notes_more n m b.passed more passed; called = notes_more n m b.called more called; reference = reference };
  state = record { ready = record { limits = limits; standard = omega (arith, standard, more); named = tuples-more n m (tuples_of program) more named; last = tt }; replies = replies; referee = known };
}

-- what was loaded stays named where names are added
pub IsLoaded-more : (n m : ℕ) (l : Loaded) → n ≤ m → IsLoaded n l → IsLoaded m l
IsLoaded-more n m l more is = record {
  program = tuples-more n m (tuples_of l.program) more is.program;
  passed = notes_more n m l.passed more is.passed;
  called = notes_more n m l.warnings more is.called;
  warnings = is.warnings;
}

-- how a session goes on
pub goes_ready : (n : ℕ) (ops : Table) (start : Start) (x : Result Course Stop) → IsStart n start → IsPursued x → IsReadyOpening n (goes_on ops start x)
goes_ready n ops start (Ok course) ready is = (ready, is)
goes_ready n ops start (Err why) ready is = (ready.beginning, is n)

-- what is said where a session ends before it hears anything
pub closing_ready : (n m : ℕ) (l : Loaded) (statements : Option ℕ) → n ≤ m → IsLoaded n l → IsBeginning m (beginning_of l.program l.passed statements None)
closing_ready n m l statements more is =
    record { passed = notes_more n m l.passed more is.passed; called = subst (NotesAreNamed m) is.warnings (notes_more n m l.warnings more is.called); reference = tt }
