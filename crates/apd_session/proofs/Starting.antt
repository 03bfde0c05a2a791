-- What a session begins with, by the table of reasons: each opening is in it, and each row leads to its opening.
use Rattle.std.proofs.Common.{◌≡◌, inl, inr, ℕ, ◌<◌, ◌≤◌, List, length, Option, Some, None, Bool, true, false, refl, ap, sym, ◌∙◌, subst}
use Rattle.std.proofs.lemmas.Bool.{le-ltb, lt-ltb, ltb-false, ltb-true}
use Rattle.std.specs.Prelude.{Result, Ok, Err, if◌then◌else◌, nat_lt}
use Rattle.apd_answers.specs.Store.{Store, empty_store}
use Rattle.apd_causes.specs.declared.faults.LoadCause.TheVariants as causes
use Rattle.apd_gen.specs.Programs.{tree_text}
use Rattle.apd_known.specs.Files.{States, stated_in}
use Rattle.apd_known.specs.Files as oracle
use Rattle.apd_load.specs.Program.{Loads, refused, loads, program_of}
use Rattle.apd_ops.specs.Table.{Table}
use Rattle.apd_read.specs.Reader.{Reader}
use Rattle.apd_reference.specs.declared.referee.Referee.{Referee}
use Rattle.apd_reference.specs.declared.referee.Referee.TheVariants.{Nobody, Program}
use Rattle.apd_text.specs.declared.entry.Entry.TheVariants.{FileTooLong, InputFault}
use Rattle.apd_words.specs.Words.{InFile, OfLog, OfTree, Options, Subject, options_of}
use Rattle.apd_session.specs.Opening.{beginning_of, course_of, course_with, first_state, goes_on, last_line, opening_after, opening_by, opening_of, opening_with, prepared, prepared_by, prepared_from, referred, referred_by, referred_from, refused_reference, reviewed, stop, stops_with, subject_text, text_in}
use Rattle.apd_session.specs.Reasons.{AFileFails, AFileIsTooLong, FailsToLoad, HasProgram, IsDebugged, IsMisstated, IsNoReference, IsReached, IsRefused, IsText, IsTooLong, LogIsGood, Made, OracleIsGood, OracleIsRefused, ProgramIsRefused, ReferenceIsGood, ReferenceIsRefused, Starts, StopsWith}
use Rattle.apd_session.specs.Roles as roles
use Rattle.apd_session.specs.Roles.{Role, KnownReplies, Reference, FileLoad, Gives, Faults, file_of, file_of_subject, log_of_subject}
use Rattle.apd_session.specs.declared.opening.Course.{Course}
use Rattle.apd_session.specs.declared.opening.Course.TheVariants.{Hears, Plays, Checks}
use Rattle.apd_session.specs.declared.opening.Opening.{Opening}
use Rattle.apd_session.specs.declared.opening.Opening.TheVariants.{Unloaded, Closed, Open}
use Rattle.apd_session.specs.declared.opening.Reviewed.{Reviewed}
use Rattle.apd_session.specs.declared.opening.Start.{Start}
use Rattle.apd_session.specs.declared.opening.Stop.{Stop}
use Rattle.apd_session.specs.declared.preparing.Prepared.{Prepared}
use Rattle.apd_session.specs.declared.preparing.Prepared.TheVariants.{Knows}
use Rattle.apd_session.specs.declared.referring.Referring.{Referring}
use Rattle.apd_session.specs.declared.referring.Referring.TheVariants.{Asks}
use Rattle.apd_session.specs.declared.status.Status.{Status}
use Rattle.apd_session.specs.declared.status.Status.TheVariants as status

-- how a session goes on with what is debugged
abbrev pub IsCourseOf : Subject → Course → Type 0
IsCourseOf (InFile name) Hears = Unit {0}
IsCourseOf (InFile name) (Plays nodes) = ⊥
IsCourseOf (InFile name) (Checks text) = ⊥
IsCourseOf (OfTree n) Hears = ⊥
IsCourseOf (OfTree n) (Plays nodes) = Unit {0}
IsCourseOf (OfTree n) (Checks text) = ⊥
IsCourseOf (OfLog program log) Hears = ⊥
IsCourseOf (OfLog program log) (Plays nodes) = ⊥
IsCourseOf (OfLog program log) (Checks text) = Unit {0}

-- text_in, once its test is known
abbrev pub text_if : List ℕ → Bool → Result (List ℕ) Stop
text_if text b = if b then Err (stop (FileTooLong 1048577) status.FileTooLong) else Ok text

module _ {names : List (List ℕ)} (words : List (List ℕ)) (reader : Reader names) (files : Role → FileLoad) where
  pub record IsStarted (ops : Table) (course : Course) : Type 0 where
    pub options : Options
    pub made : Made
    pub starts : Starts words reader files options made
    pub ops_are : made.ops ≡ ops
    pub course_is : IsCourseOf options.subject course

  -- what the table says of an opening
  abbrev pub IsTold : Opening → Type 0
  IsTold (Unloaded why) = StopsWith words reader files why.status
  IsTold (Closed ops b why) = StopsWith words reader files why.status
  IsTold (Open ops start course) = IsStarted ops course

  module _ (o : Options) (asked : options_of words ≡ Some o) where
    fails_to : (role : Role) (name : List ℕ) → IsReached reader files o role → file_of o role ≡ Some name → files role ≡ Faults → AFileFails words reader files
    fails_to role name reached is faults = record { options = o; asked = asked; role = role; reached = reached; fails = record { name = name; named = is; faults = faults } }

    long_for : (role : Role) (name text : List ℕ) → IsReached reader files o role → file_of o role ≡ Some name → files role ≡ Gives text → 1048576 < length text → AFileIsTooLong words reader files
    long_for role name text reached is gives long =
        record { options = o; asked = asked; role = role; reached = reached; too_long = record { name = name; named = is; text = text; gives = gives; long = long } }

    is_text : (role : Role) (name text : List ℕ) → file_of o role ≡ Some name → files role ≡ Gives text → length text ≤ 1048576 → IsText files o role text
    is_text role name text is gives short = record { name = name; named = is; gives = gives; short = short }

    module _ (l : Made) (has : HasProgram reader files o l) where
      module _ (replies : OracleIsGood reader files o l.ops) (reference : ReferenceIsGood reader files o) (start : Start) where
        started : (course : Course) → LogIsGood reader files o → IsCourseOf o.subject course → IsTold (Open l.ops start course)
        started course log is =
            record { options = o; made = l; starts = record { asked = asked; program = has; replies = replies; reference = reference; log = log }; ops_are = refl; course_is = is }

        told_log : (program log : List ℕ) → o.subject ≡ OfLog program log → (loading : FileLoad) → files roles.Log ≡ loading → IsTold (goes_on l.ops start (course_with (text_in loading)))
        told_log program log is Faults f = fails_to roles.Log log (l, has, replies, reference) (ap log_of_subject is) f
        told_log program log is (Gives text) f = by (nat_lt 1048576 (length text)) refl
          where
            by : (b : Bool) → nat_lt 1048576 (length text) ≡ b → IsTold (goes_on l.ops start (course_with (text_if text b)))
            by true e = long_for roles.Log log text (l, has, replies, reference) (ap log_of_subject is) f (ltb-true 1048576 (length text) e)
            by false e =
                started (Checks text) (inr (text, is_text roles.Log log text (ap log_of_subject is) f (ltb-false 1048576 (length text) e)))
                (subst (λ (s : Subject). IsCourseOf s (Checks text)) (sym is) tt)

        told_course : (s : Subject) → o.subject ≡ s → IsTold (goes_on l.ops start (course_of (files roles.Log) s))
        told_course (InFile name) is = started Hears (inl (ap log_of_subject is)) (subst (λ (s : Subject). IsCourseOf s Hears) (sym is) tt)
        told_course (OfTree nodes) is = started (Plays nodes) (inl (ap log_of_subject is)) (subst (λ (s : Subject). IsCourseOf s (Plays nodes)) (sym is) tt)
        told_course (OfLog program log) is = told_log program log is (files roles.Log) refl

      abbrev course : Result Course Stop
      course = course_of (files roles.Log) o.subject

      module _ (replies : OracleIsGood reader files o l.ops) (statements : Option ℕ) (store : Store) where
        abbrev with_referring : Referring → Opening
        with_referring x = opening_with o l.program l.ops l.passed (Knows statements store) x course

        told_asks : ReferenceIsGood reader files o → (referee : Referee) (reference : Option Reviewed) → IsTold (with_referring (Asks referee reference))
        told_asks good referee reference =
            told_course replies good (record { beginning = beginning_of l.program l.passed statements reference; state = first_state l.program o store referee }) o.subject refl

        refuses : (text : List ℕ) → IsText files o Reference text → IsNoReference (program_of reader text) → ReferenceIsRefused words reader files
        refuses text is bad = record { options = o; asked = asked; made = l; program = has; replies = replies; text = text; is = is; refused = bad }

        told_made : (text : List ℕ) → IsText files o Reference text → (made : Loads) → program_of reader text ≡ made → IsTold (with_referring (referred_by o.budget made))
        told_made text is (refused line cause) e = refuses text is (subst IsNoReference (sym e) tt)
        told_made text is (loads k) e = by (nat_lt (length k.program) 20000) refl
          where
            by : (b : Bool) → nat_lt (length k.program) 20000 ≡ b
                → IsTold (with_referring (if b then Asks (Program (record { program = k.program; budget = o.budget })) (Some (reviewed k.program k.passed)) else refused_reference (last_line k.program) causes.ClausesOver))
            by true f =
                told_asks (inr (record { text = text; is = is; made = record { program = k.program; ops = k.ops; passed = k.passed }; so = e; few = ltb-true (length k.program) 20000 f })) (Program (record { program = k.program; budget = o.budget })) (Some (reviewed k.program k.passed))
            by false f = refuses text is (subst IsNoReference (sym e) (ltb-false (length k.program) 20000 f))

        told_reference : (name : Option (List ℕ)) → o.reference ≡ name → (loading : FileLoad) → files Reference ≡ loading → IsTold (with_referring (referred reader o.budget name loading))
        told_reference None is loading f = told_asks (inl is) Nobody None
        told_reference (Some name) is Faults f = fails_to Reference name (l, has, replies) is f
        told_reference (Some name) is (Gives text) f = by (nat_lt 1048576 (length text)) refl
          where
            by : (b : Bool) → nat_lt 1048576 (length text) ≡ b → IsTold (with_referring (referred_from reader o.budget (text_if text b)))
            by true e = long_for Reference name text (l, has, replies) is f (ltb-true 1048576 (length text) e)
            by false e = told_made text (is_text Reference name text is f (ltb-false 1048576 (length text) e)) (program_of reader text) refl

      abbrev with_known : Prepared → Opening
      with_known x = opening_with o l.program l.ops l.passed x (referred reader o.budget o.reference (files Reference)) course

      told_stated : (text : List ℕ) → IsText files o KnownReplies text → (w : States) → stated_in reader l.ops text ≡ w → IsTold (with_known (prepared_by w))
      told_stated text is (oracle.refused line cause) e =
          record { options = o; asked = asked; made = l; program = has; text = text; is = is; refused = subst IsMisstated (sym e) tt }
      told_stated text is (oracle.states s) e =
          told_reference (inr (record { text = text; is = is; stated = s; states = e })) (Some s.statements) s.answers o.reference refl (files Reference) refl

      told_oracle : (name : Option (List ℕ)) → o.oracle ≡ name → (loading : FileLoad) → files KnownReplies ≡ loading → IsTold (with_known (prepared reader l.ops name loading))
      told_oracle None is loading f = told_reference (inl is) None empty_store o.reference refl (files Reference) refl
      told_oracle (Some name) is Faults f = fails_to KnownReplies name (l, has) is f
      told_oracle (Some name) is (Gives text) f = by (nat_lt 1048576 (length text)) refl
        where
          by : (b : Bool) → nat_lt 1048576 (length text) ≡ b → IsTold (with_known (prepared_from reader l.ops (text_if text b)))
          by true e = long_for KnownReplies name text (l, has) is f (ltb-true 1048576 (length text) e)
          by false e = told_stated text (is_text KnownReplies name text is f (ltb-false 1048576 (length text) e)) (stated_in reader l.ops text) refl

    told_program : (text : List ℕ) → IsDebugged files o text → (made : Loads) → program_of reader text ≡ made → IsTold (opening_after reader files o made)
    told_program text is (refused line cause) e = record { options = o; asked = asked; text = text; debugged = is; refused = subst IsRefused (sym e) tt }
    told_program text is (loads l) e = told_oracle (record { program = l.program; ops = l.ops; passed = l.passed }) (record { text = text; debugged = is; so = e }) o.oracle refl (files KnownReplies) refl

    told_file : (name : List ℕ) → file_of o roles.Program ≡ Some name → (loading : FileLoad) → files roles.Program ≡ loading → IsTold (opening_by reader files o (text_in loading))
    told_file name is Faults f = fails_to roles.Program name tt is f
    told_file name is (Gives text) f = by (nat_lt 1048576 (length text)) refl
      where
        by : (b : Bool) → nat_lt 1048576 (length text) ≡ b → IsTold (opening_by reader files o (text_if text b))
        by true e = long_for roles.Program name text tt is f (ltb-true 1048576 (length text) e)
        by false e = told_program text (inl (is_text roles.Program name text is f (ltb-false 1048576 (length text) e))) (program_of reader text) refl

    told_subject : (s : Subject) → o.subject ≡ s → IsTold (opening_by reader files o (subject_text files s))
    told_subject (InFile name) is = told_file name (ap file_of_subject is) (files roles.Program) refl
    told_subject (OfTree nodes) is = told_program (tree_text nodes) (inr (nodes, is, refl)) (program_of reader (tree_text nodes)) refl
    told_subject (OfLog program log) is = told_file program (ap file_of_subject is) (files roles.Program) refl

  told_words : (x : Option Options) → options_of words ≡ x → IsTold (opening_of reader files x)
  told_words None e = e
  told_words (Some o) e = told_subject o e o.subject refl

  -- each opening is told by the table
  pub opening-told : IsTold (opening_of reader files (options_of words))
  opening-told = told_words (options_of words) refl

  -- and each row leads to its opening
  is_fault : (o : Options) (role : Role) → FailsToLoad files o role → text_in (files role) ≡ Err (stop InputFault status.ReadFault)
  is_fault o role f = ap text_in f.faults

  is_long : (o : Options) (role : Role) → IsTooLong files o role → text_in (files role) ≡ Err (stop (FileTooLong 1048577) status.FileTooLong)
  is_long o role f = ap text_in f.gives ∙ ap (text_if f.text) (lt-ltb 1048576 (length f.text) f.long)

  text_of : (o : Options) (role : Role) (text : List ℕ) → IsText files o role text → text_in (files role) ≡ Ok text
  text_of o role text f = ap text_in f.gives ∙ ap (text_if text) (le-ltb 1048576 (length text) f.short)

  of_file : (s : Subject) (name : List ℕ) → file_of_subject s ≡ Some name → subject_text files s ≡ text_in (files roles.Program)
  of_file (InFile n) name is = refl
  of_file (OfTree nodes) name is = absurd (cc)
  of_file (OfLog program log) name is = refl

  of_log : (s : Subject) (name : List ℕ) → log_of_subject s ≡ Some name → course_of (files roles.Log) s ≡ course_with (text_in (files roles.Log))
  of_log (InFile n) name is = absurd (cc)
  of_log (OfTree nodes) name is = absurd (cc)
  of_log (OfLog program log) name is = refl

  debugged_text : (o : Options) (text : List ℕ) → IsDebugged files o text → subject_text files o.subject ≡ Ok text
  debugged_text o text (inl t) = of_file o.subject t.name t.named ∙ text_of o roles.Program text t
  debugged_text o text (inr (nodes, is, e)) = rw e (ap (subject_text files) is)

  abbrev opened : Opening
  opened = opening_of reader files (options_of words)

  is_asked : (o : Options) → options_of words ≡ Some o → opened ≡ opening_by reader files o (subject_text files o.subject)
  is_asked o asked = ap (opening_of reader files) asked

  module _ (o : Options) (asked : options_of words ≡ Some o) where
    of_text : (text : List ℕ) → IsDebugged files o text → opened ≡ opening_after reader files o (program_of reader text)
    of_text text is = is_asked o asked ∙ ap (opening_by reader files o) (debugged_text o text is)

    module _ (l : Made) (has : HasProgram reader files o l) where
      abbrev by_parts : Prepared → Referring → Result Course Stop → Opening
      by_parts x y z = opening_with o l.program l.ops l.passed x y z

      abbrev known : Prepared
      known = prepared reader l.ops o.oracle (files KnownReplies)

      abbrev referring : Referring
      referring = referred reader o.budget o.reference (files Reference)

      abbrev pursued : Result Course Stop
      pursued = course_of (files roles.Log) o.subject

      of_program : opened ≡ by_parts known referring pursued
      of_program = of_text has.text has.debugged ∙ ap (opening_after reader files o) has.so

      of_oracle : (name : List ℕ) → o.oracle ≡ Some name → known ≡ prepared_from reader l.ops (text_in (files KnownReplies))
      of_oracle name is = ap (λ (n : Option (List ℕ)). prepared reader l.ops n (files KnownReplies)) is

      of_reference : (name : List ℕ) → o.reference ≡ Some name → referring ≡ referred_from reader o.budget (text_in (files Reference))
      of_reference name is = ap (λ (n : Option (List ℕ)). referred reader o.budget n (files Reference)) is

      knows : OracleIsGood reader files o l.ops → (statements : Option ℕ) × (store : Store) × (known ≡ Knows statements store)
      knows (inl none) = (None, empty_store, ap (λ (n : Option (List ℕ)). prepared reader l.ops n (files KnownReplies)) none)
      knows (inr g) = (
        Some g.stated.statements,
        g.stated.answers,
        of_oracle g.is.name g.is.named ∙ ap (prepared_from reader l.ops) (text_of o KnownReplies g.text g.is) ∙ ap prepared_by g.states,
      )

      abbrev referred_if : Made → Bool → Referring
      referred_if k b = if b then Asks (Program (record { program = k.program; budget = o.budget })) (Some (reviewed k.program k.passed)) else refused_reference (last_line k.program) causes.ClausesOver

      referred_text : (text : List ℕ) → IsText files o Reference text → referring ≡ referred_by o.budget (program_of reader text)
      referred_text text is = of_reference is.name is.named ∙ ap (referred_from reader o.budget) (text_of o Reference text is)

      asks : ReferenceIsGood reader files o → (referee : Referee) × (reference : Option Reviewed) × (referring ≡ Asks referee reference)
      asks (inl none) = (Nobody, None, ap (λ (n : Option (List ℕ)). referred reader o.budget n (files Reference)) none)
      asks (inr g) = (
        Program (record { program = g.made.program; budget = o.budget }),
        Some (reviewed g.made.program g.made.passed),
        referred_text g.text g.is ∙ ap (referred_by o.budget) g.so ∙ ap (referred_if g.made) (lt-ltb (length g.made.program) 20000 g.few),
      )

      pursues : LogIsGood reader files o → (s : Subject) → o.subject ≡ s → (course : Course) × (course_of (files roles.Log) s ≡ Ok course) × IsCourseOf s course
      pursues good (InFile name) is = (Hears, refl, tt)
      pursues good (OfTree nodes) is = (Plays nodes, refl, tt)
      pursues (inl none) (OfLog program log) is = let never : Some log ≡ None = sym (ap log_of_subject is) ∙ none in absurd (cc)
      pursues (inr g) (OfLog program log) is = (Checks g.0, ap course_with (text_of o roles.Log g.0 g.1), tt)

      -- where the oracle file is good, and where the reference program is too
      of_known : (replies : OracleIsGood reader files o l.ops) → opened ≡ by_parts (Knows (knows replies).0 (knows replies).1) referring pursued
      of_known replies = of_program ∙ ap (λ (x : Prepared). by_parts x referring pursued) (knows replies).2

      of_asking : (replies : OracleIsGood reader files o l.ops) (reference : ReferenceIsGood reader files o)
          → opened ≡ by_parts (Knows (knows replies).0 (knows replies).1) (Asks (asks reference).0 (asks reference).1) pursued
      of_asking replies reference = of_known replies ∙ ap (λ (y : Referring). by_parts (Knows (knows replies).0 (knows replies).1) y pursued) (asks reference).2

    -- a file that gives no text stops the session
    stops_at : (role : Role) (why : Stop) (name : List ℕ) → IsReached reader files o role → file_of o role ≡ Some name → text_in (files role) ≡ Err why → stops_with opened ≡ Some why.status
    stops_at roles.Program why name reached is none = ap stops_with (is_asked o asked ∙ ap (opening_by reader files o) (of_file o.subject name is ∙ none))
    stops_at KnownReplies why name (l, has) is none =
        ap stops_with (of_program l has ∙ ap (λ (x : Prepared). by_parts l has x (referring l has) (pursued l has)) (of_oracle l has name is ∙ ap (prepared_from reader l.ops) none))
    stops_at Reference why name (l, has, replies) is none =
        let k = knows l has replies in
        ap stops_with (of_known l has replies ∙ ap (λ (y : Referring). by_parts l has (Knows k.0 k.1) y (pursued l has)) (of_reference l has name is ∙ ap (referred_from reader o.budget) none))
    stops_at roles.Log why name (l, has, replies, reference) is none =
        let k = knows l has replies in
        let a = asks l has reference in
        ap stops_with (of_asking l has replies reference ∙ ap (λ (z : Result Course Stop). by_parts l has (Knows k.0 k.1) (Asks a.0 a.1) z) (of_log o.subject name is ∙ ap course_with none))

  program_stops : ProgramIsRefused words reader files → stops_with opened ≡ Some status.Program
  program_stops r = ap stops_with (of_text r.options r.asked r.text r.debugged) ∙ by (program_of reader r.text) r.refused
    where
      by : (made : Loads) → IsRefused made → stops_with (opening_after reader files r.options made) ≡ Some status.Program
      by (refused line cause) is = refl
      by (loads l) is = absurd is

  oracle_stops : OracleIsRefused words reader files → stops_with opened ≡ Some status.OracleText
  oracle_stops r =
      let o = r.options in
      let l = r.made in
      ap stops_with
      (of_program o r.asked l r.program ∙ ap (λ (x : Prepared). by_parts o r.asked l r.program x (referring o r.asked l r.program) (pursued o r.asked l r.program))
      (of_oracle o r.asked l r.program r.is.name r.is.named ∙ ap (prepared_from reader l.ops) (text_of o KnownReplies r.text r.is)))
      ∙ by (stated_in reader l.ops r.text) r.refused
    where
      by : (w : States) → IsMisstated w
          → stops_with (by_parts r.options r.asked r.made r.program (prepared_by w) (referring r.options r.asked r.made r.program) (pursued r.options r.asked r.made r.program)) ≡ Some status.OracleText
      by (oracle.refused line cause) is = refl
      by (oracle.states s) is = absurd is

  reference_stops : ReferenceIsRefused words reader files → stops_with opened ≡ Some status.ReferenceText
  reference_stops r =
      let k = knows r.options r.asked r.made r.program r.replies in
      ap stops_with
      (of_known r.options r.asked r.made r.program r.replies ∙ ap (λ (y : Referring). by_parts r.options r.asked r.made r.program (Knows k.0 k.1) y (pursued r.options r.asked r.made r.program))
      (referred_text r.options r.asked r.made r.program r.text r.is))
      ∙ by k.0 k.1 (program_of reader r.text) r.refused
    where
      by : (statements : Option ℕ) (store : Store) (made : Loads) → IsNoReference made
          → stops_with (by_parts r.options r.asked r.made r.program (Knows statements store) (referred_by r.options.budget made) (pursued r.options r.asked r.made r.program)) ≡ Some status.ReferenceText
      by statements store (refused line cause) is = refl
      by statements store (loads k) many =
          ap (λ (y : Referring). stops_with (by_parts r.options r.asked r.made r.program (Knows statements store) y (pursued r.options r.asked r.made r.program)))
          (ap (referred_if r.options r.asked r.made r.program (record { program = k.program; ops = k.ops; passed = k.passed })) (le-ltb (length k.program) 20000 many))

  -- the status of a row is that of the opening
  pub row-stops : (s : Status) → StopsWith words reader files s → stops_with opened ≡ Some s
  row-stops status.Done row = absurd row
  row-stops status.Usage row = ap (λ (x : Option Options). stops_with (opening_of reader files x)) row
  row-stops status.Program row = program_stops row
  row-stops status.ReadFault row = stops_at row.options row.asked row.role _ row.fails.name row.reached row.fails.named (is_fault row.options row.role row.fails)
  row-stops status.WriteFault row = absurd row
  row-stops status.Memory row = absurd row
  row-stops status.InputLimit row = absurd row
  row-stops status.OracleText row = oracle_stops row
  row-stops status.FileTooLong row = stops_at row.options row.asked row.role _ row.too_long.name row.reached row.too_long.named (is_long row.options row.role row.too_long)
  row-stops status.ReferenceText row = reference_stops row
  row-stops status.CheckFailed row = absurd row

  -- what starts is open
  pub record IsOpen (o : Options) (l : Made) : Type 0 where
    pub start : Start
    pub course : Course
    pub opens : opened ≡ Open l.ops start course
    pub course_is : IsCourseOf o.subject course

  pub starts-open : (o : Options) (l : Made) → Starts words reader files o l → IsOpen o l
  starts-open o l s =
      let k = knows o s.asked l s.program s.replies in
      let a = asks o s.asked l s.program s.reference in
      let c = pursues o s.asked l s.program s.log o.subject refl in
      record {
        start = record { beginning = beginning_of l.program l.passed k.0 a.1; state = first_state l.program o k.1 a.0 };
        course = c.0;
        opens = of_asking o s.asked l s.program s.replies s.reference ∙ ap (λ (z : Result Course Stop). by_parts o s.asked l s.program (Knows k.0 k.1) (Asks a.0 a.1) z) c.1;
        course_is = c.2;
      }

  pub stop-told : (x : Opening) (s : Status) → IsTold x → stops_with x ≡ Some s → StopsWith words reader files s
  stop-told (Unloaded why) s told is = let same : why.status ≡ s = cc in subst (StopsWith words reader files) same told
  stop-told (Closed ops b why) s told is = let same : why.status ≡ s = cc in subst (StopsWith words reader files) same told
  stop-told (Open ops start course) s told is = absurd (cc)
