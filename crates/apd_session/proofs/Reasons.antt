-- The status of a session is that of the row of the table of reasons that holds.
use Rattle.std.proofs.Common.{◌≡◌, ◌⊎◌, inl, inr, ℕ, ◌<◌, ◌≤◌, List, length, Option, Some, Bool, true, false, refl, ap, sym, ◌∙◌, subst}
use Rattle.std.proofs.lemmas.Bool.{le-leb, leb-false, leb-true, lt-leb}
use Rattle.std.proofs.Math.Dec.{leb}
use Rattle.std.specs.Prelude.{◌↔◌, if◌then◌else◌}
use Rattle.apd_check.specs.declared.checked.Checked.{Checked}
use Rattle.apd_check.specs.declared.checked.Checked.TheVariants.{Holds, Fails}
use Rattle.apd_console.specs.Lines.{InputEnd, Ended, Fails as Faulty, Close, AtEnd, AtFault, AtLimit, hear}
use Rattle.apd_ops.specs.Table.{Table}
use Rattle.apd_read.specs.Reader.{Reader}
use Rattle.apd_text.specs.declared.log.Log.{Log}
use Rattle.apd_words.specs.Words.{InFile, OfLog, OfTree, Options, Subject, options_of}
use Rattle.apd_session.specs.Causes.{Comes}
use Rattle.apd_session.specs.Opening.{opening_of, stops_with}
use Rattle.apd_session.specs.Outcome.{IsSaid}
use Rattle.apd_session.specs.Reasons.{CheckFails, ComesForReason, EndsWell, HasReason, Hears as HearsLines, InputFails, LogFails, ComesToItsEnd, Made, Starts, StopsWith, quits}
use Rattle.apd_session.specs.Roles.{Role, FileLoad}
use Rattle.apd_session.specs.Session.{World, session_of}
use Rattle.apd_session.specs.declared.opening.Course.{Course}
use Rattle.apd_session.specs.declared.opening.Course.TheVariants.{Hears, Plays, Checks}
use Rattle.apd_session.specs.declared.opening.Opening.{Opening}
use Rattle.apd_session.specs.declared.opening.Opening.TheVariants.{Unloaded, Closed, Open}
use Rattle.apd_session.specs.declared.opening.Start.{Start}
use Rattle.apd_session.specs.declared.status.Status.{Status}
use Rattle.apd_session.specs.declared.status.Status.TheVariants as status
use Rattle.apd_session.proofs.Starting.{IsCourseOf, IsOpen, IsTold, opening-told, row-stops, starts-open, stop-told}
use Rattle.apd_session.proofs.Statuses.{comes, opening_status, status_at_close, status_of_heard, status_of_opening}

-- what comes after the last line
closes_ended : (input : List ℕ) → length input < 16777216 → (hear 16777216 input Ended).close ≡ AtEnd
unfolding hear
closes_ended input few = rw (lt-leb 16777216 (length input) few) refl

closes_faulty : (input : List ℕ) → length input < 16777216 → (hear 16777216 input Faulty).close ≡ AtFault
unfolding hear
closes_faulty input few = rw (lt-leb 16777216 (length input) few) refl

closes_long : (input : List ℕ) (ends : InputEnd) → 16777216 ≤ length input → (hear 16777216 input ends).close ≡ AtLimit
unfolding hear
closes_long input ends many = rw (le-leb 16777216 (length input) many) refl

module _ {names : List (List ℕ)} (words : List (List ℕ)) (reader : Reader names) (w : World) where
  -- whatever is heard: by whether a line quits, whether the input is long and how it ends
  module _ (o : Options) (l : Made) (starts : Starts words reader w.files o l) (name : List ℕ) (is : o.subject ≡ InFile name) where
    hears : HearsLines o.subject
    hears = subst HearsLines (sym is) tt

    well : ((w.ends ≡ Ended) × (length w.input < 16777216)) ⊎ (quits reader l.ops w.input w.ends ≡ true) → ComesToItsEnd words reader w
    well so = record { options = o; made = l; starts = starts; ends = subst (λ (s : Subject). EndsWell reader l.ops s w) (sym is) so }

    -- no line quits
    closed_short : (ends : InputEnd) → w.ends ≡ ends → length w.input < 16777216 → quits reader l.ops w.input w.ends ≡ false → HasReason words reader w (status_at_close (hear 16777216 w.input ends).close)
    closed_short Ended is_end few stays = subst (λ (c : Close). HasReason words reader w (status_at_close c)) (sym (closes_ended w.input few)) (well (inl (is_end, few)))
    closed_short Faulty is_end few stays =
        subst (λ (c : Close). HasReason words reader w (status_at_close c)) (sym (closes_faulty w.input few))
        (inr (record { options = o; made = l; starts = starts; hears = hears; stays = stays; short = few; fails = is_end }))

    closed_by : (b : Bool) → leb 16777216 (length w.input) ≡ b → quits reader l.ops w.input w.ends ≡ false → HasReason words reader w (status_at_close (hear 16777216 w.input w.ends).close)
    closed_by true e stays =
        let many : 16777216 ≤ length w.input = leb-true 16777216 (length w.input) e in
        subst (λ (c : Close). HasReason words reader w (status_at_close c)) (sym (closes_long w.input w.ends many))
        (record { options = o; made = l; starts = starts; hears = hears; stays = stays; long = many })
    closed_by false e stays = closed_short w.ends refl (leb-false 16777216 (length w.input) e) stays

    heard_by : (b : Bool) → quits reader l.ops w.input w.ends ≡ b → HasReason words reader w (if b then status.Done else status_at_close (hear 16777216 w.input w.ends).close)
    heard_by true e = well (inr e)
    heard_by false e = closed_by (leb 16777216 (length w.input)) refl e

    heard-reason : HasReason words reader w (status_of_heard reader l.ops (hear 16777216 w.input w.ends))
    heard-reason = heard_by (quits reader l.ops w.input w.ends) refl

  abbrev status_open : Table → Start → Course → Status
  status_open ops start course = status_of_opening reader (Open ops start course) w.verdict w.input w.ends

  -- a log that was checked
  checked-reason : (o : Options) (l : Made) → Starts words reader w.files o l → (program log : List ℕ) → o.subject ≡ OfLog program log → (start : Start) (text : List ℕ) (verdict : Checked) → w.verdict ≡ verdict
      → HasReason words reader w (status_of_opening reader (Open l.ops start (Checks text)) verdict w.input w.ends)
  checked-reason o l starts program log is start text (Holds n) e = record { options = o; made = l; starts = starts; ends = subst (λ (s : Subject). EndsWell reader l.ops s w) (sym is) (n, e) }
  checked-reason o l starts program log is start text (Fails line why) e =
      record { options = o; made = l; starts = starts; fails = subst (λ (s : Subject). CheckFails s w.verdict) (sym is) (subst (CheckFails (OfLog program log)) (sym e) tt) }

  -- what is open ends for a reason
  open-reason : (o : Options) (l : Made) → Starts words reader w.files o l → (start : Start) (s : Subject) → o.subject ≡ s → (course : Course) → IsCourseOf s course → HasReason words reader w (status_open l.ops start course)
  open-reason o l starts start (InFile name) is Hears so = heard-reason o l starts name is
  open-reason o l starts start (InFile name) is (Plays nodes) so = absurd so
  open-reason o l starts start (InFile name) is (Checks text) so = absurd so
  open-reason o l starts start (OfTree n) is Hears so = absurd so
  open-reason o l starts start (OfTree n) is (Plays nodes) so = record { options = o; made = l; starts = starts; ends = subst (λ (s : Subject). EndsWell reader l.ops s w) (sym is) tt }
  open-reason o l starts start (OfTree n) is (Checks text) so = absurd so
  open-reason o l starts start (OfLog program log) is Hears so = absurd so
  open-reason o l starts start (OfLog program log) is (Plays nodes) so = absurd so
  open-reason o l starts start (OfLog program log) is (Checks text) so = checked-reason o l starts program log is start text w.verdict refl

  stopped-reason : (s : Status) → StopsWith words reader w.files s → HasReason words reader w s
  stopped-reason status.Done row = absurd row
  stopped-reason status.Usage row = row
  stopped-reason status.Program row = row
  stopped-reason status.ReadFault row = inl row
  stopped-reason status.WriteFault row = absurd row
  stopped-reason status.Memory row = absurd row
  stopped-reason status.InputLimit row = absurd row
  stopped-reason status.OracleText row = row
  stopped-reason status.FileTooLong row = row
  stopped-reason status.ReferenceText row = row
  stopped-reason status.CheckFailed row = absurd row

  told-reason : (x : Opening) → IsTold words reader w.files x → HasReason words reader w (status_of_opening reader x w.verdict w.input w.ends)
  told-reason (Unloaded why) told = stopped-reason why.status told
  told-reason (Closed ops b why) told = stopped-reason why.status told
  told-reason (Open ops start course) told =
      subst (λ (t : Table). HasReason words reader w (status_open t start course)) told.ops_are
      (open-reason told.options told.made told.starts start told.options.subject refl course told.course_is)

  abbrev begun : Opening
  begun = opening_of reader w.files (options_of words)

  status-is : (session_of words reader w).status ≡ status_of_opening reader begun w.verdict w.input w.ends
  status-is = opening_status names reader begun w.verdict w.input w.ends

  pub session-reason : HasReason words reader w (session_of words reader w).status
  session-reason = subst (HasReason words reader w) (sym status-is) (told-reason begun (opening-told words reader w.files))

  -- and the row that holds has its status
  stopped_status : (x : Opening) (s : Status) → stops_with x ≡ Some s → status_of_opening reader x w.verdict w.input w.ends ≡ s
  stopped_status (Unloaded why) s is = cc
  stopped_status (Closed ops b why) s is = cc
  stopped_status (Open ops start course) s is = absurd (cc)

  stop-only : (s : Status) → StopsWith words reader w.files s → (session_of words reader w).status ≡ s
  stop-only s row = status-is ∙ stopped_status begun s (row-stops words reader w.files s row)

  module _ (o : Options) (l : Made) (starts : Starts words reader w.files o l) where
    abbrev opens_so : IsOpen words reader w.files o l
    opens_so = starts-open words reader w.files o l starts

    open-is : (session_of words reader w).status ≡ status_open l.ops opens_so.start opens_so.course
    open-is = status-is ∙ ap (λ (x : Opening). status_of_opening reader x w.verdict w.input w.ends) opens_so.opens

    heard_status : (s : Subject) (course : Course) (start : Start) → IsCourseOf s course → HearsLines s → status_open l.ops start course ≡ status_of_heard reader l.ops (hear 16777216 w.input w.ends)
    heard_status (InFile name) Hears start so lines = refl
    heard_status (InFile name) (Plays nodes) start so lines = absurd so
    heard_status (InFile name) (Checks text) start so lines = absurd so
    heard_status (OfTree n) course start so lines = absurd lines
    heard_status (OfLog program log) course start so lines = absurd lines

    -- where lines are heard
    heard-is : HearsLines o.subject → (session_of words reader w).status ≡ status_of_heard reader l.ops (hear 16777216 w.input w.ends)
    heard-is lines = open-is ∙ heard_status o.subject opens_so.course opens_so.start opens_so.course_is lines

    abbrev status_if : Bool → Close → Status
    status_if b close = if b then status.Done else status_at_close close

    stays-is : HearsLines o.subject → quits reader l.ops w.input w.ends ≡ false → (close : Close) → (hear 16777216 w.input w.ends).close ≡ close → (session_of words reader w).status ≡ status_at_close close
    stays-is lines stays close is = heard-is lines ∙ ap (λ (b : Bool). status_if b (hear 16777216 w.input w.ends).close) stays ∙ ap status_at_close is

    done_either : (b : Bool) (close : Close) → close ≡ AtEnd → status_if b close ≡ status.Done
    done_either true close is = refl
    done_either false close is = ap status_at_close is

    well-is : (s : Subject) → o.subject ≡ s → EndsWell reader l.ops s w → (course : Course) → IsCourseOf s course → (start : Start) → status_open l.ops start course ≡ status.Done
    well-is (InFile name) is (inl (ended, few)) Hears so start =
        done_either (quits reader l.ops w.input w.ends) (hear 16777216 w.input w.ends).close (ap (λ (e : InputEnd). (hear 16777216 w.input e).close) ended ∙ closes_ended w.input few)
    well-is (InFile name) is (inr quit) Hears so start = ap (λ (b : Bool). status_if b (hear 16777216 w.input w.ends).close) quit
    well-is (InFile name) is ends (Plays nodes) so start = absurd so
    well-is (InFile name) is ends (Checks text) so start = absurd so
    well-is (OfTree n) is ends Hears so start = absurd so
    well-is (OfTree n) is ends (Plays nodes) so start = refl
    well-is (OfTree n) is ends (Checks text) so start = absurd so
    well-is (OfLog program log) is ends Hears so start = absurd so
    well-is (OfLog program log) is ends (Plays nodes) so start = absurd so
    well-is (OfLog program log) is (n, e) (Checks text) so start = ap (λ (v : Checked). status_of_opening reader (Open l.ops start (Checks text)) v w.input w.ends) e

    fails-is : (s : Subject) (verdict : Checked) → CheckFails s verdict → (course : Course) → IsCourseOf s course → (start : Start) → status_of_opening reader (Open l.ops start course) verdict w.input w.ends ≡ status.CheckFailed
    fails-is (InFile name) verdict fails course so start = absurd fails
    fails-is (OfTree n) verdict fails course so start = absurd fails
    fails-is (OfLog program log) (Holds n) fails course so start = absurd fails
    fails-is (OfLog program log) (Fails line why) fails Hears so start = absurd so
    fails-is (OfLog program log) (Fails line why) fails (Plays nodes) so start = absurd so
    fails-is (OfLog program log) (Fails line why) fails (Checks text) so start = refl

  ends-only : ComesToItsEnd words reader w → (session_of words reader w).status ≡ status.Done
  ends-only r =
      let x = opens_so r.options r.made r.starts in
      open-is r.options r.made r.starts ∙ well-is r.options r.made r.starts r.options.subject refl r.ends x.course x.course_is x.start

  input-only : InputFails words reader w → (session_of words reader w).status ≡ status.ReadFault
  input-only r =
      stays-is r.options r.made r.starts r.hears r.stays AtFault (ap (λ (e : InputEnd). (hear 16777216 w.input e).close) r.fails ∙ closes_faulty w.input r.short)

  check-only : LogFails words reader w → (session_of words reader w).status ≡ status.CheckFailed
  check-only r =
      let x = opens_so r.options r.made r.starts in
      open-is r.options r.made r.starts ∙ fails-is r.options r.made r.starts r.options.subject w.verdict r.fails x.course x.course_is x.start

  pub reason-only : (s : Status) → HasReason words reader w s → (session_of words reader w).status ≡ s
  reason-only status.Done row = ends-only row
  reason-only status.Usage row = stop-only status.Usage row
  reason-only status.Program row = stop-only status.Program row
  reason-only status.ReadFault (inl row) = stop-only status.ReadFault row
  reason-only status.ReadFault (inr row) = input-only row
  reason-only status.WriteFault row = absurd row
  reason-only status.Memory row = absurd row
  reason-only status.InputLimit row = stays-is row.options row.made row.starts row.hears row.stays AtLimit (closes_long w.input w.ends row.long)
  reason-only status.OracleText row = stop-only status.OracleText row
  reason-only status.FileTooLong row = stop-only status.FileTooLong row
  reason-only status.ReferenceText row = stop-only status.ReferenceText row
  reason-only status.CheckFailed row = check-only row

  -- a status is the one that there is a reason for, unless a write failed or memory ran out
  reason-comes : (result : Status) → Comes result (session_of words reader w).status → ComesForReason words reader w result
  reason-comes result so = record { reason = by so; only = λ due row. subst (Comes result) (reason-only due row) so }
    where
      by : Comes result (session_of words reader w).status → HasReason words reader w result ⊎ ((result ≡ status.WriteFault) ⊎ (result ≡ status.Memory))
      by (inl is) = inl (subst (HasReason words reader w) (sym is) session-reason)
      by (inr broken) = inr broken

  pub comes-for_reason : (result : Status) (log : Log) (x y : Option (List ℕ)) → IsSaid result (session_of words reader w) log x y → ComesForReason words reader w result
  comes-for_reason result log x y said = reason-comes result (comes result (session_of words reader w) log x y said)

-- both ways, as laws say it
pub each-stop : (words names : List (List ℕ)) (reader : Reader names) (files : Role → FileLoad) (s : Status) → (stops_with (opening_of reader files (options_of words)) ≡ Some s) ↔ StopsWith words reader files s
each-stop words names reader files s =
    (λ is. stop-told words reader files (opening_of reader files (options_of words)) s (opening-told words reader files) is, row-stops words reader files s)

pub each-status : (words names : List (List ℕ)) (reader : Reader names) (w : World) (s : Status) → ((session_of words reader w).status ≡ s) ↔ HasReason words reader w s
each-status words names reader w s = (λ is. subst (HasReason words reader w) is (session-reason words reader w), reason-only words reader w s)
