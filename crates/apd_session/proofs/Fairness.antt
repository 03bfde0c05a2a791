-- Entries that are right, each in its turn, are fair but for the size of what is run, and proper.
use Rattle.std.proofs.Common.{◌≡◌, ℕ, zero, suc, ◌+◌, ◌≤◌, ◌⊎◌, inl, inr, Bool, true, false, List, [], ◌∷◌, length, Option, Some, refl, sym, ◌∙◌, ap, subst, arith}
use Rattle.std.specs.Prelude.{All, ⊤, slice_get}
use Rattle.std.specs.List.{AllByRecursion}
use Rattle.std.specs.Option.{unwrap_or}
use Rattle.std.proofs.lemmas.List.Elements.{All-from_recursion}
use Rattle.apd_account.specs.Account.{Account, Stage, Idle, Moves, Awaits, account_with, after_entry, after_run, at_stage, record_within, with_told}
use Rattle.apd_account.specs.Inquiry.{begun_by}
use Rattle.apd_account.specs.Right.{AreRight, IsAnswer, IsOfRun, IsQuestion, IsRight}
use Rattle.apd_account.proofs.Diagnosing.{question-is, replied-is}
use Rattle.apd_answers.specs.Dialogue.{asks}
use Rattle.apd_answers.specs.Findings.{AreCandidates, IsByReplies}
use Rattle.apd_answers.specs.Fitting.{AllFit}
use Rattle.apd_answers.specs.Interpretation.{Interpretation}
use Rattle.apd_answers.specs.Store.{Store}
use Rattle.apd_answers.specs.Bugs.{IsCall, IsInstanceOfClause}
use Rattle.apd_answers.specs.declared.finding.Finding.{Finding}
use Rattle.apd_answers.specs.declared.finding.Finding.TheVariants.{WrongInstance, Uncovered, Violation, Candidates}
use Rattle.apd_answers.specs.declared.question.Asked.{Asked}
use Rattle.apd_answers.specs.declared.question.Question.{Question}
use Rattle.apd_answers.specs.declared.question.Question.TheVariants.{True}
use Rattle.apd_answers.specs.declared.question.Question.TheVariants as question
use Rattle.apd_answers.specs.declared.question.Reply.{Reply}
use Rattle.apd_answers.specs.declared.question.Reply.TheVariants.{No, Unknown, Values, Yes}
use Rattle.apd_answers.specs.Questions.{Fits}
use Rattle.apd_answers.proofs.Fitted.{fit_added}
use Rattle.apd_base.specs.declared.limits.TheConstants.{MOST_SHOWN}
use Rattle.apd_causes.specs.declared.run.Query.{Query}
use Rattle.apd_causes.specs.declared.run.Ran.{Ran}
use Rattle.apd_clauses.specs.Clauses.{IsClause, IsProgram, clause_at, tuples_of}
use Rattle.apd_clauses.specs.Kinds.{IsPureGoal}
use Rattle.apd_clauses.specs.declared.clause.Clause.{Clause}
use Rattle.apd_clauses.proofs.Pure.{goals_are_atoms}
use Rattle.apd_debug.proofs.OwnGoals.{GivesGround, gives_fitting}
use Rattle.apd_debug.proofs.Pure.{is_clause, pure_body, pure_goals, user-instance}
use Rattle.apd_debug.proofs.OwnRecords.{call-own, label-own, own_chain, start-own, tree-own}
use Rattle.apd_divide.specs.Exits.{IsLabelled}
use Rattle.apd_divide.specs.declared.node.Strategy.{Strategy}
use Rattle.apd_divide.proofs.Solved.{of_builtin, of_clause, point-is}
use Rattle.apd_known.specs.Pairs.{MayAsk}
use Rattle.apd_loop.specs.declared.LoopEnd.{LoopEnd}
use Rattle.apd_ports.specs.declared.filter.Filter.{Filter}
use Rattle.apd_ports.specs.declared.point.Point.{Point}
use Rattle.apd_record.specs.Chain.{AreChained}
use Rattle.apd_record.specs.Reading.{calling_point, no_row, row_of}
use Rattle.apd_record.specs.Recorded.{Recorded, box_at, chain, empty, is_none, point_at, query_point, with_point}
use Rattle.apd_record.specs.Sound.{IsOwned, IsSound}
use Rattle.apd_record.proofs.Chains.{chained_empty}
use Rattle.apd_record.proofs.Keeping.{sound_empty}
use Rattle.apd_record.specs.declared.rows.BoxRow.{BoxRow}
use Rattle.apd_recorded.specs.Told.{record_of}
use Rattle.apd_recorded.proofs.Law.{grown_from, run_chained, run_sound}
use Rattle.apd_recorded.proofs.Recording.{program_clauses}
use Rattle.apd_term.specs.Substitution.{IsInstance}
use Rattle.apd_term.specs.Term.{Term}
use Rattle.apd_term.specs.declared.instance.Instance.{Instance}
use Rattle.apd_term.specs.declared.tuple.Tuple.{Tuple}
use Rattle.apd_term.proofs.Tuples.{IsInstance-head}
use Rattle.apd_term.proofs.Variants.{IsInstance_from_variants}
use Rattle.apd_text.specs.declared.entry.Entry.{Entry}
use Rattle.apd_text.specs.declared.entry.Entry.TheVariants as entry
use Rattle.apd_text.specs.declared.entry.Told.{Told}
use Rattle.apd_text.specs.declared.entry.Told.TheVariants.{Wrong, Missing, NoEnd}
use Rattle.apd_trace.specs.declared.item.Item.{Item}
use Rattle.apd_trace.specs.declared.item.Item.TheVariants.{Made}
use Rattle.apd_trace.specs.Frames.{query_frame}
use Rattle.apd_trace.specs.Run.{before_event, query_run, run_of}
use Rattle.apd_trace.specs.Trace.{search_from, up_to_error}
use Rattle.apd_symptoms.proofs.Exits.{row_at}
use Rattle.apd_session.proofs.Boxes.{run-boxes}
use Rattle.apd_session.proofs.Inquiring.{IsOwnInquiry, TurnIsFair, comes-fair}
use Rattle.apd_session.proofs.Lacking.{is_chain}
use Rattle.apd_upheld.specs.Fair.{AllFair, AreInTurn, AreRunsInSize, HasClause, HasSeveral, IsFair, IsFairQuestion, IsFairSymptom, IsInTurn, IsRunInSize, IsTimed}
use Rattle.apd_upheld.proofs.Good.{clause-there}
use Rattle.apd_written.specs.Proper.{AllProper, AreProperGoals, IsProper, IsProperClause, IsProperFinding, IsProperQuestion, IsProperReply}

-- the record begins with a query of pure Prolog
pub record BeginsPurely (R : Recorded) : Type 0 where
  pub query : Tuple
  pub goals : All IsPureGoal query.body
  pub begins : point_at R 0 ≡ Some (query_point query)

-- where there is anything in it
abbrev pub IsPure : Recorded → Type 0
IsPure R = (R ≡ empty) ⊎ BeginsPurely R

first_point : (p : Point) (xs : List Item) → (record_of (before_event (Made p) xs) ≡ empty) ⊎ (point_at (record_of (before_event (Made p) xs)) 0 ≡ Some p)
first_point p [] = inl refl
first_point p (x ∷ xs) = inr ((grown_from (with_point empty p) (x ∷ xs)).points 0 p refl)

run-pure : (P : List Tuple) (query : Tuple) (budget answers : ℕ) → AreProperGoals query.body → IsPure (record_of (query_run P query budget answers).passed)
run-pure P query budget answers goals = by (first_point (query_point query) (run_of (up_to_error (search_from P (budget + 1) (query_frame query ∷ []) 0 1).items) budget answers).passed)
  where
    by : {R : Recorded} → (R ≡ empty) ⊎ (point_at R 0 ≡ Some (query_point query)) → IsPure R
    by (inl none) = inl none
    by (inr begins) = inr (record { query = query; goals = All-from_recursion IsPureGoal query.body goals.pure; begins = begins })

no_box : (n : ℕ) (b : BoxRow) → box_at empty n ≡ Some b → ⊥
no_box zero b there = absurd (cc)
no_box (suc i) b there = absurd (cc)

-- The clause of a call that was found.
nothing_left : (ts : List Term) (k : ℕ) (t : Term) → ts ≡ [] → slice_get ts k ≡ Some t → ⊥
nothing_left [] k t none there = absurd (cc)
nothing_left (x ∷ ts) k t none there = absurd (cc)

module _ (program : List Clause) (R : Recorded) (sound : IsSound (tuples_of program) R) where
  abbrev IsClauseThere : ℕ → Type 0
  IsClauseThere clause = (c : Clause) × (clause_at program clause ≡ Some c)

  -- a point that has a goal left, of a box, is one of a clause
  point-clause : (i : ℕ) (p : Point) (t : Term) → point_at R i ≡ Some p → slice_get p.tuple.body p.done ≡ Some t → 1 ≤ p.owner → IsClauseThere p.clause
  point-clause i p t at left box = by p.owner refl box (sound.kept.made i p at).owned
    where
      by_kind : (b : BoxRow) → box_at R p.owner ≡ Some b → (u : Bool) → b.is_user ≡ u → IsClauseThere p.clause
      by_kind b there true user =
          let of = of_clause (tuples_of program) R sound p.done i p b at refl there user in
          clause-there program p.clause of.rule of.there
      by_kind b there false user = absurd (nothing_left p.tuple.body p.done t (of_builtin (tuples_of program) R sound p.done i p b at refl there user).body left)

      by : (n : ℕ) → p.owner ≡ n → 1 ≤ n → IsOwned R i n → IsClauseThere p.clause
      by zero owner some owned = absurd (omega (arith, some))
      by (suc n) owner some owned = by_kind owned.0 (ap (box_at R) owner ∙ owned.1) owned.0.is_user refl

  call-clause : (clause goal caller_no callee : ℕ) (caller_atom callee_atom : Term) → IsCall R clause goal caller_no callee caller_atom callee_atom → IsClauseThere clause
  call-clause clause goal caller_no zero caller_atom callee_atom call = let some = call.is_box in absurd (omega (arith, some))
  call-clause clause goal caller_no (suc i) caller_atom callee_atom call =
      let few = call.there in
      let b = row_at R.boxes i (omega (arith, few)) in
      let c = sound.kept.called (suc i) b.0 b.1 in
      let row : row_of R (suc i) ≡ b.0 = ap (λ o. unwrap_or o no_row) b.1 in
      let p : calling_point R (suc i) ≡ c.caller = ap (λ (r : BoxRow). Rattle.apd_record.specs.Reading.point_of R r.from) row ∙ point-is R b.0.from c.caller c.there in
      let own : c.caller.owner ≡ caller_no = ap (λ (q : Point). q.owner) (sym p) ∙ call.owner in
      let is : c.caller.clause ≡ clause = ap (λ (q : Point). q.clause) (sym p) ∙ call.of_clause in
      subst IsClauseThere is (point-clause b.0.from c.caller c.goal c.there c.next (subst (λ n. 1 ≤ n) (sym own) call.caller_is_box))

  found-clause : (store : Store) (f : Finding) → IsByReplies (tuples_of program) R store f → HasClause program f
  found-clause store (WrongInstance clause t) by = tt
  found-clause store (Uncovered goal) by = tt
  found-clause store (Violation clause goal caller_no callee_no caller callee) by = call-clause clause goal caller_no callee_no caller callee by.call
  found-clause store (Candidates cs) by = tt

-- What is asked, replied and found is proper.
question-proper : (q : Question) → MayAsk q → IsProperQuestion q
question-proper (question.True a) may = tt
question-proper (question.Covers t) may = record { head = may.head; pure = pure_goals t.body may.goals }
question-proper (question.Below q p) may = may

reply-proper : (q : Question) (r : Reply) → Fits q r → IsProperReply r
reply-proper q Yes fits = tt
reply-proper q No fits = tt
reply-proper q Unknown fits = tt
reply-proper (question.True a) (Values values) fits = absurd fits
reply-proper (question.Covers t) (Values values) fits = fits.ground
reply-proper (question.Below q p) (Values values) fits = absurd fits

module _ (P : List Tuple) (all : All IsClause P) where
  instance-proper : (clause : ℕ) (t : Tuple) → IsInstanceOfClause P clause t → IsProperClause t
  instance-proper clause t of =
      let rule = is_clause P clause of.0 all of.1 in
      record { head = user-instance t.head of.0.head (IsInstance-head t of.0 of.2) rule.head; pure = pure_body t of.0 of.2 (pure_goals of.0.body rule.body.goals) }

  candidates-proper : (R : Recorded) (store : Store) (cs : List Instance) → AreCandidates P R store cs → AllByRecursion (λ (c : Instance). IsProperClause c.tuple) cs
  candidates-proper R store [] each = tt
  candidates-proper R store (c ∷ cs) each = (instance-proper c.clause c.tuple each.0.of_clause, candidates-proper R store cs each.1)

  found-proper : (R : Recorded) (store : Store) (f : Finding) → IsByReplies P R store f → IsProperFinding f
  found-proper R store (WrongInstance clause t) by = instance-proper clause t by.of_clause
  found-proper R store (Uncovered goal) by = tt
  found-proper R store (Violation clause goal caller_no callee_no caller callee) by = tt
  found-proper R store (Candidates cs) by = candidates-proper R store cs by.each

module _ (program : List Clause) (is : IsProgram program) (strategy : Strategy) where
  abbrev pub P : List Tuple
  P = tuples_of program

  all_clauses : All IsClause P
  all_clauses = program_clauses program is

  -- where a diagnosis stands it asks what may be asked
  abbrev pub IsOwnStage : Recorded → Stage → Type 0
  IsOwnStage R Idle = ⊤
  IsOwnStage R (Moves q) = IsOwnInquiry R q
  IsOwnStage R (Awaits asked next) = IsFairQuestion asked.question × ((r : Reply) → GivesGround asked.question r → IsOwnInquiry R (next r))

  -- what was told is of a run of the program's, or of none
  pub record IsOwnAccount (a : Account) : Type 0 where
    pub sound : IsSound P a.history
    pub few : length a.history.boxes ≤ MOST_SHOWN
    pub chained : AreChained a.history
    pub pure : IsPure a.history
    pub fit : AllFit a.store
    pub stage : IsOwnStage a.history a.stage

  -- at first nothing was run
  pub begun-own : (given : Question → Option Reply) (known : Store) → AllFit known → IsOwnAccount (account_with given known)
  begun-own given known fit = record { sound = sound_empty P; few = omega arith; chained = chained_empty; pure = inl refl; fit = fit; stage = tt }

  -- A symptom.
  pub record IsToldFairly (R : Recorded) (what : Told) : Type 0 where
    pub fair : IsFairSymptom what
    pub begins : IsOwnInquiry R (begun_by R what)

  pub told-fair : (a : Account) (what : Told) → IsOwnAccount a → IsOfRun a.history what → HasSeveral what → IsToldFairly a.history what
  told-fair a (Wrong x exit) h of several =
      let head = of.exit.point.tuple.head in
      let l : IsLabelled a.history exit.0 x = record { exit = of.exit; instance = subst (λ t. IsInstance t head) of.head (IsInstance_from_variants head head refl) } in
      record { fair = label-own P all_clauses a.history h.sound exit.0 x l; begins = tree-own P all_clauses a.history h.sound exit.0 x l }
  told-fair a (Missing x n) h of several = record { fair = by h.pure; begins = of.has_no_variable }
    where
      by : IsPure a.history → IsFairSymptom (Missing x n)
      by (inl none) = absurd (no_box n of.row (subst (λ R. box_at R n ≡ Some of.row) none of.there))
      by (inr b) = call-own P all_clauses a.history h.sound b.query b.goals b.begins n of.row x of.there of.instance (ap is_none of.of_program)
  told-fair a (NoEnd calls) h of several = record { fair = tt; begins = by h.pure }
    where
      two : 2 ≤ length (chain a.history)
      two = subst (λ n. 2 ≤ n) of several

      by : IsPure a.history → IsOwnInquiry a.history (begun_by a.history (NoEnd calls))
      by (inl none) = let some : 2 ≤ length (chain empty) = subst (λ R. 2 ≤ length (chain R)) none two in absurd (omega (arith, some))
      by (inr b) = (own_chain P all_clauses a.history h.sound b.query b.goals b.begins (is_chain a.history h.sound.kept h.chained two), start-own P all_clauses a.history h.sound (chain a.history))

  told-fits : (store : Store) (what : Told) → AllFit store → AllFit (with_told store what)
  told-fits store (Wrong x exit) fit = fit_added store (True x) No fit tt
  told-fits store (Missing x n) fit = fit_added store (True x) Yes fit tt
  told-fits store (NoEnd calls) fit = fit

  -- an entry is fair and proper, and so is what may come after it
  pub record IsFairly (a : Account) (e : Entry) : Type 0 where
    pub fair : IsFair program e
    pub proper : IsProper e
    pub own : IsOwnAccount (after_entry program strategy a e)

  idle-own : (a : Account) → IsOwnAccount a → IsOwnAccount (at_stage a Idle)
  idle-own a h = record { sound = h.sound; few = h.few; chained = h.chained; pure = h.pure; fit = h.fit; stage = tt }

  run-fairly : (a : Account) (q : Query) (budget answers : ℕ) (filter : Filter) (end : Option Ran) → IsOwnAccount a → IsTimed program a q budget answers end → IsRunInSize (entry.Run q budget answers filter end) → IsFairly a (entry.Run q budget answers filter end)
  run-fairly a q budget answers filter end h t size =
      let atoms = goals_are_atoms q.tuple.body (All-from_recursion IsPureGoal q.tuple.body t.goals.pure) in
      record {
        fair = size;
        proper = t.goals;
        own = subst (λ e. IsOwnAccount (after_run program strategy a q budget answers e)) (sym t.ended) (record {
          sound = run_sound P all_clauses q.tuple atoms budget answers;
          few = let ports = t.ports in let boxes = run-boxes P q.tuple budget answers in omega (arith, ports, boxes);
          chained = run_chained P all_clauses q.tuple atoms budget answers;
          pure = run-pure P q.tuple budget answers t.goals;
          fit = h.fit;
          stage = subst (IsOwnStage (record_within program strategy q budget answers)) (sym t.idle) tt;
        });
      }

  symptom-fairly : (a : Account) (what : Told) → IsOwnAccount a → IsOfRun a.history what → HasSeveral what → IsFairly a (entry.Symptom what)
  symptom-fairly a what h of several =
      let t = told-fair a what h of several in
      record { fair = t.fair; proper = tt; own = record { sound = h.sound; few = h.few; chained = h.chained; pure = h.pure; fit = told-fits a.store what h.fit; stage = t.begins } }

  question-fairly : (a : Account) (number : ℕ) (x : Asked) → IsOwnAccount a → IsQuestion program strategy a x → IsFairly a (entry.Question number x)
  question-fairly a number x h r =
      let own : IsOwnInquiry a.history r.due.inquiry = subst (IsOwnStage a.history) r.due.stage h.stage in
      let t : TurnIsFair {E = LoopEnd} (IsOwnInquiry a.history) (asks x r.next) =
      subst (TurnIsFair (IsOwnInquiry a.history)) r.due.next (comes-fair P all_clauses strategy a.history a.store h.fit r.due.inquiry own) in
      record {
        fair = t.0;
        proper = question-proper x.question t.0.may;
        own = subst IsOwnAccount (sym (question-is program strategy a x r.next r.due)) (record { sound = h.sound; few = h.few; chained = h.chained; pure = h.pure; fit = h.fit; stage = t });
      }

  replied-fairly : (a : Account) (reply : Reply) (left : Option ℕ) (given : Bool) → IsOwnAccount a → IsAnswer strategy a reply left given → IsFairly a (entry.Replied reply left given)
  replied-fairly a reply left given h r =
      let t : IsOwnStage a.history (Awaits r.asked r.next) = subst (IsOwnStage a.history) r.waits h.stage in
      record {
        fair = tt;
        proper = reply-proper r.asked.question reply r.fits.0;
        own = subst IsOwnAccount (sym (replied-is a r.asked r.next reply r.waits)) (record {
          sound = h.sound;
          few = h.few;
          chained = h.chained;
          pure = h.pure;
          fit = fit_added a.store r.asked.question reply h.fit r.fits.0;
          stage = t.1 reply (gives_fitting r.asked.question reply t.0.may r.fits.0);
        });
      }

  module _ (m : Interpretation) where
    pub entry-fairly : (a : Account) (e : Entry) → IsOwnAccount a → IsRight m program strategy a e → IsInTurn program a e → IsRunInSize e → IsFairly a e
    entry-fairly a (entry.Run q budget answers filter end) h r t size = run-fairly a q budget answers filter end h t size
    entry-fairly a (entry.Symptom what) h r t size = symptom-fairly a what h r.of_run t
    entry-fairly a (entry.Question number x) h r t size = question-fairly a number x h r
    entry-fairly a (entry.Replied reply left given) h r t size = replied-fairly a reply left given h r
    entry-fairly a (entry.Found f line) h r t size = record { fair = found-clause program a.history h.sound a.store f r.by_replies; proper = found-proper P all_clauses a.history a.store f r.by_replies; own = idle-own a h }
    entry-fairly a (entry.AllDescend calls) h r t size = record { fair = tt; proper = tt; own = idle-own a h }
    entry-fairly a (entry.Unanswered stopped) h r t size = record { fair = tt; proper = tt; own = idle-own a h }
    entry-fairly a entry.InputFault h r t size = record { fair = tt; proper = tt; own = idle-own a h }
    entry-fairly a entry.InputOver h r t size = record { fair = tt; proper = tt; own = idle-own a h }
    entry-fairly a (entry.PassedOver line pred) h r t size = record { fair = tt; proper = tt; own = h }
    entry-fairly a (entry.Warning line pred) h r t size = record { fair = tt; proper = tt; own = h }
    entry-fairly a (entry.Loaded clauses) h r t size = record { fair = tt; proper = tt; own = h }
    entry-fairly a (entry.OracleLoaded statements) h r t size = record { fair = tt; proper = tt; own = h }
    entry-fairly a (entry.ReferenceLoaded clauses) h r t size = record { fair = tt; proper = tt; own = h }
    entry-fairly a (entry.TraceSet filter) h r t size = record { fair = tt; proper = tt; own = h }
    entry-fairly a (entry.Known text) h r t size = record { fair = tt; proper = tt; own = h }
    entry-fairly a (entry.BadReply reason) h r t size = record { fair = tt; proper = tt; own = h }
    entry-fairly a (entry.Refused refusal) h r t size = record { fair = tt; proper = tt; own = h }
    entry-fairly a (entry.Demo nodes questions clause) h r t size = record { fair = tt; proper = tt; own = h }
    entry-fairly a entry.UsageRefused h r t size = record { fair = tt; proper = tt; own = h }
    entry-fairly a (entry.ProgramRefused line cause) h r t size = record { fair = tt; proper = tt; own = h }
    entry-fairly a (entry.OracleRefused line cause) h r t size = record { fair = tt; proper = tt; own = h }
    entry-fairly a (entry.ReferenceRefused line cause) h r t size = record { fair = tt; proper = tt; own = h }
    entry-fairly a (entry.CheckHolds findings) h r t size = record { fair = tt; proper = tt; own = h }
    entry-fairly a (entry.CheckFails line why) h r t size = record { fair = tt; proper = tt; own = h }
    entry-fairly a (entry.FileTooLong length) h r t size = record { fair = tt; proper = tt; own = h }

    -- all of them
    pub record AreFairly (es : List Entry) : Type 0 where
      pub fair : AllFair program es
      pub proper : AllProper es

    pub all-fair : (a : Account) (es : List Entry) → IsOwnAccount a → AreRight m program strategy a es → AreInTurn program strategy a es → AreRunsInSize es → AreFairly es
    all-fair a [] h r t size = record { fair = tt; proper = tt }
    all-fair a (e ∷ es) h r t size =
        let f = entry-fairly a e h r.0 t.0 size.0 in
        let rest = all-fair (after_entry program strategy a e) es f.own r.1 t.1 size.1 in
        record { fair = (f.fair, rest.fair); proper = (f.proper, rest.proper) }
