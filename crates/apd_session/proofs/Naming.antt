-- The names of what entries say that are right, each in its turn, are those that are given: the program's, those of queries, missing
-- answers and replies, and those of the replies that are known.
use Rattle.std.proofs.Common.{◌≡◌, ℕ, List, [], ◌∷◌, Bool, true, false, Option, Some, refl, sym, subst}
use Rattle.std.specs.Prelude.{⊤}
use Rattle.std.specs.List.{AllByRecursion}
use Rattle.apd_account.specs.Account.{Account, Stage, Idle, Moves, Awaits, account_with, after_entry, after_run, at_stage, record_within, with_told}
use Rattle.apd_account.specs.Inquiry.{Inquiry, OfWrong, OfMissing, OfLoop, begun_by, next_in}
use Rattle.apd_account.specs.Right.{AreRight, IsAnswer, IsFound, IsOfRun, IsQuestion, IsReferred, IsRight}
use Rattle.apd_account.proofs.Diagnosing.{question-is, replied-is}
use Rattle.apd_answers.specs.Dialogue.{Diagnosis, Turn, asks, goes, ends, next_turn}
use Rattle.apd_answers.specs.Interpretation.{Interpretation}
use Rattle.apd_answers.specs.Named.{QuestionIsNamed, ReplyIsNamed}
use Rattle.apd_answers.specs.Questions.{FitsAsked}
use Rattle.apd_answers.specs.Store.{Store, with_pair}
use Rattle.apd_answers.specs.declared.finding.Finding.{Finding}
use Rattle.apd_answers.specs.declared.question.Asked.{Asked}
use Rattle.apd_answers.specs.declared.question.Question.{Question}
use Rattle.apd_answers.specs.declared.question.Reply.{Reply}
use Rattle.apd_causes.specs.declared.run.Query.{Query}
use Rattle.apd_causes.specs.declared.run.Ran.{Ran}
use Rattle.apd_clauses.specs.Clauses.{IsProgram, tuples_of}
use Rattle.apd_clauses.specs.declared.clause.Clause.{Clause}
use Rattle.apd_debug.specs.Known.{KeepsNamed}
use Rattle.apd_debug.specs.NamedStates.{AreReplies, IsKnownGoal, IsKnownLoop, loop_entry}
use Rattle.apd_debug.specs.NamedTrees.{IsKnownTree, RecordIsNamed}
use Rattle.apd_debug.proofs.Known.{asked-named, found-named, replied-known}
use Rattle.apd_debug.proofs.KnownGoals.{missing-keeps}
use Rattle.apd_debug.proofs.KnownLoops.{loop-keeps, start-named}
use Rattle.apd_debug.proofs.KnownTrees.{wrong-keeps}
use Rattle.apd_debug.proofs.NamedReplies.{with_pair-replies}
use Rattle.apd_debug.proofs.NamedTrees.{run_record-named, tree-named}
use Rattle.apd_divide.specs.declared.node.Strategy.{Strategy}
use Rattle.apd_known.specs.Pairs.{MayAsk}
use Rattle.apd_loop.specs.Loop.{inside, loop}
use Rattle.apd_loop.specs.declared.LoopEnd.{LoopEnd}
use Rattle.apd_loop.specs.declared.LoopEnd.TheVariants as loop_ends
use Rattle.apd_missing.specs.Missing.{missing}
use Rattle.apd_ports.specs.declared.filter.Filter.{Filter}
use Rattle.apd_record.specs.Recorded.{Recorded, chain}
use Rattle.apd_recorded.proofs.Recording.{program_clauses}
use Rattle.apd_term.specs.Named.{AllTuplesNamed, IsNamed, TupleIsNamed}
use Rattle.apd_term.specs.declared.tuple.Tuple.{Tuple}
use Rattle.apd_text.specs.Named.{EntryIsNamed, FindingIsNamed, HasStandardNames, ToldIsNamed}
use Rattle.apd_text.specs.declared.entry.Entry.{Entry}
use Rattle.apd_text.specs.declared.entry.Entry.TheVariants as entry
use Rattle.apd_text.specs.declared.entry.Told.{Told}
use Rattle.apd_text.specs.declared.entry.Told.TheVariants.{Wrong, Missing, NoEnd}
use Rattle.apd_wrong.specs.Wrong.{wrong}
use Rattle.apd_session.proofs.Fairness.{IsFairly, IsOwnAccount, IsToldFairly, entry-fairly, told-fair}
use Rattle.apd_session.proofs.Symptoms.{point_named, told-replies}
use Rattle.apd_upheld.specs.Fair.{AreInTurn, AreRunsInSize, HasSeveral, IsFairQuestion, IsInTurn, IsTimed}
use Rattle.apd_written.specs.Proper.{HasNames, AllHaveNames}
use Rattle.apd_written.specs.Says.{HasNoBreak}

module _ (n : ℕ) where
  -- what an entry brings in has these names: a query, whose variables stand on one line, an atom that is missing, a reply that isn't marked
  abbrev pub IsGivenSymptom : Told → Type 0
  IsGivenSymptom (Wrong a exit) = ⊤
  IsGivenSymptom (Missing a box_no) = IsNamed n a
  IsGivenSymptom (NoEnd calls) = ⊤

  abbrev pub IsGivenReply : Reply → Bool → Type 0
  IsGivenReply r true = ⊤
  IsGivenReply r false = ReplyIsNamed n r

  abbrev pub IsGiven : Entry → Type 0
  IsGiven (entry.Run q budget answers filter end) = TupleIsNamed n q.tuple × AllByRecursion HasNoBreak q.vars
  IsGiven (entry.Symptom what) = IsGivenSymptom what
  IsGiven (entry.Replied reply left by_reference) = IsGivenReply reply by_reference
  IsGiven e = ⊤

  abbrev pub AllGiven : List Entry → Type 0
  AllGiven es = AllByRecursion IsGiven es

  abbrev EndIsNamed : LoopEnd → Type 0
  EndIsNamed (loop_ends.Found f) = FindingIsNamed n f
  EndIsNamed loop_ends.AllDescend = ⊤

  -- replies without a line have these names, where their questions do
  abbrev pub GiveNames : (Question → Option Reply) → Type 0
  GiveNames replies = (q : Question) (r : Reply) → QuestionIsNamed n q → replies q ≡ Some r → ReplyIsNamed n r

module _ (n : ℕ) (standard : HasStandardNames n) (program : List Clause) (is : IsProgram program) (named : AllTuplesNamed n (tuples_of program)) (strategy : Strategy) where
  abbrev pub P : List Tuple
  P = tuples_of program

  -- a state of a diagnosis has these names
  abbrev pub IsNamedInquiry : Recorded → Store → Inquiry → Type 0
  IsNamedInquiry R store (OfWrong x) = IsKnownTree n store x
  IsNamedInquiry R store (OfMissing s) = IsKnownGoal P n store s
  IsNamedInquiry R store (OfLoop s) = IsKnownLoop R (chain R) n store s

  abbrev TurnIsNamed : Recorded → Store → Turn Inquiry LoopEnd → Type 0
  TurnIsNamed R store (asks asked next) =
      QuestionIsNamed n asked.question × ((r : Reply) → FitsAsked asked r → ReplyIsNamed n r → IsNamedInquiry R (with_pair store asked.question r) (next r))
  TurnIsNamed R store (goes q) = ⊤
  TurnIsNamed R store (ends e) = EndIsNamed n e

  module _ {D E : Type 0} (d : Diagnosis D E) (found : E → Entry) (Known : ℕ → Store → D → Type 0) (keeps : KeepsNamed d found Known) (state : D → Inquiry) (end : E → LoopEnd) (R : Recorded)
      (to : (store : Store) (x : D) → Known n store x → IsNamedInquiry R store (state x)) (ended : (e : E) → EntryIsNamed n (found e) → EndIsNamed n (end e)) where
    next-named : (store : Store) (x : D) → Known n store x → TurnIsNamed R store (inside state end (next_turn d store x))
    next-named store x known = by (next_turn d store x) refl
      where
        by : (turn : Turn D E) → next_turn d store x ≡ turn → TurnIsNamed R store (inside state end turn)
        by (asks asked next) is = (
          asked-named d found Known keeps n store x asked next is known,
          λ r fits reply. to (with_pair store asked.question r) (next r) (replied-known d found Known keeps n store x asked next r is fits reply known),
        )
        by (goes t) is = tt
        by (ends e) is = ended e (found-named d found Known keeps n store x e is known)

  no_line : Finding → ℕ
  no_line f = 0

  loop-ended : (e : LoopEnd) → EntryIsNamed n (loop_entry no_line 0 e) → EndIsNamed n e
  loop-ended (loop_ends.Found f) h = h.1
  loop-ended loop_ends.AllDescend h = tt

  comes-named : (R : Recorded) (store : Store) (q : Inquiry) → IsNamedInquiry R store q → TurnIsNamed R store (next_in P strategy R store q)
  comes-named R store (OfWrong x) h = next-named (wrong strategy) (λ f. entry.Found f (no_line f)) IsKnownTree (wrong-keeps strategy no_line) OfWrong loop_ends.Found R (λ kept y k. k) (λ f k. k.1) store x h
  comes-named R store (OfMissing s) h = next-named (missing P R) (λ f. entry.Found f (no_line f)) (IsKnownGoal P) (missing-keeps P R no_line) OfMissing loop_ends.Found R (λ kept y k. k) (λ f k. k.1) store s h
  comes-named R store (OfLoop s) h =
      next-named (loop R (chain R) strategy) (loop_entry no_line 0) (IsKnownLoop R (chain R)) (loop-keeps R (chain R) strategy no_line 0) OfLoop (λ (e : LoopEnd). e) R (λ kept y k. k) loop-ended store s h

  abbrev pub IsNamedStage : Recorded → Store → Stage → Type 0
  IsNamedStage R store Idle = ⊤
  IsNamedStage R store (Moves q) = IsNamedInquiry R store q
  IsNamedStage R store (Awaits asked next) =
      MayAsk asked.question × (QuestionIsNamed n asked.question × ((r : Reply) → FitsAsked asked r → ReplyIsNamed n r → IsNamedInquiry R (with_pair store asked.question r) (next r)))

  -- what was told has these names
  pub record IsNamedAccount (a : Account) : Type 0 where
    pub history : RecordIsNamed n a.history
    pub store : AreReplies n a.store
    pub stage : IsNamedStage a.history a.store a.stage
    pub his : GiveNames n a.replies

  pub begun-named : (given : Question → Option Reply) (known : Store) → AreReplies n known → GiveNames n given → IsNamedAccount (account_with given known)
  begun-named given known are his = record { history = record { boxes = tt; points = tt }; store = are; stage = tt; his = his }

  idle-named : (a : Account) → IsNamedAccount a → IsNamedAccount (at_stage a Idle)
  idle-named a h = record { history = h.history; store = h.store; stage = tt; his = h.his }

  -- an entry has these names, and so has what may come after it
  record IsNamedly (a : Account) (e : Entry) : Type 0 where
    names : HasNames n e
    after : IsNamedAccount (after_entry program strategy a e)

  run-named : (a : Account) (q : Query) (budget answers : ℕ) (filter : Filter) (end : Option Ran) → IsNamedAccount a → IsTimed program a q budget answers end → TupleIsNamed n q.tuple × AllByRecursion HasNoBreak q.vars → IsNamedly a (entry.Run q budget answers filter end)
  run-named a q budget answers filter end h t query = record {
    names = query;
    after = subst (λ e. IsNamedAccount (after_run program strategy a q budget answers e)) (sym t.ended) (record {
      history = run_record-named n P q.tuple budget answers named query.0;
      store = h.store;
      stage = subst (IsNamedStage (record_within program strategy q budget answers) a.store) (sym t.idle) tt;
      his = h.his;
    });
  }

  -- A symptom.
  told-named : (a : Account) (what : Told) → IsNamedAccount a → IsOfRun a.history what → IsGivenSymptom n what → ToldIsNamed n what
  told-named a (Wrong x exit) h of given = subst (IsNamed n) of.head (point_named n a.history.points exit.0 of.exit.point of.exit.there h.history.points).0
  told-named a (Missing x box_no) h of given = given
  told-named a (NoEnd calls) h of given = tt

  begins-named : (a : Account) (what : Told) → IsNamedAccount a → ToldIsNamed n what → IsToldFairly program is strategy a.history what → AreReplies n (with_told a.store what) → IsNamedInquiry a.history (with_told a.store what) (begun_by a.history what)
  begins-named a (Wrong x exit) h atom t kept = record { standard = standard; named = tree-named n a.history exit.0 x h.history atom; own = t.begins }
  begins-named a (Missing x box_no) h atom t kept = record { standard = standard; program = named; clauses = program_clauses program is; replies = kept; goal = atom; has_no_variable = t.begins }
  begins-named a (NoEnd calls) h atom t kept = record { standard = standard; history = h.history; calls = t.begins.0; state = start-named n a.history (chain a.history); going = t.begins.1 }

  told-kept : (a : Account) (what : Told) → IsNamedAccount a → ToldIsNamed n what → IsToldFairly program is strategy a.history what → AreReplies n (with_told a.store what)
  told-kept a (Wrong x exit) h atom t = told-replies n a.store (Wrong x exit) atom t.fair h.store
  told-kept a (Missing x box_no) h atom t = told-replies n a.store (Missing x box_no) atom t.fair h.store
  told-kept a (NoEnd calls) h atom t = h.store

  symptom-named : (a : Account) (what : Told) → IsOwnAccount program is strategy a → IsNamedAccount a → IsOfRun a.history what → HasSeveral what → IsGivenSymptom n what → IsNamedly a (entry.Symptom what)
  symptom-named a what own h of several given =
      let atom = told-named a what h of given in
      let t = told-fair program is strategy a what own of several in
      let kept = told-kept a what h atom t in
      record { names = atom; after = record { history = h.history; store = kept; stage = begins-named a what h atom t kept; his = h.his } }

  question-named : (a : Account) (number : ℕ) (x : Asked) → IsNamedAccount a → IsQuestion program strategy a x → IsFairQuestion x.question → IsNamedly a (entry.Question number x)
  question-named a number x h r fair =
      let state : IsNamedInquiry a.history a.store r.due.inquiry = subst (IsNamedStage a.history a.store) r.due.stage h.stage in
      let t : TurnIsNamed a.history a.store (asks x r.next) = subst (TurnIsNamed a.history a.store) r.due.next (comes-named a.history a.store r.due.inquiry state) in
      record {
        names = t.0;
        after = subst IsNamedAccount (sym (question-is program strategy a x r.next r.due)) (record { history = h.history; store = h.store; stage = (fair.may, (t.0, t.1)); his = h.his });
      }

  reply-named : (replies : Question → Option Reply) (q : Question) (r : Reply) (given : Bool) → GiveNames n replies → QuestionIsNamed n q → IsReferred (replies q) r given → IsGivenReply n r given → ReplyIsNamed n r
  reply-named replies q r true his question referred given = his q r question referred
  reply-named replies q r false his question referred given = given

  replied-named : (a : Account) (reply : Reply) (left : Option ℕ) (given : Bool) → IsNamedAccount a → IsAnswer strategy a reply left given → IsGivenReply n reply given → IsNamedly a (entry.Replied reply left given)
  replied-named a reply left given h r told =
      let q = r.asked.question in
      let t : IsNamedStage a.history a.store (Awaits r.asked r.next) = subst (IsNamedStage a.history a.store) r.waits h.stage in
      let name = reply-named a.replies q reply given h.his t.1.0 r.referred told in
      record {
        names = name;
        after = subst IsNamedAccount (sym (replied-is a r.asked r.next reply r.waits)) (record {
          history = h.history;
          store = with_pair-replies n a.store q reply h.store (record { asked = t.0; fits = r.fits.0; question_named = t.1.0; reply_named = name });
          stage = t.1.1 reply r.fits name;
          his = h.his;
        });
      }

  module _ (m : Interpretation) where
    found-names : (a : Account) (f : Finding) → IsNamedAccount a → IsFound program strategy m a f → FindingIsNamed n f
    found-names a f h r =
        let state : IsNamedInquiry a.history a.store r.due.inquiry = subst (IsNamedStage a.history a.store) r.due.stage h.stage in
        subst (TurnIsNamed a.history a.store) r.due.next (comes-named a.history a.store r.due.inquiry state)

    entry-named : (a : Account) (e : Entry) → IsOwnAccount program is strategy a → IsNamedAccount a → IsRight m program strategy a e → IsInTurn program a e → IsFairly program is strategy a e → IsGiven n e → IsNamedly a e
    entry-named a (entry.Run q budget answers filter end) own h r t fair given = run-named a q budget answers filter end h t given
    entry-named a (entry.Symptom what) own h r t fair given = symptom-named a what own h r.of_run t given
    entry-named a (entry.Question number x) own h r t fair given = question-named a number x h r fair.fair
    entry-named a (entry.Replied reply left marked) own h r t fair given = replied-named a reply left marked h r given
    entry-named a (entry.Found f line) own h r t fair given = record { names = found-names a f h r; after = idle-named a h }
    entry-named a (entry.AllDescend calls) own h r t fair given = record { names = tt; after = idle-named a h }
    entry-named a (entry.Unanswered stopped) own h r t fair given = record { names = tt; after = idle-named a h }
    entry-named a entry.InputFault own h r t fair given = record { names = tt; after = idle-named a h }
    entry-named a entry.InputOver own h r t fair given = record { names = tt; after = idle-named a h }
    entry-named a (entry.PassedOver line pred) own h r t fair given = record { names = tt; after = h }
    entry-named a (entry.Warning line pred) own h r t fair given = record { names = tt; after = h }
    entry-named a (entry.Loaded clauses) own h r t fair given = record { names = tt; after = h }
    entry-named a (entry.OracleLoaded statements) own h r t fair given = record { names = tt; after = h }
    entry-named a (entry.ReferenceLoaded clauses) own h r t fair given = record { names = tt; after = h }
    entry-named a (entry.TraceSet filter) own h r t fair given = record { names = tt; after = h }
    entry-named a (entry.Known text) own h r t fair given = record { names = tt; after = h }
    entry-named a (entry.BadReply reason) own h r t fair given = record { names = tt; after = h }
    entry-named a (entry.Refused refusal) own h r t fair given = record { names = tt; after = h }
    entry-named a (entry.Demo nodes questions clause) own h r t fair given = record { names = tt; after = h }
    entry-named a entry.UsageRefused own h r t fair given = record { names = tt; after = h }
    entry-named a (entry.ProgramRefused line cause) own h r t fair given = record { names = tt; after = h }
    entry-named a (entry.OracleRefused line cause) own h r t fair given = record { names = tt; after = h }
    entry-named a (entry.ReferenceRefused line cause) own h r t fair given = record { names = tt; after = h }
    entry-named a (entry.CheckHolds findings) own h r t fair given = record { names = tt; after = h }
    entry-named a (entry.CheckFails line why) own h r t fair given = record { names = tt; after = h }
    entry-named a (entry.FileTooLong length) own h r t fair given = record { names = tt; after = h }

    pub all-named : (a : Account) (es : List Entry) → IsOwnAccount program is strategy a → IsNamedAccount a → AreRight m program strategy a es → AreInTurn program strategy a es → AreRunsInSize es → AllGiven n es → AllHaveNames n es
    all-named a [] own h r t size given = tt
    all-named a (e ∷ es) own h r t size given =
        let f = entry-fairly program is strategy m a e own r.0 t.0 size.0 in
        let k = entry-named a e own h r.0 t.0 f given.0 in
        (k.names, all-named (after_entry program strategy a e) es f.own k.after r.1 t.1 size.1 given.1)
