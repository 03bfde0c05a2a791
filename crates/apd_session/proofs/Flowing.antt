-- Each diagnosis of a session comes to an end, unless a question stays without a reply.
use Rattle.apd_session.specs.Demo.{asks_tree, demo_lines, outcome_after, outcome_of, questions_in}
use Rattle.std.proofs.Common.{◌≡◌, zero, suc, ℕ, ℤ, Bool, true, false, List, [], ◌∷◌, ◌++◌, length, Option, Some, None, Result, Ok, Err, refl, sym, ◌∙◌, ap, subst, append_assoc}
use Rattle.std.specs.Prelude.{if◌then◌else◌, ◌-◌, map, slice_get}
use Rattle.apd_answers.specs.Interpretation.{Interpretation}
use Rattle.apd_term.specs.Term.{Term}
use Rattle.apd_causes.specs.declared.run.Query.{Query}
use Rattle.apd_clauses.specs.declared.clause.Clause.{Clause}
use Rattle.apd_clauses.specs.Clauses.{IsProgram, tuples_of}
use Rattle.apd_console.specs.Lines.{Close, AtEnd, AtFault, AtLimit, InputEnd, hear, Ended}
use Rattle.apd_console.specs.declared.line.Line.{Line}
use Rattle.apd_record.specs.Recorded.{Recorded, chain}
use Rattle.apd_record.specs.Index.{id_of}
use Rattle.apd_record.specs.Reading.{point_of}
use Rattle.apd_answers.specs.declared.question.Asked.{Asked}
use Rattle.apd_answers.specs.declared.question.Question.TheVariants.{True}
use Rattle.apd_answers.specs.declared.question.Reply.{Reply}
use Rattle.apd_answers.specs.declared.question.Reply.TheVariants.{No, Yes}
use Rattle.apd_answers.specs.Findings.{IsByReplies}
use Rattle.apd_answers.specs.Fitting.{AllFit}
use Rattle.apd_answers.proofs.Fitted.{fit_added}
use Rattle.apd_answers.specs.Store.{Store, with_pair}
use Rattle.apd_answers.specs.Dialogue.{Turn, asks, goes, ends, next_turn}
use Rattle.apd_base.specs.Counts.{risen}
use Rattle.apd_answers.specs.Questions.{FitsAsked}
use Rattle.apd_divide.specs.declared.node.Strategy.{Strategy}
use Rattle.apd_divide.specs.Recorded.{tree}
use Rattle.apd_loop.specs.Loop.{left_in, loop_start}
use Rattle.apd_loop.specs.declared.LoopEnd.{LoopEnd}
use Rattle.apd_loop.specs.declared.LoopEnd.TheVariants as loop_ends
use Rattle.apd_lines.specs.Lines.{line_in}
use Rattle.apd_load.specs.declared.Note.{Note}
use Rattle.apd_load.specs.Warnings.{query_warnings}
use Rattle.apd_ops.specs.Table.{Table}
use Rattle.apd_oracle.specs.Replies.{spoken_of}
use Rattle.apd_oracle.specs.declared.spoken.Spoken.{Spoken}
use Rattle.apd_oracle.specs.declared.spoken.Spoken.TheVariants as spoken
use Rattle.apd_oracle.proofs.Fitting.{reply_fits}
use Rattle.apd_read.specs.Reader.{Reader}
use Rattle.apd_reference.specs.Referees.{replies_of, is_marked}
use Rattle.apd_reference.specs.declared.referee.Referee.{Referee}
use Rattle.apd_talk.specs.Talk.{Step, onto, run, replies}
use Rattle.apd_talk.specs.declared.talk.Ending.TheVariants.{Done}
use Rattle.apd_talk.specs.Utterance.{Utterance, entries_of}
use Rattle.apd_talk.proofs.Uttering.{entries_of-append}
use Rattle.apd_talk.specs.Speech.{plain}
use Rattle.apd_text.specs.declared.entry.Entry.{Entry}
use Rattle.apd_text.specs.declared.entry.Entry.TheVariants.{CheckFails, CheckHolds, FileTooLong, InputFault, Loaded, OracleRefused, ProgramRefused, ReferenceLoaded, ReferenceRefused, UsageRefused, Found}
use Rattle.apd_text.specs.declared.entry.Refusal.{Refusal}
use Rattle.apd_text.specs.declared.entry.Told.{Told}
use Rattle.apd_text.specs.declared.entry.Told.TheVariants.{Missing, NoEnd}
use Rattle.apd_account.specs.Account.{Account, Awaits, after_entries, after_told, with_reply, with_told, account_with}
use Rattle.apd_account.specs.Inquiry.{Inquiry, OfWrong, OfMissing, OfLoop}
use Rattle.apd_account.proofs.Diagnosing.{AsksRightly, IsKnownTree, RightTurn, Waits, wrong_begins, wrong_left}
use Rattle.apd_commands.specs.Commands.{command_in}
use Rattle.apd_commands.specs.declared.commands.Command.{Command}
use Rattle.apd_commands.specs.declared.commands.Command.TheVariants as command
use Rattle.apd_debug.specs.Steps.{after_turn, closing_asked, goes_on, goes_within, left_off, most_in_a_row, referred_then, replied, replied_then, turn_within}
use Rattle.apd_query.specs.Runs.{said_for, run_said}
use Rattle.apd_query.specs.declared.state.LastRun.{LastRun}
use Rattle.apd_query.specs.declared.state.State.{State}
use Rattle.apd_symptoms.specs.Chains.{stopped_chain}
use Rattle.apd_symptoms.specs.Symptoms.{exit_of}
use Rattle.apd_symptoms.specs.Unanswered.{unanswered_box}
use Rattle.apd_session.specs.Steps.{Method, Situation, Waiting, ForCommand, ForWrong, ForMissing, ForLoop, begins, by_loop, by_missing, by_wrong, carries_on, closing_in, command_step, loop_at, loop_step, missing_at, missing_step, query_said, ready_in, refused as refuses, remark, remarks, reply_said, situation, step_for, talker, warnings_for, wrong_at, wrong_of, wrong_step, first_word}
use Rattle.apd_session.specs.declared.notes.Noted.{Noted}
use Rattle.apd_session.specs.declared.notes.Noted.TheVariants as noted
use Rattle.apd_session.specs.Headline.{nothing_intended}
use Rattle.apd_session.specs.Opening.{beginning_said, first_state, further_said, known_said, load_said, reference_said, reviewed_said}
use Rattle.apd_session.specs.Session.{World, session_of, transcript_of, verdict_stop, hears_lines}
use Rattle.apd_session.specs.declared.opening.Beginning.{Beginning}
use Rattle.apd_session.specs.declared.opening.Reviewed.{Reviewed}
use Rattle.apd_session.specs.declared.opening.Opening.{Opening}
use Rattle.apd_session.specs.declared.opening.Opening.TheVariants.{Unloaded, Closed, Open}
use Rattle.apd_session.specs.declared.opening.Stop.{Stop}
use Rattle.apd_check.specs.declared.checked.Checked.{Checked}
use Rattle.apd_session.specs.declared.opening.Course.{Course}
use Rattle.apd_session.specs.declared.opening.Course.TheVariants.{Hears, Plays, Checks}
use Rattle.apd_session.proofs.Openings.{IsAlone, IsAskable, IsLastWord, opening_has, verdict-last}
use Rattle.apd_session.specs.Flow.{Due, Nothing, Move, Reply as Waits_for, due_after, Flows}
use Rattle.apd_session.proofs.Courses.{IsKnownGoal, IsKnownLoop, IsLoopEnd, goal_left, loop_begins, missing_begins}
use Rattle.apd_session.proofs.Exiting.{exit_of-exits}
use Rattle.apd_session.proofs.Lacking.{box_lacks, chain_stopped, is_chain}
use Rattle.apd_session.proofs.Findings.{first_stands, line-step, tree_stands}
use Rattle.apd_session.proofs.Righting.{IsLast, IsMode, IsRightly, IsTold, Stands, loop_rightly, missing_rightly, told_on, wrong_rightly}
use Rattle.apd_words.specs.Words.{Options}

append-flows : (d x e : Due) (xs ys : List Entry) → Flows d xs x → Flows x ys e → Flows d (xs ++ ys) e
append-flows d x e [] ys h k = subst (λ y. Flows y ys e) (sym h) k
append-flows d x e (z ∷ zs) ys h k = (h.0, h.1, append-flows h.0 x e zs ys h.2 k)

said-flows : (d x e : Due) (us vs : List (Utterance Entry)) → Flows d (entries_of us) x → Flows x (entries_of vs) e → Flows d (entries_of (us ++ vs)) e
said-flows d x e us vs h k = subst (λ es. Flows d es e) (sym (entries_of-append us vs)) (append-flows d x e (entries_of us) (entries_of vs) h k)

-- what is due where a session stands so
abbrev pub due_of : Waiting → Due
due_of ForCommand = Nothing
due_of (ForWrong asked next) = Waits_for
due_of (ForMissing asked next) = Waits_for
due_of (ForLoop asked next) = Waits_for

-- the entries of a step fit, and where it quits nothing is due
pub record StepFlows (d : Due) (st : Step Entry Situation) : Type 0 where
  pub flows : Flows d (entries_of st.utterances) (due_of st.next.mode)
  pub quits : st.quits ≡ true → due_of st.next.mode ≡ Nothing

module _ (m : Interpretation) (program : List Clause) (is : IsProgram program) (strategy : Strategy) where
  refused-flows : (ops : Table) (names : List (List ℕ)) (s : State) (r : Refusal) → StepFlows Nothing (refuses ops names s r)
  refused-flows ops names s r = record { flows = (Nothing, refl, refl); quits = λ e. refl }

  module _ {D E : Type 0} (d : Method D E) (Known : Recorded → Store → Option Told → D → Type 0) (left : D → Option ℕ) (IsEnd : Recorded → Store → E → Type 0) (state : D → Inquiry) (end : E → LoopEnd) (rightly : IsRightly m program is strategy d Known left IsEnd state end)
      (waits_for : (asked : Asked) (next : Reply → D) → due_of (d.waits asked next) ≡ Waits_for) (closes : (s : State) (e : E) → due_after Move (d.found s e) ≡ Some Nothing) where
    turn-flows : (ops : Table) (names : List (List ℕ)) (s : State) (store : Store) (count : ℕ) (a : Account) (turn : Turn D E)
        → RightTurn strategy Known left state IsEnd a.history a.store a.symptom turn → StepFlows Move (after_turn (d.diagnosis s) (d.found s) (situation d s) ops names store count turn)
    turn-flows ops names s store count a (asks asked next) k = record { flows = (Waits_for, refl, sym (waits_for asked next)); quits = λ e. absurd (cc) }
    turn-flows ops names s store count a (goes y) k = absurd k
    turn-flows ops names s store count a (ends e) k = record { flows = (Nothing, closes s e, refl); quits = λ e. refl }

    -- a reply is told, and then the rest
    reply_then-flows : (rest : Store → ℕ → D → Step Entry Situation) (by_reference : Bool) (ops : Table) (names : List (List ℕ)) (s : State) (store : Store) (count : ℕ) (a : Account) (asked : Asked) (next : Reply → D) (r : Reply)
        → IsTold m program is strategy s store a → AsksRightly strategy Known left state a.history a.store a.symptom asked next → FitsAsked asked r
        → ((b : Account) → IsTold m program is strategy s (with_pair store asked.question r) b → Known b.history b.store b.symptom (next r) → StepFlows Move (rest (with_pair store asked.question r) count (next r)))
        → StepFlows Waits_for (replied_then (first_word s.referee) (d.diagnosis s) (d.found s) (situation d s) ops names rest by_reference store count asked next r)
    reply_then-flows rest by_reference ops names s store count a asked next r h w fits goes_on =
        let b = with_reply a (Awaits asked (λ reply. state (next reply))) r in
        let st = goes_on b (told_on m program is strategy state s store a asked next r h fits) (w.known r fits) in
        record { flows = (Move, refl, st.flows); quits = st.quits }

    -- a question that waits, or at which the diagnosis ends
    left_off-flows : (ops : Table) (names : List (List ℕ)) (s : State) (store : Store) (count : ℕ) (a : Account) (asked : Asked) (next : Reply → D) (o : Option Reply) → AsksRightly strategy Known left state a.history a.store a.symptom asked next
        → StepFlows Move (left_off (first_word s.referee) (d.diagnosis s) (d.found s) (situation d s) ops names store count asked next o)
    left_off-flows ops names s store count a asked next None t = turn-flows ops names s store count a (asks asked next) t
    left_off-flows ops names s store count a asked next (Some r) t = record { flows = (Waits_for, refl, (Nothing, refl, refl)); quits = λ e. absurd (cc) }

    -- a turn, and the turns after it as long as there are replies without a line
    within-flows : (k : ℕ) (ops : Table) (names : List (List ℕ)) (s : State) (store : Store) (count : ℕ) (a : Account) (turn : Turn D E) → IsTold m program is strategy s store a
        → RightTurn strategy Known left state IsEnd a.history a.store a.symptom turn → StepFlows Move (turn_within (first_word s.referee) (d.diagnosis s) (d.found s) (situation d s) ops names k store count turn)
    within-flows zero ops names s store count a (goes y) h t = absurd t
    within-flows zero ops names s store count a (ends e) h t = turn-flows ops names s store count a (ends e) t
    within-flows zero ops names s store count a (asks asked next) h t = left_off-flows ops names s store count a asked next (replies_of s.referee asked.question) t
    within-flows (suc k) ops names s store count a (goes y) h t = absurd t
    within-flows (suc k) ops names s store count a (ends e) h t = turn-flows ops names s store count a (ends e) t
    within-flows (suc k) ops names s store count a (asks asked next) h t =
        by (replies_of s.referee asked.question) refl
        (λ kept b x told known. within-flows k ops names s kept (risen count) b (next_turn (d.diagnosis s) kept x) told (rightly.turns s kept b x told known))
      where
        by : (o : Option Reply) → replies_of s.referee asked.question ≡ o
            → ((kept : Store) (b : Account) (x : D) → IsTold m program is strategy s kept b → Known b.history b.store b.symptom x → StepFlows Move (goes_within (first_word s.referee) (d.diagnosis s) (d.found s) (situation d s) ops names k kept (risen count) x))
            → StepFlows Move (referred_then (first_word s.referee) (d.diagnosis s) (d.found s) (situation d s) ops names (goes_within (first_word s.referee) (d.diagnosis s) (d.found s) (situation d s) ops names k) store count asked next o)
        by None is_none goes_on = turn-flows ops names s store count a (asks asked next) t
        by (Some r) found_so goes_on =
            let kept = with_pair store asked.question r in
            let f = h.his asked.question r found_so in
            let st = reply_then-flows (goes_within (first_word s.referee) (d.diagnosis s) (d.found s) (situation d s) ops names k) (is_marked s.referee) ops names s store (risen count) a asked next r h t (f.0, λ unknown. absurd (f.1 unknown)) (λ c told known. goes_on kept c (next r) told known) in
            record { flows = (Waits_for, refl, st.flows); quits = st.quits }

    carries-flows : (ops : Table) (names : List (List ℕ)) (s : State) (store : Store) (count : ℕ) (a : Account) (x : D) → IsTold m program is strategy s store a → Known a.history a.store a.symptom x → StepFlows Move (carries_on d ops names s store count x)
    carries-flows ops names s store count a x h k = within-flows most_in_a_row ops names s store count a (next_turn (d.diagnosis s) store x) h (rightly.turns s store a x h k)

    begins-flows : (ops : Table) (names : List (List ℕ)) (s : State) (a : Account) (what : Told) (x : D) → IsTold m program is strategy s s.replies a → AllFit (with_told a.store what) → Known a.history (with_told a.store what) (Some what) x
        → StepFlows Nothing (begins d ops names s what x)
    begins-flows ops names s a what x h fit k =
        let told : IsTold m program is strategy s (with_told s.replies what) (after_told a what) =
        record { program_is = h.program_is; strategy_is = h.strategy_is; store_is = ap (λ ps. with_told ps what) h.store_is; fit = fit; his = h.his; marks = h.marks; last = h.last } in
        let st = carries-flows ops names s (with_told s.replies what) s.asked (after_told a what) x told k in
        record { flows = (Move, refl, st.flows); quits = st.quits }

    replied-flows : (ops : Table) (names : List (List ℕ)) (s : State) (a : Account) (asked : Asked) (next : Reply → D) (r : Reply) → IsTold m program is strategy s s.replies a → AsksRightly strategy Known left state a.history a.store a.symptom asked next → FitsAsked asked r
        → StepFlows Waits_for (replied (first_word s.referee) (d.diagnosis s) (d.found s) (situation d s) ops names s.replies s.asked asked next r)
    replied-flows ops names s a asked next r h w fits =
        reply_then-flows (goes_on (first_word s.referee) (d.diagnosis s) (d.found s) (situation d s) ops names) false ops names s s.replies s.asked a asked next r h w fits
        (λ b told known. carries-flows ops names s (with_pair s.replies asked.question r) s.asked b (next r) told known)

    reply-flows : (ops : Table) (names : List (List ℕ)) (s : State) (a : Account) (asked : Asked) (next : Reply → D) (said : Spoken) → ((r : Reply) → said ≡ spoken.Reply r → FitsAsked asked r)
        → IsTold m program is strategy s s.replies a → Waits strategy Known left state a asked next → StepFlows Waits_for (reply_said d ops names s asked next said)
    reply-flows ops names s a asked next spoken.Nothing fits h w = record { flows = sym (waits_for asked next); quits = λ e. absurd (cc) }
    reply-flows ops names s a asked next (spoken.Reply r) fits h w = replied-flows ops names s a asked next r h w.asks (fits r refl)
    reply-flows ops names s a asked next spoken.Stop fits h w = record { flows = (Nothing, refl, refl); quits = λ e. refl }
    reply-flows ops names s a asked next spoken.Quit fits h w = record { flows = (Nothing, refl, refl); quits = λ e. refl }
    reply-flows ops names s a asked next (spoken.Bad reason) fits h w = record { flows = (Waits_for, refl, sym (waits_for asked next)); quits = λ e. absurd (cc) }

  loop-closes : (s : State) (e : LoopEnd) → due_after Move (by_loop.found s e) ≡ Some Nothing
  loop-closes s (loop_ends.Found f) = refl
  loop-closes s loop_ends.AllDescend = refl

  -- commands about the last run
  wrong-flows : (ops : Table) (names : List (List ℕ)) (s : State) (a : Account) (b k : ℤ) (last : Option LastRun) → IsTold m program is strategy s s.replies a → IsLast m program is strategy last a.history → StepFlows Nothing (wrong_step ops names s last b k)
  wrong-flows ops names s a b k None h l = refused-flows ops names s _
  wrong-flows ops names s a b k (Some run) h l = subst (λ R. StepFlows Nothing (wrong_at ops names s R (exit_of R b k))) (sym l.0) (by (exit_of a.history b k) refl)
    where
      by : (r : Result ℕ Refusal) → exit_of a.history b k ≡ r → StepFlows Nothing (wrong_at ops names s a.history r)
      by (Err r) e = refused-flows ops names s r
      by (Ok n) e =
          let x = exit_of-exits a.history b k n e in
          let atom = (point_of a.history n).tuple.head in
          begins-flows by_wrong (IsKnownTree (tuples_of program)) wrong_left (IsByReplies (tuples_of program)) OfWrong loop_ends.Found (wrong_rightly m program is strategy) (λ asked next. refl) (λ s f. refl) ops names s a (wrong_of a.history n) (tree a.history n atom) h
          (fit_added a.store (True atom) No h.fit tt) (wrong_begins (tuples_of program) a.history a.store (id_of n) atom l.1.sound (record { exit = x.exit; head = x.head }))

  missing-flows : (ops : Table) (names : List (List ℕ)) (s : State) (a : Account) (b : ℤ) (atom : Term) (last : Option LastRun) → IsTold m program is strategy s s.replies a → IsLast m program is strategy last a.history → StepFlows Nothing (missing_step ops names s last b atom)
  missing-flows ops names s a b atom None h l = refused-flows ops names s _
  missing-flows ops names s a b atom (Some run) h l = subst (λ R. StepFlows Nothing (missing_at ops names s atom (unanswered_box R b atom))) (sym l.0) (by (unanswered_box a.history b atom) refl)
    where
      by : (r : Result ℕ Refusal) → unanswered_box a.history b atom ≡ r → StepFlows Nothing (missing_at ops names s atom r)
      by (Err r) e = refused-flows ops names s r
      by (Ok n) e =
          begins-flows by_missing (IsKnownGoal (tuples_of program)) goal_left (IsByReplies (tuples_of program)) OfMissing loop_ends.Found (missing_rightly m program is strategy) (λ asked next. refl) (λ s f. refl) ops names s a (Missing atom n) (record { box_no = n; goal = atom }) h (fit_added a.store (True atom) Yes h.fit tt)
          (missing_begins (tuples_of program) a.history a.store n atom l.1.sound l.1.full h.fit (box_lacks a.history b n atom l.1.sound.kept e))

  loop-flows : (ops : Table) (names : List (List ℕ)) (s : State) (a : Account) (last : Option LastRun) → IsTold m program is strategy s s.replies a → IsLast m program is strategy last a.history → StepFlows Nothing (loop_step ops names s last)
  loop-flows ops names s a None h l = refused-flows ops names s _
  loop-flows ops names s a (Some run) h l = subst (λ R. StepFlows Nothing (loop_at ops names s R (stopped_chain R run.end))) (sym l.0) (by (stopped_chain a.history run.end) refl)
    where
      by : (r : Result (List ℕ) Refusal) → stopped_chain a.history run.end ≡ r → StepFlows Nothing (loop_at ops names s a.history r)
      by (Err r) e = refused-flows ops names s r
      by (Ok calls) e =
          let c = chain_stopped a.history run.end calls e in
          subst (λ bs. StepFlows Nothing (loop_at ops names s a.history (Ok bs))) (sym c.0)
          (begins-flows by_loop (IsKnownLoop (tuples_of program)) left_in (IsLoopEnd (tuples_of program)) OfLoop (λ e. e) (loop_rightly m program is strategy) (λ asked next. refl) loop-closes ops names s a (NoEnd (length (chain a.history))) (loop_start a.history (chain a.history)) h h.fit
          (loop_begins (tuples_of program) a.history a.store (length (chain a.history)) l.1.sound (is_chain a.history l.1.sound.kept l.1.chained c.1) h.fit))

  -- remarks
  remark-flows : (why : Noted) (n : Note) → due_after Nothing (remark why n) ≡ Some Nothing
  remark-flows noted.PassedOver n = refl
  remark-flows noted.Called n = refl
  remark-flows noted.Asked n = refl

  pub remarks-flow : (ops : Table) (names : List (List ℕ)) (why : Noted) (ns : List Note) (us : List (Utterance Entry)) → Flows Nothing (entries_of us) Nothing → Flows Nothing (entries_of (remarks ops names why ns ++ us)) Nothing
  remarks-flow ops names why [] us h = h
  remarks-flow ops names why (n ∷ ns) us h = (Nothing, remark-flows why n, remarks-flow ops names why ns us h)

  query-flows : (ops : Table) (names : List (List ℕ)) (s : State) (q : Query) → StepFlows Nothing (command_step ops names s (command.Query q))
  unfolding query_said warnings_for run_said
  query-flows ops names s q = record {
    flows = remarks-flow ops names noted.Asked (query_warnings s.program q.tuple.body) (said_for ops names s q ∷ []) (Nothing, refl, refl);
    quits = λ e. refl;
  }

  command-flows : (ops : Table) (names : List (List ℕ)) (s : State) (a : Account) (c : Command) → IsTold m program is strategy s s.replies a → StepFlows Nothing (command_step ops names s c)
  command-flows ops names s a command.Nothing h = record { flows = refl; quits = λ e. refl }
  command-flows ops names s a command.Quit h = record { flows = refl; quits = λ e. refl }
  command-flows ops names s a (command.Refused r) h = refused-flows ops names s r
  command-flows ops names s a (command.Query q) h = query-flows ops names s q
  command-flows ops names s a (command.Trace f) h = record { flows = (Nothing, refl, refl); quits = λ e. refl }
  command-flows ops names s a command.Known h = record { flows = (Nothing, refl, refl); quits = λ e. refl }
  command-flows ops names s a (command.Wrong b k) h = wrong-flows ops names s a b k s.last h h.last
  command-flows ops names s a (command.Missing b atom) h = missing-flows ops names s a b atom s.last h h.last
  command-flows ops names s a command.Loop h = loop-flows ops names s a s.last h h.last

  -- after the last line
  asked-flows : (ops : Table) (names : List (List ℕ)) (close : Close) → Flows Waits_for (entries_of (closing_asked ops names close)) Nothing
  asked-flows ops names AtEnd = (Nothing, refl, refl)
  asked-flows ops names AtFault = (Nothing, refl, refl)
  asked-flows ops names AtLimit = (Nothing, refl, refl)

  closing-flows : (ops : Table) (names : List (List ℕ)) (mode : Waiting) (close : Close) → Flows (due_of mode) (entries_of (closing_in ops names mode close)) Nothing
  closing-flows ops names ForCommand AtEnd = refl
  closing-flows ops names ForCommand AtFault = (Nothing, refl, refl)
  closing-flows ops names ForCommand AtLimit = (Nothing, refl, refl)
  closing-flows ops names (ForWrong asked next) close = asked-flows ops names close
  closing-flows ops names (ForMissing asked next) close = asked-flows ops names close
  closing-flows ops names (ForLoop asked next) close = asked-flows ops names close

  module _ (names : List (List ℕ)) (reader : Reader names) (ops : Table) where
    line-flows : (s : Situation) (a : Account) (line : Line) → Stands m program is strategy s a → StepFlows (due_of s.mode) ((talker reader ops).step s line)
    line-flows s a line h = by s.mode h.mode
      where
        by : (mode : Waiting) → IsMode m program is strategy mode a → StepFlows (due_of mode) (step_for reader ops s.state mode line)
        by ForCommand k = command-flows ops names s.state a (command_in reader ops line) h.state
        by (ForWrong asked next) k =
            reply-flows by_wrong (IsKnownTree (tuples_of program)) wrong_left (IsByReplies (tuples_of program)) OfWrong loop_ends.Found (wrong_rightly m program is strategy) (λ asked next. refl) (λ s f. refl) ops names s.state a asked next (spoken_of asked (line_in reader ops line)) (λ r e. reply_fits asked (line_in reader ops line) r e) h.state k.waits
        by (ForMissing asked next) k =
            reply-flows by_missing (IsKnownGoal (tuples_of program)) goal_left (IsByReplies (tuples_of program)) OfMissing loop_ends.Found (missing_rightly m program is strategy) (λ asked next. refl) (λ s f. refl) ops names s.state a asked next (spoken_of asked (line_in reader ops line)) (λ r e. reply_fits asked (line_in reader ops line) r e) h.state k.waits
        by (ForLoop asked next) k =
            reply-flows by_loop (IsKnownLoop (tuples_of program)) left_in (IsLoopEnd (tuples_of program)) OfLoop (λ e. e) (loop_rightly m program is strategy) (λ asked next. refl) loop-closes ops names s.state a asked next (spoken_of asked (line_in reader ops line)) (λ r e. reply_fits asked (line_in reader ops line) r e) h.state k.waits

    lines-flow : (s : Situation) (a : Account) (input : List Line) (close : Close) → Stands m program is strategy s a → Flows (due_of s.mode) (entries_of (run (talker reader ops) s input close).utterances) Nothing
    lines-flow s a [] close h = closing-flows ops names s.mode close
    lines-flow s a (line ∷ input) close h =
        let st = line-step m program is strategy names reader ops s a line h in
        by ((talker reader ops).step s line) (line-flows s a line h) (lines-flow ((talker reader ops).step s line).next (after_entries program strategy a (entries_of ((talker reader ops).step s line).utterances)) input close st.stands)
      where
        by : (step : Step Entry Situation) → StepFlows (due_of s.mode) step → Flows (due_of step.next.mode) (entries_of (run (talker reader ops) step.next input close).utterances) Nothing
            → Flows (due_of s.mode) (entries_of (if step.quits then record { utterances = step.utterances; ending = Done } else onto step.utterances (run (talker reader ops) step.next input close)).utterances) Nothing
        by step f rest = quits step.quits refl
          where
            quits : (b : Bool) → step.quits ≡ b → Flows (due_of s.mode) (entries_of (if b then record { utterances = step.utterances; ending = Done } else onto step.utterances (run (talker reader ops) step.next input close)).utterances) Nothing
            quits true e = subst (λ x. Flows (due_of s.mode) (entries_of step.utterances) x) (f.quits e) f.flows
            quits false e = said-flows (due_of s.mode) (due_of step.next.mode) Nothing step.utterances (run (talker reader ops) step.next input close).utterances f.flows rest

    conversation-flows : (s : Situation) (a : Account) (room : ℕ) (input : List ℕ) (end : InputEnd) → Stands m program is strategy s a → Flows (due_of s.mode) (entries_of (replies (talker reader ops) s room input end).utterances) Nothing
    unfolding replies
    conversation-flows s a room input end h = lines-flow s a (hear room input end).lines (hear room input end).close h

-- What is said of a program.
module _ (ops : Table) (names : List (List ℕ)) where
  noted-flow : (why : Noted) (ns : List Note) (us : List (Utterance Entry)) → Flows Nothing (entries_of us) Nothing → Flows Nothing (entries_of (remarks ops names why ns ++ us)) Nothing
  noted-flow why [] us h = h
  noted-flow noted.PassedOver (n ∷ ns) us h = (Nothing, refl, noted-flow noted.PassedOver ns us h)
  noted-flow noted.Called (n ∷ ns) us h = (Nothing, refl, noted-flow noted.Called ns us h)
  noted-flow noted.Asked (n ∷ ns) us h = (Nothing, refl, noted-flow noted.Asked ns us h)

  load-flows : (b : Beginning) (us : List (Utterance Entry)) → Flows Nothing (entries_of us) Nothing → Flows Nothing (entries_of (load_said ops names b ++ us)) Nothing
  unfolding load_said
  load-flows b us h =
      let last = plain ops names (Loaded b.clauses) in
      subst (λ us. Flows Nothing (entries_of us) Nothing) (sym (twice (remarks ops names noted.PassedOver b.passed) (remarks ops names noted.Called b.called) (last ∷ []) us))
      (noted-flow noted.PassedOver b.passed (remarks ops names noted.Called b.called ++ (last ∷ us))
      (noted-flow noted.Called b.called (last ∷ us) (Nothing, refl, h)))
    where
      twice : (xs ys zs us : List (Utterance Entry)) → (xs ++ (ys ++ zs)) ++ us ≡ xs ++ (ys ++ (zs ++ us))
      twice xs ys zs us = append_assoc xs (ys ++ zs) us ∙ ap (λ (l : List (Utterance Entry)). xs ++ l) (append_assoc ys zs us)

  known-flows : (statements : Option ℕ) (us : List (Utterance Entry)) → Flows Nothing (entries_of us) Nothing → Flows Nothing (entries_of (known_said ops names statements ++ us)) Nothing
  known-flows None us h = h
  known-flows (Some n) us h = (Nothing, refl, h)

  reference-flows : (reference : Option Reviewed) (us : List (Utterance Entry)) → Flows Nothing (entries_of us) Nothing → Flows Nothing (entries_of (reference_said ops names reference ++ us)) Nothing
  unfolding reviewed_said
  reference-flows None us h = h
  reference-flows (Some r) us h =
      let last = plain ops names (ReferenceLoaded r.clauses) in
      subst (λ us. Flows Nothing (entries_of us) Nothing) (sym (twice (remarks ops names noted.PassedOver r.passed) (remarks ops names noted.Called r.called) (last ∷ []) us))
      (noted-flow noted.PassedOver r.passed (remarks ops names noted.Called r.called ++ (last ∷ us))
      (noted-flow noted.Called r.called (last ∷ us) (Nothing, refl, h)))
    where
      twice : (xs ys zs us : List (Utterance Entry)) → (xs ++ (ys ++ zs)) ++ us ≡ xs ++ (ys ++ (zs ++ us))
      twice xs ys zs us = append_assoc xs (ys ++ zs) us ∙ ap (λ (l : List (Utterance Entry)). xs ++ l) (append_assoc ys zs us)

  further-flows : (b : Beginning) (us : List (Utterance Entry)) → Flows Nothing (entries_of us) Nothing → Flows Nothing (entries_of (further_said ops names b ++ us)) Nothing
  further-flows b us h =
      subst (λ us. Flows Nothing (entries_of us) Nothing) (sym (append_assoc (known_said ops names b.statements) (reference_said ops names b.reference) us))
      (known-flows b.statements (reference_said ops names b.reference ++ us) (reference-flows b.reference us h))

  beginning-flows : (b : Beginning) (us : List (Utterance Entry)) → Flows Nothing (entries_of us) Nothing → Flows Nothing (entries_of (beginning_said ops names b ++ us)) Nothing
  beginning-flows b us h =
      subst (λ us. Flows Nothing (entries_of us) Nothing) (sym (append_assoc (load_said ops names b) (further_said ops names b) us)) (load-flows b (further_said ops names b ++ us) (further-flows b us h))

-- what a demonstration came to
outcome-flows : (ops : Table) (names : List (List ℕ)) (nodes count : ℕ) (last : Option Entry) → Flows Nothing (entries_of (map (plain ops names) (outcome_after nodes count last))) Nothing
outcome-flows ops names nodes count None = refl
outcome-flows ops names nodes count (Some e) = by e
  where
    by : (e : Entry) → Flows Nothing (entries_of (map (plain ops names) (outcome_after nodes count (Some e)))) Nothing
    by (Found f line) = (Nothing, refl, refl)
    by e = refl

-- what is said last
last_word-flows : (e : Entry) → IsLastWord e → due_after Nothing e ≡ Some Nothing
last_word-flows UsageRefused last = refl
last_word-flows (ProgramRefused line cause) last = refl
last_word-flows (OracleRefused line cause) last = refl
last_word-flows (ReferenceRefused line cause) last = refl
last_word-flows (CheckHolds findings) last = refl
last_word-flows (CheckFails line why) last = refl
last_word-flows (FileTooLong size) last = refl
last_word-flows InputFault last = refl
last_word-flows e last = absurd last

-- Each session.
module _ {names : List (List ℕ)} (reader : Reader names) where
  abbrev OpeningFlows : Opening → Type 0
  OpeningFlows x = (verdict : Checked) (input : List ℕ) (end : InputEnd) → Flows Nothing (entries_of (transcript_of reader x verdict input end).utterances) Nothing

  unloaded-flows : (why : Stop) → IsLastWord why.said → OpeningFlows (Unloaded why)
  unloaded-flows why last = λ verdict input end. (Nothing, last_word-flows why.said last, refl)

  closed-flows : (ops : Table) (b : Beginning) (why : Stop) → IsLastWord why.said → OpeningFlows (Closed ops b why)
  closed-flows ops b why last = λ verdict input end. beginning-flows ops names b (plain ops names why.said ∷ []) (Nothing, last_word-flows why.said last, refl)

  module _ (options : Options) (program : List Clause) (ops : Table) (store : Store) (referee : Referee) (is : IsProgram program) (fit : AllFit store) (may : IsAskable referee) where
    -- the lines of an input are heard
    heard-flows : (b : Beginning) (s : State) (a : Account) (input : List ℕ) (end : InputEnd) → Stands nothing_intended program is options.strategy (ready_in s) a
        → Flows Nothing (entries_of (hears_lines reader ops (record { beginning = b; state = s }) input end).utterances) Nothing
    heard-flows b s a input end h =
        beginning-flows ops names b (replies (talker reader ops) (ready_in s) 16777216 input end).utterances
        (conversation-flows nothing_intended program is options.strategy names reader ops (ready_in s) a 16777216 input end h)

    started-flows : (b : Beginning) (course : Course) → IsAlone course (replies_of referee) → OpeningFlows (Open ops (record { beginning = b; state = first_state program options store referee }) course)
    started-flows b Hears alone = λ verdict input end. heard-flows b (first_state program options store referee) (account_with (replies_of referee) store) input end (first_stands nothing_intended options program store referee is fit may)
    started-flows b (Plays nodes) alone = λ verdict input end.
        let s = first_state program options store referee in
        let a = account_with (replies_of referee) store in
        let us = (hears_lines reader ops (record { beginning = b; state = asks_tree nodes s }) demo_lines Ended).utterances in
        let es = entries_of us in
        said-flows Nothing Nothing Nothing us (map (plain ops names) (outcome_of nodes es))
        (heard-flows b (asks_tree nodes s) a demo_lines Ended (tree_stands nothing_intended program is options.strategy nodes s a alone (first_stands nothing_intended options program store referee is fit may)))
        (outcome-flows ops names nodes (questions_in es) (slice_get es (length es - 1)))
    started-flows b (Checks text) alone = λ verdict input end. closed-flows ops b (verdict_stop verdict) (verdict-last verdict) verdict input end

pub every-session-flows : (words names : List (List ℕ)) (reader : Reader names) (world : World) → Flows Nothing (entries_of (session_of words reader world).utterances) Nothing
every-session-flows words names reader world =
    opening_has (OpeningFlows reader) reader world.files (unloaded-flows reader) (λ ops b why table last. closed-flows reader ops b why last)
    (λ options program ops b store referee course is table fit may alone. started-flows reader options program ops store referee is fit may b course alone) words world.verdict world.input world.ends
