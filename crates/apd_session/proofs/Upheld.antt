-- The log of a session that heard its input holds.
use Rattle.std.proofs.Common.{◌≡◌, ℕ, ◌+◌, ◌≤◌, inl, inr, Bool, true, false, List, [], ◌∷◌, ◌++◌, length, Option, Some, None, Result, Ok, Err, refl, sym, ◌∙◌, ap, subst, append_assoc, arith}
use Rattle.std.specs.Prelude.{if◌then◌else◌, ⊤}
use Rattle.apd_base.specs.declared.limits.TheConstants.{MAX_FILE}
use Rattle.apd_causes.specs.declared.run.Query.{Query}
use Rattle.apd_clauses.specs.Clauses.{IsProgram, tuples_of}
use Rattle.apd_clauses.specs.declared.clause.Clause.{Clause}
use Rattle.apd_console.specs.Lines.{Close, InputEnd, hear, lines_of}
use Rattle.apd_console.specs.declared.line.Line.{Line}
use Rattle.apd_divide.specs.declared.node.Strategy.{Strategy}
use Rattle.apd_load.specs.Warnings.{query_warnings}
use Rattle.apd_load.specs.declared.Note.{Note}
use Rattle.apd_debug.specs.NamedStates.{AreReplies}
use Rattle.apd_lines.specs.Lines.{LineIsNamed, line_in}
use Rattle.apd_oracle.specs.Replies.{spoken_of}
use Rattle.apd_oracle.proofs.Fitting.{is_reply}
use Rattle.apd_ops.specs.Table.{Table, IsTable}
use Rattle.apd_query.specs.Runs.{run_said, run_for, said_for}
use Rattle.apd_trace.specs.Run.{ran_of}
use Rattle.apd_query.specs.declared.state.State.{State}
use Rattle.apd_read.specs.Reader.{Reader}
use Rattle.apd_reading_back.specs.Law.{AreNames}
use Rattle.apd_reference.specs.Referees.{names_known, replies_of}
use Rattle.apd_reference.specs.declared.referee.Referee.{Referee}
use Rattle.apd_reference.specs.declared.referee.Referee.TheVariants.{Nobody, Program, Tree}
use Rattle.apd_reference.proofs.NamedReplies.{replies_named}
use Rattle.apd_term.specs.Named.{AllTuplesNamed}
use Rattle.apd_term.proofs.FirstNames.{standard_few}
use Rattle.std.specs.List.{AllByRecursion}
use Rattle.apd_answers.specs.Fitting.{AllFit}
use Rattle.apd_answers.specs.Store.{Store}
use Rattle.apd_answers.specs.declared.question.Question.{Question}
use Rattle.apd_answers.specs.declared.question.Reply.{Reply}
use Rattle.apd_load.specs.Program.{Loads, refused, loads, program_of}
use Rattle.apd_words.specs.Words.{Options, options_of}
use Rattle.apd_talk.specs.Speech.{plain}
use Rattle.apd_talk.specs.Talk.{Step, onto, run, replies}
use Rattle.apd_talk.specs.declared.talk.Ending.TheVariants.{Done}
use Rattle.apd_talk.specs.Utterance.{Utterance, entries_of, texts_of}
use Rattle.apd_talk.proofs.Uttering.{entries_of-append}
use Rattle.apd_text.specs.declared.entry.Entry.{Entry}
use Rattle.apd_text.specs.declared.entry.Entry.TheVariants as entry
use Rattle.apd_account.specs.Account.{Account, Idle, account_with, after_entries, after_entry}
use Rattle.apd_account.specs.Right.{AreRight}
use Rattle.apd_check.specs.Checked.{first_state as at_first, IsChecked, IsCheckOf}
use Rattle.apd_check.specs.declared.checked.Checked.{Checked}
use Rattle.apd_check.specs.declared.checked.Checked.TheVariants as checked
use Rattle.apd_claims.specs.Saying.{said_from, said_in}
use Rattle.apd_commands.specs.Commands.{command_in}
use Rattle.apd_commands.specs.declared.commands.Command.{Command}
use Rattle.apd_commands.specs.declared.commands.Command.TheVariants as command
use Rattle.apd_numbering.specs.Said.{AllSaidNamed}
use Rattle.apd_numbering.proofs.HeldElsewhere.{written-named}
use Rattle.apd_session.specs.Headline.{nothing_intended}
use Rattle.apd_session.specs.Opening.{beginning_said, course_of, first_state, further_said, known_said, load_said, opening_after, opening_by, opening_of, opening_with, prepared, reference_said, referred, reviewed_said, subject_text}
use Rattle.apd_session.specs.Roles.{Role, FileLoad, KnownReplies, Reference}
use Rattle.apd_session.specs.Roles as roles
use Rattle.apd_session.specs.Session.{World, transcript_of}
use Rattle.apd_session.specs.Written.{WroteWhatHolds, AreKept, IsHeard, uttered_in}
use Rattle.apd_session.specs.Steps.{Situation, Waiting, ForCommand, ForWrong, ForMissing, ForLoop, by_loop, by_missing, by_wrong, command_step, query_said, ready_in, remarks, step_for, store_said, talker, warnings_for}
use Rattle.apd_session.specs.declared.notes.Noted.{Noted}
use Rattle.apd_session.specs.declared.notes.Noted.TheVariants as noted
use Rattle.apd_session.specs.declared.opening.Beginning.{Beginning}
use Rattle.apd_session.specs.declared.opening.Course.{Course}
use Rattle.apd_session.specs.declared.opening.Course.TheVariants.{Hears, Plays, Checks}
use Rattle.apd_session.specs.declared.opening.Opening.{Opening}
use Rattle.apd_session.specs.declared.opening.Opening.TheVariants.{Unloaded, Closed, Open}
use Rattle.apd_session.specs.declared.opening.Reviewed.{Reviewed}
use Rattle.apd_session.specs.declared.opening.Stop.{Stop}
use Rattle.apd_session.specs.declared.preparing.Prepared.{Prepared}
use Rattle.apd_session.specs.declared.preparing.Prepared.TheVariants.{Knows, Refuses}
use Rattle.apd_session.specs.declared.referring.Referring.{Referring}
use Rattle.apd_session.specs.declared.referring.Referring.TheVariants.{Asks, Stops}
use Rattle.apd_session.proofs.Fairness.{all-fair, begun-own}
use Rattle.apd_session.proofs.Findings.{first_stands, line-step, started-right}
use Rattle.apd_session.proofs.Given.{HasGivenNames, command-given, query_goals}
use Rattle.apd_session.proofs.Naming.{AllGiven, GiveNames, all-named, begun-named}
use Rattle.apd_session.proofs.Openings.{IsAlone, IsAskable, askable-fits, opening_has}
use Rattle.apd_words.proofs.Limited.{words-limited}
use Rattle.apd_load.proofs.Lined.{AreLinedBy}
use Rattle.apd_session.proofs.Lined.{IsOpeningLined, opening-lined}
use Rattle.apd_session.proofs.Numbered.{all-numbered}
use Rattle.apd_session.proofs.Plainly.{HaveSame, ArePlain, IsPlainly, closing-plain, loop-plainly, loop_method, missing-plainly, missing_method, refused-plainly, remarks-plain, reply-plainly, wrong-plainly, wrong_method}
use Rattle.apd_session.proofs.Righting.{IsMode, Stands}
use Rattle.apd_session.proofs.Unbroken.{ReadIsUnbroken, heard-unbroken, lines-read}
use Rattle.apd_session.proofs.Stated.{MayBeKnown, OpeningMay, known-kept, opening-may}
use Rattle.apd_upheld.specs.Fair.{AreInTurn, AreRunsInSize, IsInTurn, IsLined}
use Rattle.apd_upheld.specs.Good.{AreGood, Stands as Corresponds, count_found}
use Rattle.apd_upheld.proofs.Good.{entries-good}
use Rattle.apd_upheld.proofs.Saying.{says-checked}
use Rattle.apd_written.specs.Claims.{all_claims}
use Rattle.apd_written.specs.Conditions.{AllSayable, LeavesMeanings}
use Rattle.apd_written.specs.Proper.{AreProperGoals}
use Rattle.apd_written.proofs.Conditions.{all-written}
use Rattle.apd_written.specs.Says.{Says}
use Rattle.apd_written.specs.Texts.{AreAllowed, IsShort}
use Rattle.apd_written.specs.Uttered.{AllUttered, AllWritten, IsPlainEntry}
use Rattle.apd_written.proofs.Uttered.{texts-say}

none_more : (n : ℕ) → 0 + n ≡ n
none_more n = omega arith

append_twice : {X : Type 0} (xs ys zs us : List X) → (xs ++ (ys ++ zs)) ++ us ≡ xs ++ (ys ++ (zs ++ us))
append_twice {X} xs ys zs us = append_assoc xs (ys ++ zs) us ∙ ap (λ (l : List X). xs ++ l) (append_assoc ys zs us)

module _ (program : List Clause) (strategy : Strategy) (names : List (List ℕ)) (ops : Table) where
  -- what is uttered is entries with their texts and runs, each in its turn, and what is brought in has names that are kept
  pub record IsFine (a : Account) (us : List (Utterance Entry)) : Type 0 where
    pub uttered : AllUttered ops names program us
    pub in_turn : AreInTurn program strategy a (entries_of us)
    pub given : AllGiven (length names) (entries_of us)

  both-given : (es fs : List Entry) → AllGiven (length names) es → AllGiven (length names) fs → AllGiven (length names) (es ++ fs)
  both-given [] fs h k = k
  both-given (e ∷ es) fs h k = (h.0, both-given es fs h.1 k)

  both-uttered : (us vs : List (Utterance Entry)) → AllUttered ops names program us → AllUttered ops names program vs → AllUttered ops names program (us ++ vs)
  both-uttered [] vs h k = k
  both-uttered (u ∷ us) vs h k = (h.0, both-uttered us vs h.1 k)

  both-turn : (a : Account) (es fs : List Entry) → AreInTurn program strategy a es → AreInTurn program strategy (after_entries program strategy a es) fs → AreInTurn program strategy a (es ++ fs)
  both-turn a [] fs h k = k
  both-turn a (e ∷ es) fs h k = (h.0, both-turn (after_entry program strategy a e) es fs h.1 k)

  pub both-fine : (a : Account) (us vs : List (Utterance Entry)) → IsFine a us → IsFine (after_entries program strategy a (entries_of us)) vs → IsFine a (us ++ vs)
  both-fine a us vs h k = record {
    uttered = both-uttered us vs h.uttered k.uttered;
    in_turn = subst (AreInTurn program strategy a) (sym (entries_of-append us vs)) (both-turn a (entries_of us) (entries_of vs) h.in_turn k.in_turn);
    given = subst (AllGiven (length names)) (sym (entries_of-append us vs)) (both-given (entries_of us) (entries_of vs) h.given k.given);
  }

  -- an entry that is no run comes at any time
  any-turn : (a : Account) (e : Entry) → IsPlainEntry ops names e → IsLined program e → IsInTurn program a e
  any-turn a (entry.Run q budget answers filter end) i l = absurd i
  any-turn a (entry.Found f line) i l = l
  any-turn a (entry.Symptom what) i l = l
  any-turn a (entry.Question number x) i l = tt
  any-turn a (entry.Replied reply left given) i l = tt
  any-turn a (entry.AllDescend calls) i l = tt
  any-turn a (entry.PassedOver line pred) i l = tt
  any-turn a (entry.Warning line pred) i l = tt
  any-turn a (entry.Loaded clauses) i l = tt
  any-turn a (entry.OracleLoaded statements) i l = tt
  any-turn a (entry.ReferenceLoaded clauses) i l = tt
  any-turn a (entry.TraceSet filter) i l = tt
  any-turn a (entry.Known text) i l = tt
  any-turn a (entry.BadReply reason) i l = tt
  any-turn a (entry.Unanswered stopped) i l = tt
  any-turn a (entry.Refused refusal) i l = tt
  any-turn a (entry.Demo nodes questions clause) i l = tt
  any-turn a entry.UsageRefused i l = tt
  any-turn a (entry.ProgramRefused line cause) i l = tt
  any-turn a (entry.OracleRefused line cause) i l = tt
  any-turn a (entry.ReferenceRefused line cause) i l = tt
  any-turn a (entry.CheckHolds findings) i l = tt
  any-turn a (entry.CheckFails line why) i l = tt
  any-turn a (entry.FileTooLong size) i l = tt
  any-turn a entry.InputFault i l = tt
  any-turn a entry.InputOver i l = tt

  pub plain-fine : (a : Account) (us : List (Utterance Entry)) → ArePlain program names ops us → IsFine a us
  plain-fine a [] h = record { uttered = tt; in_turn = tt; given = tt }
  plain-fine a (u ∷ us) h =
      let rest = plain-fine (after_entry program strategy a u.entry) us h.1 in
      record { uttered = (inl (h.0.is, h.0.entry), rest.uttered); in_turn = (any-turn a u.entry h.0.entry h.0.lined, rest.in_turn); given = (h.0.given, rest.given) }

  -- remarks tell nothing
  still : (a : Account) (why : Noted) (ns : List Note) → after_entries program strategy a (entries_of (remarks ops names why ns)) ≡ a
  still a why [] = refl
  still a noted.PassedOver (n ∷ ns) = still a noted.PassedOver ns
  still a noted.Called (n ∷ ns) = still a noted.Called ns
  still a noted.Asked (n ∷ ns) = still a noted.Asked ns

  run-fine : (a : Account) (s : State) (q : Query) → s.program ≡ program → AreAllowed s.budget s.answers → AreProperGoals q.tuple.body → HasGivenNames (length names) (command.Query q) → a.stage ≡ Idle → IsFine a (said_for ops names s q ∷ [])
  unfolding run_said run_for
  run-fine a s q e allowed goals named idle = record {
    uttered = (inr (record { query = q; budget = s.budget; answers = s.answers; filter = s.filter; limits = allowed; said = ap (λ p. run_said ops names p q s.budget s.answers s.filter) e }), tt);
    in_turn = (record { goals = goals; ports = allowed.few_ports; some = allowed.some_answers; few = allowed.few_answers; ended = ap (λ p. Some (ran_of (run_for p q s.budget s.answers))) e; idle = idle }, tt);
    given = (named, tt);
  }

  query-fine : (a : Account) (s : State) (q : Query) → s.program ≡ program → AreAllowed s.budget s.answers → AreProperGoals q.tuple.body → HasGivenNames (length names) (command.Query q) → a.stage ≡ Idle → IsFine a (query_said ops names s q)
  unfolding query_said warnings_for
  query-fine a s q e allowed goals named idle =
      let warnings = remarks ops names noted.Asked (query_warnings s.program q.tuple.body) in
      both-fine a warnings (said_for ops names s q ∷ []) (plain-fine a warnings (remarks-plain program names ops noted.Asked (query_warnings s.program q.tuple.body)))
      (subst (λ (b : Account). IsFine b (said_for ops names s q ∷ [])) (sym (still a noted.Asked (query_warnings s.program q.tuple.body))) (run-fine a s q e allowed goals named idle))

  -- a step is fine, and keeps how many answers are allowed and who is asked first
  record IsFineStep (a : Account) (s : State) (st : Step Entry Situation) : Type 0 where
    fine : IsFine a st.utterances
    keeps : HaveSame s st.next.state

  plainly-fine : (a : Account) (s : State) (st : Step Entry Situation) → IsPlainly program names ops s st → IsFineStep a s st
  plainly-fine a s st p = record { fine = plain-fine a st.utterances p.said; keeps = p.keeps }

  command-fine : (a : Account) (s : State) (c : Command) → ((q : Query) → c ≡ command.Query q → AreProperGoals q.tuple.body) → HasGivenNames (length names) c → s.program ≡ program → AreAllowed s.budget s.answers → IsAskable s.referee → a.stage ≡ Idle → IsFineStep a s (command_step ops names s c)
  command-fine a s command.Nothing pure named e allowed may idle = record { fine = record { uttered = tt; in_turn = tt; given = tt }; keeps = record { budget = refl; answers = refl; referee = refl } }
  command-fine a s command.Quit pure named e allowed may idle = record { fine = record { uttered = tt; in_turn = tt; given = tt }; keeps = record { budget = refl; answers = refl; referee = refl } }
  command-fine a s (command.Refused r) pure named e allowed may idle = plainly-fine a s (command_step ops names s (command.Refused r)) (refused-plainly program names ops s r)
  command-fine a s (command.Query q) pure named e allowed may idle = record { fine = query-fine a s q e allowed (pure q refl) named idle; keeps = record { budget = refl; answers = refl; referee = refl } }
  command-fine a s (command.Trace f) pure named e allowed may idle = record { fine = plain-fine a (command_step ops names s (command.Trace f)).utterances (record { is = refl; entry = tt; lined = tt; given = tt }, tt); keeps = record { budget = refl; answers = refl; referee = refl } }
  command-fine a s command.Known pure named e allowed may idle = record { fine = plain-fine a (store_said ops names s.replies) (record { is = refl; entry = (s.replies, refl); lined = tt; given = tt }, tt); keeps = record { budget = refl; answers = refl; referee = refl } }
  command-fine a s (command.Wrong b k) pure named e allowed may idle = plainly-fine a s (command_step ops names s (command.Wrong b k)) (wrong-plainly program names ops s b k s.last e may)
  command-fine a s (command.Missing b atom) pure named e allowed may idle = plainly-fine a s (command_step ops names s (command.Missing b atom)) (missing-plainly program names ops s b atom s.last named e may)
  command-fine a s command.Loop pure named e allowed may idle = plainly-fine a s (command_step ops names s command.Loop) (loop-plainly program names ops s s.last e may)

module _ (program : List Clause) (is : IsProgram program) (strategy : Strategy) {names : List (List ℕ)} (reader : Reader names) (ops : Table) where
  abbrev Stood : Situation → Account → Type 0
  Stood s a = Stands nothing_intended program is strategy s a

  -- the line has names that are kept, and no newline
  pub record LineIsKept (line : Line) : Type 0 where
    pub named : LineIsNamed (length names) (line_in reader ops line)
    pub unbroken : ReadIsUnbroken (line_in reader ops line)

  pub lines-kept : (input : List Line) → AllByRecursion (λ (line : Line). LineIsNamed (length names) (line_in reader ops line)) input → AllByRecursion (λ (line : Line). ReadIsUnbroken (line_in reader ops line)) input → AllByRecursion LineIsKept input
  lines-kept [] named unbroken = tt
  lines-kept (line ∷ input) named unbroken = (record { named = named.0; unbroken = unbroken.0 }, lines-kept input named.1 unbroken.1)

  step-fine : (s : Situation) (a : Account) (line : Line) → LineIsKept line → Stood s a → AreAllowed s.state.budget s.state.answers → IsAskable s.state.referee → IsFineStep program strategy names ops a s.state ((talker reader ops).step s line)
  step-fine s a line kept h allowed may = by s.mode h.mode
    where
      e : s.state.program ≡ program
      e = h.state.program_is

      by : (mode : Waiting) → IsMode nothing_intended program is strategy mode a → IsFineStep program strategy names ops a s.state (step_for reader ops s.state mode line)
      by ForCommand k = command-fine program strategy names ops a s.state (command_in reader ops line) (λ q is. query_goals reader ops line q is) (command-given (length names) reader ops line kept.named kept.unbroken) e allowed may k
      by (ForWrong asked next) k =
          plainly-fine program strategy names ops a s.state (step_for reader ops s.state (ForWrong asked next) line) (reply-plainly program names ops by_wrong s.state (wrong_method program names ops s.state e may) asked next (spoken_of asked (line_in reader ops line)) (λ r is. (is_reply (length names) asked (line_in reader ops line) r kept.named is).1))
      by (ForMissing asked next) k =
          plainly-fine program strategy names ops a s.state (step_for reader ops s.state (ForMissing asked next) line) (reply-plainly program names ops by_missing s.state (missing_method program names ops s.state e may) asked next (spoken_of asked (line_in reader ops line)) (λ r is. (is_reply (length names) asked (line_in reader ops line) r kept.named is).1))
      by (ForLoop asked next) k =
          plainly-fine program strategy names ops a s.state (step_for reader ops s.state (ForLoop asked next) line) (reply-plainly program names ops by_loop s.state (loop_method program names ops s.state e may) asked next (spoken_of asked (line_in reader ops line)) (λ r is. (is_reply (length names) asked (line_in reader ops line) r kept.named is).1))

  -- the lines of an input
  lines-fine : (s : Situation) (a : Account) (input : List Line) (close : Close) → AllByRecursion LineIsKept input → Stood s a → AreAllowed s.state.budget s.state.answers → IsAskable s.state.referee → IsFine program strategy names ops a (run (talker reader ops) s input close).utterances
  lines-fine s a [] close kept h allowed may = plain-fine program strategy names ops a ((talker reader ops).closing s close) (closing-plain program names ops s.mode close)
  lines-fine s a (line ∷ input) close kept h allowed may =
      let step = (talker reader ops).step s line in
      let f = step-fine s a line kept.0 h allowed may in
      let st = line-step nothing_intended program is strategy names reader ops s a line h in
      by step f (lines-fine step.next (after_entries program strategy a (entries_of step.utterances)) input close kept.1 st.stands (subst (λ b. AreAllowed b step.next.state.answers) (sym f.keeps.budget) (subst (AreAllowed s.state.budget) (sym f.keeps.answers) allowed)) (subst IsAskable (sym f.keeps.referee) may))
    where
      by : (step : Step Entry Situation) → IsFineStep program strategy names ops a s.state step → IsFine program strategy names ops (after_entries program strategy a (entries_of step.utterances)) (run (talker reader ops) step.next input close).utterances
          → IsFine program strategy names ops a (if step.quits then record { utterances = step.utterances; ending = Done } else onto step.utterances (run (talker reader ops) step.next input close)).utterances
      by step f rest = quits step.quits
        where
          quits : (b : Bool) → IsFine program strategy names ops a (if b then record { utterances = step.utterances; ending = Done } else onto step.utterances (run (talker reader ops) step.next input close)).utterances
          quits true = f.fine
          quits false = both-fine program strategy names ops a step.utterances (run (talker reader ops) step.next input close).utterances f.fine rest

  conversation-fine : (s : Situation) (a : Account) (room : ℕ) (input : List ℕ) (how : InputEnd) → AllByRecursion LineIsKept (hear room input how).lines → Stood s a → AreAllowed s.state.budget s.state.answers → IsAskable s.state.referee
      → IsFine program strategy names ops a (replies (talker reader ops) s room input how).utterances
  unfolding replies
  conversation-fine s a room input how kept h allowed may = lines-fine s a (hear room input how).lines (hear room input how).close kept h allowed may

-- What is said before the first line tells nothing.
module _ (program : List Clause) (strategy : Strategy) (names : List (List ℕ)) (ops : Table) (a : Account) where
  abbrev Fine : List (Utterance Entry) → Type 0
  Fine us = IsFine program strategy names ops a us

  noted-fine : (why : Noted) (ns : List Note) (us : List (Utterance Entry)) → Fine us → Fine (remarks ops names why ns ++ us)
  noted-fine why [] us h = h
  noted-fine noted.PassedOver (n ∷ ns) us h = let rest = noted-fine noted.PassedOver ns us h in record { uttered = (inl (refl, tt), rest.uttered); in_turn = (tt, rest.in_turn); given = (tt, rest.given) }
  noted-fine noted.Called (n ∷ ns) us h = let rest = noted-fine noted.Called ns us h in record { uttered = (inl (refl, tt), rest.uttered); in_turn = (tt, rest.in_turn); given = (tt, rest.given) }
  noted-fine noted.Asked (n ∷ ns) us h = let rest = noted-fine noted.Asked ns us h in record { uttered = (inl (refl, tt), rest.uttered); in_turn = (tt, rest.in_turn); given = (tt, rest.given) }

  known-fine : (statements : Option ℕ) (us : List (Utterance Entry)) → Fine us → Fine (known_said ops names statements ++ us)
  known-fine None us h = h
  known-fine (Some n) us h = record { uttered = (inl (refl, tt), h.uttered); in_turn = (tt, h.in_turn); given = (tt, h.given) }

  load-fine : (b : Beginning) (us : List (Utterance Entry)) → Fine us → Fine (load_said ops names b ++ us)
  unfolding load_said
  load-fine b us h =
      let last = plain ops names (entry.Loaded b.clauses) in
      subst Fine (sym (append_twice (remarks ops names noted.PassedOver b.passed) (remarks ops names noted.Called b.called) (last ∷ []) us))
      (noted-fine noted.PassedOver b.passed (remarks ops names noted.Called b.called ++ (last ∷ us)) (noted-fine noted.Called b.called (last ∷ us) (record { uttered = (inl (refl, tt), h.uttered); in_turn = (tt, h.in_turn); given = (tt, h.given) })))

  reference-fine : (reference : Option Reviewed) (us : List (Utterance Entry)) → Fine us → Fine (reference_said ops names reference ++ us)
  unfolding reviewed_said
  reference-fine None us h = h
  reference-fine (Some w) us h =
      let last = plain ops names (entry.ReferenceLoaded w.clauses) in
      subst Fine (sym (append_twice (remarks ops names noted.PassedOver w.passed) (remarks ops names noted.Called w.called) (last ∷ []) us))
      (noted-fine noted.PassedOver w.passed (remarks ops names noted.Called w.called ++ (last ∷ us)) (noted-fine noted.Called w.called (last ∷ us) (record { uttered = (inl (refl, tt), h.uttered); in_turn = (tt, h.in_turn); given = (tt, h.given) })))

  beginning-fine : (b : Beginning) (us : List (Utterance Entry)) → Fine us → Fine (beginning_said ops names b ++ us)
  beginning-fine b us h =
      subst Fine (sym (append_assoc (load_said ops names b) (further_said ops names b) us))
      (load-fine b (further_said ops names b ++ us)
      (subst Fine (sym (append_assoc (known_said ops names b.statements) (reference_said ops names b.reference) us))
      (known-fine b.statements (reference_said ops names b.reference ++ us) (reference-fine b.reference us h))))

-- The log of what was uttered holds, where the names that were read are kept, no run's query became too large, each entry can be said,
-- and the text is short.
module _ {names : List (List ℕ)} (reader : Reader names) (all : AreNames names) where
  -- replies without a line have names that are kept
  askable-gives : (referee : Referee) → IsAskable referee → names_known referee ≤ length names → GiveNames (length names) (replies_of referee)
  askable-gives Nobody may known = λ q r named e. absurd (cc)
  askable-gives (Program p) may known = replies_named (tuples_of p.program) p.budget may.0 (askable-fits (Program p) may) (length names) known
  askable-gives (Tree t) may known = absurd may

  abbrev Holds : List Clause → Table → Store → List (Utterance Entry) → Type 0
  Holds program ops known us = LeavesMeanings ops → AreRunsInSize (entries_of us) → AllSayable ops names (entries_of us) → IsShort (texts_of us)
      → IsCheckOf program ops reader known (texts_of us) (checked.Holds (count_found (all_claims (entries_of us)))) × AllSaidNamed (length names) (said_in reader ops (texts_of us))

  fine-holds : (program : List Clause) (strategy : Strategy) (ops : Table) (known : Store) (given : Question → Option Reply) (us : List (Utterance Entry)) → IsProgram program → IsTable ops → AllFit known → AreLinedBy (1 + MAX_FILE) program
      → AllTuplesNamed (length names) (tuples_of program) → AreReplies (length names) known → GiveNames (length names) given → IsFine program strategy names ops (account_with given known) us
      → AreRight nothing_intended program strategy (account_with given known) (entries_of us) → Holds program ops known us
  fine-holds program strategy ops known given us is table fit lined named are gives f right meanings in_size sayable short =
      let standard = standard_few names all.standard in
      let own = begun-own program is strategy given known fit in
      let fairly = all-fair program is strategy nothing_intended (account_with given known) (entries_of us) own right f.in_turn in_size in
      let kept = all-named (length names) standard program is named strategy nothing_intended (account_with given known) (entries_of us) own (begun-named (length names) standard program is named strategy given known are gives) right f.in_turn in_size f.given in
      let numbered = all-numbered program is lined strategy nothing_intended ops names (account_with given known) (entries_of us) own right f.in_turn in_size tt sayable in
      let written : AllWritten ops names (entries_of us) = all-written ops names standard meanings (entries_of us) fairly.proper kept numbered sayable in
      let said : Says reader ops (texts_of us) (all_claims (entries_of us)) = texts-say reader ops program us table all f.uttered written short in
      let stands : Corresponds (account_with given known) (at_first known) = record { query = refl; history = refl; known = record { pairs = refl; trust = refl }; waits = tt } in
      let good : AreGood program (at_first known) (all_claims (entries_of us)) = entries-good program strategy nothing_intended (account_with given known) (at_first known) (entries_of us) stands right fairly.fair f.in_turn in (
        subst (λ k. IsChecked program (at_first known) 0 (said_from reader ops false 1 (lines_of (texts_of us))) (checked.Holds k)) (none_more (count_found (all_claims (entries_of us))))
            (says-checked reader ops program (at_first known) 0 1 false said good),
        written-named names reader ops program us table all f.uttered written short,
      )

  -- as many answers are allowed as may be, where a session opens
  abbrev Allows : Opening → Type 0
  Allows (Unloaded why) = ⊤
  Allows (Closed ops b why) = ⊤
  Allows (Open ops start course) = AreAllowed start.state.budget start.state.answers

  with-allows : (options : Options) (program : List Clause) (ops : Table) (passed : List Note) (x : Prepared) (r : Referring) (c : Result Course Stop) → AreAllowed options.budget options.answers → Allows (opening_with options program ops passed x r c)
  with-allows options program ops passed (Refuses why) r c h = tt
  with-allows options program ops passed (Knows statements store) (Stops why) c h = tt
  with-allows options program ops passed (Knows statements store) (Asks referee reference) (Ok course) h = h
  with-allows options program ops passed (Knows statements store) (Asks referee reference) (Err why) h = tt

  by-allows : (files : Role → FileLoad) (options : Options) (text : Result (List ℕ) Stop) → AreAllowed options.budget options.answers → Allows (opening_by reader files options text)
  by-allows files options (Err why) h = tt
  by-allows files options (Ok text) h = after (program_of reader text)
    where
      after : (o : Loads) → Allows (opening_after reader files options o)
      after (refused line cause) = tt
      after (loads l) =
          with-allows options l.program l.ops l.passed (prepared reader l.ops options.oracle (files KnownReplies))
          (referred reader options.budget options.reference (files Reference)) (course_of (files roles.Log) options.subject) h

  opening-allows : (files : Role → FileLoad) (words : List (List ℕ)) → Allows (opening_of reader files (options_of words))
  opening-allows files words = by (options_of words) refl
    where
      by : (o : Option Options) → options_of words ≡ o → Allows (opening_of reader files o)
      by None e = tt
      by (Some options) e = let limits = words-limited words options e in by-allows files options (subject_text files options.subject) (record { some_ports = limits.some_ports; few_ports = limits.few_ports; some_answers = limits.some_answers; few_answers = limits.few_answers })

  -- what a session that opens so says holds
  abbrev HoldsFor : Opening → Type 0
  HoldsFor (Unloaded why) = ⊤
  HoldsFor (Closed ops b why) = ⊤
  HoldsFor (Open ops start Hears) = (verdict : Checked) (input : List ℕ) (ends : InputEnd) → AreKept reader input ends ops start → MayBeKnown start.state.replies → AreLinedBy (1 + MAX_FILE) start.state.program → AreAllowed start.state.budget start.state.answers
      → Holds start.state.program ops start.state.replies (transcript_of reader (Open ops start Hears) verdict input ends).utterances
  HoldsFor (Open ops start (Plays nodes)) = ⊤
  HoldsFor (Open ops start (Checks text)) = ⊤

  heard-holds : (options : Options) (program : List Clause) (ops : Table) (b : Beginning) (store : Store) (referee : Referee) → IsProgram program → IsTable ops → AllFit store → IsAskable referee
      → HoldsFor (Open ops (record { beginning = b; state = first_state program options store referee }) Hears)
  heard-holds options program ops b store referee is table fit his = λ verdict input ends kept known lined allowed.
      let s = first_state program options store referee in
      let a = account_with (replies_of referee) store in
      let us = (replies (talker reader ops) (ready_in s) 16777216 input ends).utterances in
      let stands = first_stands nothing_intended options program store referee is fit his in
      fine-holds program options.strategy ops store (replies_of referee) (beginning_said ops names b ++ us) is table fit lined kept.program (known-kept (length names) store known kept.known) (askable-gives referee his kept.referee)
      (beginning-fine program options.strategy names ops a b us (conversation-fine program is options.strategy reader ops (ready_in s) a 16777216 input ends (lines-kept program is options.strategy reader ops (hear 16777216 input ends).lines kept.lines (lines-read reader ops table (hear 16777216 input ends).lines (heard-unbroken 16777216 input ends))) stands allowed his))
      (started-right nothing_intended program is options.strategy names reader ops verdict input ends b s a Hears tt stands)

  opened-holds : (options : Options) (program : List Clause) (ops : Table) (b : Beginning) (store : Store) (referee : Referee) (course : Course) → IsProgram program → IsTable ops → AllFit store → IsAskable referee
      → IsAlone course (replies_of referee) → HoldsFor (Open ops (record { beginning = b; state = first_state program options store referee }) course)
  opened-holds options program ops b store referee Hears is table fit may alone = heard-holds options program ops b store referee is table fit may
  opened-holds options program ops b store referee (Plays nodes) is table fit may alone = tt
  opened-holds options program ops b store referee (Checks text) is table fit may alone = tt

  opening-holds : (files : Role → FileLoad) (words : List (List ℕ)) → HoldsFor (opening_of reader files (options_of words))
  opening-holds files words = opening_has HoldsFor reader files (λ why last. tt) (λ ops b why table last. tt) opened-holds words

  pub written-holds : (words : List (List ℕ)) (world : World) → (x : IsHeard words reader world) → AreKept reader world.input world.ends x.ops x.start
      → Holds x.start.state.program x.ops x.start.state.replies (uttered_in words reader world)
  written-holds words world x kept =
      let allowed = subst Allows x.opens (opening-allows world.files words) in
      let known = subst OpeningMay x.opens (opening-may reader world.files (options_of words)) in
      let lined = subst IsOpeningLined x.opens (opening-lined reader world.files (options_of words)) in
      let holds = subst HoldsFor x.opens (opening-holds world.files words) world.verdict world.input world.ends kept known lined allowed in
      subst (λ (o : Opening). Holds x.start.state.program x.ops x.start.state.replies (transcript_of reader o world.verdict world.input world.ends).utterances) (sym x.opens) holds

-- the law
pub checked-holds : {names : List (List ℕ)} (reader : Reader names) (words : List (List ℕ)) (world : World) → WroteWhatHolds words reader world
checked-holds reader words world all x = (written-holds reader all words world x.heard x.kept x.meanings x.in_size x.sayable x.short).0
