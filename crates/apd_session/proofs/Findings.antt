-- What a session says is right: by its lines, and then for the whole.
use Rattle.std.proofs.Common.{◌≡◌, ℕ, Bool, true, false, List, [], ◌∷◌, ◌++◌, Option, Some, None, refl, sym, ◌∙◌, ap, subst, append_assoc, length}
use Rattle.std.specs.Prelude.{if◌then◌else◌, slice_get}
use Rattle.apd_clauses.specs.declared.clause.Clause.{Clause}
use Rattle.apd_clauses.specs.Clauses.{IsProgram}
use Rattle.apd_console.specs.Lines.{Close, InputEnd, hear, Ended}
use Rattle.apd_console.specs.declared.line.Line.{Line}
use Rattle.apd_answers.specs.Repliers.{nobody}
use Rattle.apd_answers.specs.declared.question.Question.{Question}
use Rattle.apd_answers.specs.Fitting.{AllFit}
use Rattle.apd_answers.specs.Interpretation.{Interpretation}
use Rattle.apd_answers.specs.Store.{Store}
use Rattle.apd_divide.specs.declared.node.Strategy.{Strategy}
use Rattle.apd_load.specs.declared.Note.{Note}
use Rattle.apd_ops.specs.Table.{Table}
use Rattle.apd_read.specs.Reader.{Reader}
use Rattle.apd_lines.specs.Lines.{line_in}
use Rattle.apd_talk.specs.Talk.{Step, onto, run, replies}
use Rattle.apd_talk.specs.declared.talk.Ending.TheVariants.{Done}
use Rattle.apd_talk.specs.Utterance.{Utterance, entries_of}
use Rattle.apd_talk.proofs.Uttering.{entries_of-append}
use Rattle.apd_talk.specs.Speech.{plain}
use Rattle.apd_text.specs.declared.entry.Entry.{Entry}
use Rattle.apd_text.specs.declared.entry.Entry.TheVariants.{CheckFails, CheckHolds, FileTooLong, InputFault, Loaded, OracleRefused, ProgramRefused, ReferenceLoaded, ReferenceRefused, UsageRefused, Found}
use Rattle.apd_account.specs.Account.{Account, after_entries, account_with}
use Rattle.apd_account.specs.Right.{AreRight, IsRight}
use Rattle.apd_account.proofs.Fronts.{right-append}
use Rattle.apd_commands.specs.Commands.{command_in}
use Rattle.apd_oracle.specs.Replies.{spoken_of}
use Rattle.apd_oracle.proofs.Fitting.{reply_fits}
use Rattle.apd_query.specs.declared.state.State.{State}
use Rattle.apd_session.specs.Demo.{asks_tree, demo_lines, outcome_after, outcome_of, questions_in}
use Rattle.apd_demo.specs.Replies.{nodes_in}
use Rattle.apd_demo.proofs.Fitting.{tree_fits}
use Rattle.std.specs.Prelude.{◌-◌, map}
use Rattle.apd_words.specs.Words.{Options, options_of}
use Rattle.apd_session.specs.Headline.{AreRightFor}
use Rattle.apd_session.specs.Opening.{beginning_said, first_state, further_said, known_said, load_said, opening_of, reference_said, reviewed_said}
use Rattle.apd_check.specs.declared.checked.Checked.{Checked}
use Rattle.apd_session.specs.declared.opening.Course.{Course}
use Rattle.apd_session.specs.declared.opening.Course.TheVariants.{Hears, Plays, Checks}
use Rattle.apd_session.specs.Session.{World, session_of, transcript_of, verdict_stop, hears_lines}
use Rattle.apd_reference.specs.Referees.{replies_of}
use Rattle.apd_reference.specs.declared.referee.Referee.{Referee}
use Rattle.apd_session.specs.declared.opening.Beginning.{Beginning}
use Rattle.apd_session.specs.declared.opening.Reviewed.{Reviewed}
use Rattle.apd_session.specs.declared.opening.Opening.{Opening}
use Rattle.apd_session.specs.declared.opening.Opening.TheVariants.{Unloaded, Closed, Open}
use Rattle.apd_session.specs.declared.opening.Stop.{Stop}
use Rattle.apd_session.specs.declared.notes.Noted.{Noted}
use Rattle.apd_session.proofs.Openings.{IsAlone, IsAskable, IsLastWord, askable-fits, askable-marks, opening_has, verdict-last}
use Rattle.apd_session.specs.Steps.{Situation, Waiting, ForCommand, ForWrong, ForMissing, ForLoop, ready_in, remarks, step_for, talker}
use Rattle.apd_session.specs.declared.notes.Noted.TheVariants as noted
use Rattle.apd_session.proofs.Commanding.{closing-right, command-step}
use Rattle.apd_session.proofs.Given.{query_atoms}
use Rattle.apd_session.proofs.Righting.{IsMode, Stands, IsStep, loop_reply-step, missing_reply-step, wrong_reply-step}

append_twice : {X : Type 0} (xs ys zs us : List X) → (xs ++ (ys ++ zs)) ++ us ≡ xs ++ (ys ++ (zs ++ us))
append_twice {X} xs ys zs us = append_assoc xs (ys ++ zs) us ∙ ap (λ (l : List X). xs ++ l) (append_assoc ys zs us)

-- What is said of a program tells nothing.
module _ (m : Interpretation) (program : List Clause) (strategy : Strategy) (names : List (List ℕ)) (ops : Table) where
  noted-right : (a : Account) (why : Noted) (ns : List Note) (us : List (Utterance Entry)) → AreRight m program strategy a (entries_of us) → AreRight m program strategy a (entries_of (remarks ops names why ns ++ us))
  noted-right a why [] us r = r
  noted-right a noted.PassedOver (n ∷ ns) us r = (tt, noted-right a noted.PassedOver ns us r)
  noted-right a noted.Called (n ∷ ns) us r = (tt, noted-right a noted.Called ns us r)
  noted-right a noted.Asked (n ∷ ns) us r = (tt, noted-right a noted.Asked ns us r)

  known-right : (a : Account) (statements : Option ℕ) (us : List (Utterance Entry)) → AreRight m program strategy a (entries_of us) → AreRight m program strategy a (entries_of (known_said ops names statements ++ us))
  known-right a None us r = r
  known-right a (Some n) us r = (tt, r)

  load-right : (a : Account) (b : Beginning) (us : List (Utterance Entry)) → AreRight m program strategy a (entries_of us) → AreRight m program strategy a (entries_of (load_said ops names b ++ us))
  unfolding load_said
  load-right a b us r =
      let last = plain ops names (Loaded b.clauses) in
      subst (λ (l : List (Utterance Entry)). AreRight m program strategy a (entries_of l)) (sym (append_twice (remarks ops names noted.PassedOver b.passed) (remarks ops names noted.Called b.called) (last ∷ []) us))
      (noted-right a noted.PassedOver b.passed (remarks ops names noted.Called b.called ++ (last ∷ us)) (noted-right a noted.Called b.called (last ∷ us) (tt, r)))

  reference-right : (a : Account) (reference : Option Reviewed) (us : List (Utterance Entry)) → AreRight m program strategy a (entries_of us) → AreRight m program strategy a (entries_of (reference_said ops names reference ++ us))
  unfolding reviewed_said
  reference-right a None us r = r
  reference-right a (Some w) us r =
      let last = plain ops names (ReferenceLoaded w.clauses) in
      subst (λ (l : List (Utterance Entry)). AreRight m program strategy a (entries_of l)) (sym (append_twice (remarks ops names noted.PassedOver w.passed) (remarks ops names noted.Called w.called) (last ∷ []) us))
      (noted-right a noted.PassedOver w.passed (remarks ops names noted.Called w.called ++ (last ∷ us)) (noted-right a noted.Called w.called (last ∷ us) (tt, r)))

  further-right : (a : Account) (b : Beginning) (us : List (Utterance Entry)) → AreRight m program strategy a (entries_of us) → AreRight m program strategy a (entries_of (further_said ops names b ++ us))
  further-right a b us r =
      subst (λ (l : List (Utterance Entry)). AreRight m program strategy a (entries_of l)) (sym (append_assoc (known_said ops names b.statements) (reference_said ops names b.reference) us))
      (known-right a b.statements (reference_said ops names b.reference ++ us) (reference-right a b.reference us r))

  beginning-right : (a : Account) (b : Beginning) (us : List (Utterance Entry)) → AreRight m program strategy a (entries_of us) → AreRight m program strategy a (entries_of (beginning_said ops names b ++ us))
  beginning-right a b us r =
      subst (λ (l : List (Utterance Entry)). AreRight m program strategy a (entries_of l)) (sym (append_assoc (load_said ops names b) (further_said ops names b) us)) (load-right a b (further_said ops names b ++ us) (further-right a b us r))

-- what is said last
last_word-right : (m : Interpretation) (program : List Clause) (strategy : Strategy) (a : Account) (e : Entry) → IsLastWord e → IsRight m program strategy a e
last_word-right m program strategy a UsageRefused last = tt
last_word-right m program strategy a (ProgramRefused line cause) last = tt
last_word-right m program strategy a (OracleRefused line cause) last = tt
last_word-right m program strategy a (ReferenceRefused line cause) last = tt
last_word-right m program strategy a (CheckHolds findings) last = tt
last_word-right m program strategy a (CheckFails line why) last = tt
last_word-right m program strategy a (FileTooLong size) last = tt
last_word-right m program strategy a InputFault last = tt
last_word-right m program strategy a e last = absurd last

-- a tree is asked first, whose replies aren't marked
pub tree_stands : (m : Interpretation) (program : List Clause) (is : IsProgram program) (strategy : Strategy) (nodes : ℕ) (s : State) (a : Account) → ((q : Question) → a.replies q ≡ None) → Stands m program is strategy (ready_in s) a → Stands m program is strategy (ready_in (asks_tree nodes s)) a
tree_stands m program is strategy nodes s a none h = record {
  state = record {
    program_is = h.state.program_is;
    strategy_is = h.state.strategy_is;
    store_is = h.state.store_is;
    fit = h.state.fit;
    his = tree_fits (nodes_in nodes s.program);
    marks = none;
    last = h.state.last;
  };
  mode = h.mode;
}

module _ (m : Interpretation) (program : List Clause) (is : IsProgram program) (strategy : Strategy) (names : List (List ℕ)) (reader : Reader names) (ops : Table) where
  abbrev Right : Account → List (Utterance Entry) → Type 0
  Right a us = AreRight m program strategy a (entries_of us)

  -- one line
  pub line-step : (s : Situation) (a : Account) (line : Line) → Stands m program is strategy s a → IsStep m program is strategy a ((talker reader ops).step s line)
  line-step s a line h = by s.mode h.mode
    where
      by : (mode : Waiting) → IsMode m program is strategy mode a → IsStep m program is strategy a (step_for reader ops s.state mode line)
      by ForCommand k = command-step m program is strategy ops names s.state a (command_in reader ops line) (λ q e. query_atoms reader ops line q e) h.state k
      by (ForWrong asked next) k =
          wrong_reply-step m program is strategy ops names s.state a asked next (spoken_of asked (line_in reader ops line)) (λ r e. reply_fits asked (line_in reader ops line) r e) h.state k
      by (ForMissing asked next) k =
          missing_reply-step m program is strategy ops names s.state a asked next (spoken_of asked (line_in reader ops line)) (λ r e. reply_fits asked (line_in reader ops line) r e) h.state k
      by (ForLoop asked next) k =
          loop_reply-step m program is strategy ops names s.state a asked next (spoken_of asked (line_in reader ops line)) (λ r e. reply_fits asked (line_in reader ops line) r e) h.state k

  -- what is said after what is right
  both-right : (a : Account) (us vs : List (Utterance Entry)) → Right a us → Right (after_entries program strategy a (entries_of us)) vs → Right a (us ++ vs)
  both-right a us vs r q = subst (AreRight m program strategy a) (sym (entries_of-append us vs)) (right-append m program strategy a (entries_of us) (entries_of vs) r q)

  -- the lines of an input
  lines-right : (s : Situation) (a : Account) (input : List Line) (close : Close) → Stands m program is strategy s a → Right a (run (talker reader ops) s input close).utterances
  lines-right s a [] close h = closing-right m program is strategy ops names a s.mode close
  lines-right s a (line ∷ input) close h =
      let st = line-step s a line h in
      by ((talker reader ops).step s line) st (lines-right ((talker reader ops).step s line).next (after_entries program strategy a (entries_of ((talker reader ops).step s line).utterances)) input close st.stands)
    where
      by : (step : Step Entry Situation) → IsStep m program is strategy a step → Right (after_entries program strategy a (entries_of step.utterances)) (run (talker reader ops) step.next input close).utterances
          → Right a (if step.quits then record { utterances = step.utterances; ending = Done } else onto step.utterances (run (talker reader ops) step.next input close)).utterances
      by step st rest = quits step.quits
        where
          quits : (b : Bool) → Right a (if b then record { utterances = step.utterances; ending = Done } else onto step.utterances (run (talker reader ops) step.next input close)).utterances
          quits true = st.right
          quits false = both-right a step.utterances (run (talker reader ops) step.next input close).utterances st.right rest

  conversation-right : (s : Situation) (a : Account) (room : ℕ) (input : List ℕ) (ends : InputEnd) → Stands m program is strategy s a → Right a (replies (talker reader ops) s room input ends).utterances
  unfolding replies
  conversation-right s a room input ends h = lines-right s a (hear room input ends).lines (hear room input ends).close h

  -- what is said of a program, and then
  before-right : (a : Account) (b : Beginning) (us : List (Utterance Entry)) → Right a us → Right a (beginning_said ops names b ++ us)
  before-right a b us r = beginning-right m program strategy names ops a b us r

  -- the lines of an input are heard
  heard-right : (input : List ℕ) (ends : InputEnd) (b : Beginning) (s : State) (a : Account) → Stands m program is strategy (ready_in s) a → Right a (hears_lines reader ops (record { beginning = b; state = s }) input ends).utterances
  heard-right input ends b s a h =
      before-right a b (replies (talker reader ops) (ready_in s) 16777216 input ends).utterances (conversation-right (ready_in s) a 16777216 input ends h)

  -- what a demonstration came to
  outcome-right : (a : Account) (nodes count : ℕ) (last : Option Entry) → Right a (map (plain ops names) (outcome_after nodes count last))
  outcome-right a nodes count None = tt
  outcome-right a nodes count (Some e) = by e
    where
      by : (e : Entry) → Right a (map (plain ops names) (outcome_after nodes count (Some e)))
      by (Found f line) = (tt, tt)
      by e = tt

  -- the lines of the input are heard, or the tree is demonstrated
  pub started-right : (verdict : Checked) (input : List ℕ) (ends : InputEnd) (b : Beginning) (s : State) (a : Account) (course : Course) → IsAlone course a.replies → Stands m program is strategy (ready_in s) a
      → Right a (transcript_of reader (Open ops (record { beginning = b; state = s }) course) verdict input ends).utterances
  started-right verdict input ends b s a Hears alone h = heard-right input ends b s a h
  started-right verdict input ends b s a (Plays nodes) alone h =
      let us = (hears_lines reader ops (record { beginning = b; state = asks_tree nodes s }) demo_lines Ended).utterances in
      let es = entries_of us in
      both-right a us (map (plain ops names) (outcome_of nodes es)) (heard-right demo_lines Ended b (asks_tree nodes s) a (tree_stands m program is strategy nodes s a alone h))
      (outcome-right (after_entries program strategy a es) nodes (questions_in es) (slice_get es (length es - 1)))
  started-right verdict input ends b s a (Checks text) alone h =
      before-right a b (plain ops names (verdict_stop verdict).said ∷ []) (last_word-right m program strategy a (verdict_stop verdict).said (verdict-last verdict), tt)

-- Each session.

pub first_stands : (m : Interpretation) (options : Options) (program : List Clause) (store : Store) (referee : Referee) (is : IsProgram program) → AllFit store → IsAskable referee
    → Stands m program is options.strategy (ready_in (first_state program options store referee)) (account_with (replies_of referee) store)
first_stands m options program store referee is fit may = record {
  state = record { program_is = refl; strategy_is = refl; store_is = refl; fit = fit; his = askable-fits referee may; marks = askable-marks referee may; last = (refl, tt) };
  mode = refl;
}

module _ (m : Interpretation) {names : List (List ℕ)} (reader : Reader names) where
  abbrev RightOpening : Opening → Type 0
  RightOpening x = (verdict : Checked) (input : List ℕ) (ends : InputEnd) → AreRightFor m (entries_of (transcript_of reader x verdict input ends).utterances) x

  unloaded-right : (why : Stop) → IsLastWord why.said → RightOpening (Unloaded why)
  unloaded-right why last = λ verdict input ends program strategy known. (last_word-right m program strategy (account_with nobody known) why.said last, tt)

  closed-right : (ops : Table) (b : Beginning) (why : Stop) → IsLastWord why.said → RightOpening (Closed ops b why)
  closed-right ops b why last = λ verdict input ends program strategy known.
      beginning-right m program strategy names ops (account_with nobody known) b (plain ops names why.said ∷ []) (last_word-right m program strategy (account_with nobody known) why.said last, tt)

  opened-right : (options : Options) (program : List Clause) (ops : Table) (b : Beginning) (store : Store) (referee : Referee) (course : Course) → IsProgram program → AllFit store → IsAskable referee → IsAlone course (replies_of referee)
      → RightOpening (Open ops (record { beginning = b; state = first_state program options store referee }) course)
  opened-right options program ops b store referee course is fit may alone = λ verdict input ends.
      started-right m program is options.strategy names reader ops verdict input ends b (first_state program options store referee) (account_with (replies_of referee) store) course alone (first_stands m options program store referee is fit may)

  -- whatever the loads of files give
  pub session-right : (words : List (List ℕ)) (world : World) → AreRightFor m (entries_of (session_of words reader world).utterances) (opening_of reader world.files (options_of words))
  session-right words world =
      opening_has RightOpening reader world.files unloaded-right (λ ops b why table last. closed-right ops b why last)
      (λ options program ops b store referee course is table fit may alone. opened-right options program ops b store referee course is fit may alone) words world.verdict world.input world.ends
