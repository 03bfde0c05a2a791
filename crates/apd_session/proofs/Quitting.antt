-- Only `quit.` ends a session, in a command's place and in a reply's place.
use Rattle.std.proofs.Common.{◌≡◌, ◌==◌, ℕ, ℤ, List, length, refl, sym, ◌∙◌, Bool, true, false, Option, None, Some, Result, Ok, Err}
use Rattle.std.specs.Prelude.{◌&&◌, if◌then◌else◌, not, slice_get}
use Rattle.std.specs.List.{list_all}
use Rattle.std.proofs.lemmas.Bool.{eqb-true}
use Rattle.apd_answers.specs.Dialogue.{next_turn}
use Rattle.apd_answers.specs.Questions.{unknowns, with_values}
use Rattle.apd_account.specs.Account.{with_told}
use Rattle.apd_answers.specs.Store.{Store, with_pair}
use Rattle.apd_answers.specs.declared.question.Asked.{Asked}
use Rattle.apd_answers.specs.declared.question.Question.{Question}
use Rattle.apd_answers.specs.declared.question.Question.TheVariants.{True, Covers, Below}
use Rattle.apd_answers.specs.declared.question.Reply.{Reply}
use Rattle.apd_answers.specs.declared.question.Reply.TheVariants.{Yes, No, Values, Unknown}
use Rattle.apd_causes.specs.declared.faults.BodyFault.{BodyFault}
use Rattle.apd_causes.specs.declared.reading.Read.{Read}
use Rattle.apd_causes.specs.declared.run.Query.{Query}
use Rattle.apd_clauses.specs.Kinds.{◌∕◌}
use Rattle.apd_clauses.specs.Predicates.{is_pred}
use Rattle.apd_clauses.specs.Queries.{query_from}
use Rattle.apd_commands.specs.Filters.{filter_at, trace_asked}
use Rattle.apd_ports.specs.declared.filter.Filter.{Filter}
use Rattle.apd_commands.specs.Commands.{command_in, command_of, integer_at, missing_asked, query_asked, term_asked, wrong_asked}
use Rattle.apd_commands.specs.declared.commands.Command.{Command}
use Rattle.apd_commands.specs.declared.commands.Command.TheVariants as command
use Rattle.apd_console.specs.declared.line.Line.{Line}
use Rattle.apd_debug.specs.Steps.{most_in_a_row}
use Rattle.apd_debug.proofs.Bridging.{within_goes_on}
use Rattle.apd_divide.specs.Recorded.{tree}
use Rattle.apd_record.specs.Reading.{point_of}
use Rattle.apd_term.specs.declared.tuple.Tuple.{Tuple}
use Rattle.apd_lines.specs.Lines.{line_in}
use Rattle.apd_loop.specs.Loop.{loop_start}
use Rattle.apd_lines.specs.declared.lines.LineRead.{LineRead}
use Rattle.apd_lines.specs.declared.lines.LineRead.TheVariants as lines
use Rattle.apd_ops.specs.Table.{Table}
use Rattle.apd_known.specs.Told.{is_word}
use Rattle.apd_oracle.specs.Replies.{reply_spoken, spoken_of, term_spoken, told, values_spoken}
use Rattle.apd_arith.specs.Truths.{is_ground}
use Rattle.apd_known.specs.Truths.{is_true_if_builtin}
use Rattle.apd_oracle.specs.declared.spoken.Spoken.{Spoken}
use Rattle.apd_oracle.specs.declared.spoken.Spoken.TheVariants as spoken
use Rattle.apd_query.specs.declared.state.LastRun.{LastRun}
use Rattle.apd_query.specs.declared.state.State.{State}
use Rattle.apd_read.specs.Reader.{Reader}
use Rattle.apd_record.specs.Recorded.{Recorded}
use Rattle.apd_symptoms.specs.Chains.{stopped_chain}
use Rattle.apd_symptoms.specs.Symptoms.{exit_of}
use Rattle.apd_symptoms.specs.Unanswered.{unanswered_box}
use Rattle.apd_term.specs.Term.{Term, arguments, predicate_of}
use Rattle.apd_term.specs.declared.standard.TheConstants.{KNOWN, LOOP, MISSING, QUERY, QUIT, STOP, TRACE, WRONG}
use Rattle.apd_term.specs.declared.term.Pred.{Pred}
use Rattle.apd_text.specs.declared.entry.Refusal.{Refusal}
use Rattle.apd_text.specs.declared.entry.Told.TheVariants.{Missing, NoEnd}
use Rattle.apd_session.specs.Causes.{is_quit}
use Rattle.apd_session.specs.Steps.{Method, Situation, Waiting, ForCommand, ForWrong, ForMissing, ForLoop, by_loop, by_missing, by_wrong, carries_on, command_step, first_word, loop_at, loop_step, missing_at, missing_step, reply_said, situation, step_for, talker, wrong_at, wrong_of, wrong_step}

-- what the words that a term may be ask for
query_quits : (r : Result Query BodyFault) → is_quit (query_asked r) ≡ false
query_quits (Err fault) = refl
query_quits (Ok q) = refl

wrong_quits : (b k : Option ℤ) → is_quit (wrong_asked b k) ≡ false
wrong_quits (Some b) (Some k) = refl
wrong_quits (Some b) None = refl
wrong_quits None k = refl

missing_quits : (b : Option ℤ) (a : Option Term) → is_quit (missing_asked b a) ≡ false
missing_quits (Some b) (Some a) = refl
missing_quits (Some b) None = refl
missing_quits None a = refl

trace_quits : (f : Option Filter) → is_quit (trace_asked f) ≡ false
trace_quits (Some f) = refl
trace_quits None = refl

other_quits : (r : Read) (p : Option Pred) (query symptom lack endless filter known : Bool) → is_pred p (QUIT ∕ 0) ≡ false → is_pred p (QUERY ∕ 1) ≡ query → is_pred p (WRONG ∕ 2) ≡ symptom → is_pred p (MISSING ∕ 2) ≡ lack → is_pred p (LOOP ∕ 0) ≡ endless → is_pred p (TRACE ∕ 1) ≡ filter →
    is_pred p (KNOWN ∕ 0) ≡ known → is_quit (term_asked r p) ≡ false
other_quits r p true symptom lack endless filter known other one two three four five six = rw (other, one) (query_quits (query_from r))
other_quits r p false true lack endless filter known other one two three four five six = rw (other, one, two) (wrong_quits (integer_at r.term 0) (integer_at r.term 1))
other_quits r p false false true endless filter known other one two three four five six = rw (other, one, two, three) (missing_quits (integer_at r.term 0) (slice_get (arguments r.term) 1))
other_quits r p false false false true filter known other one two three four five six = rw (other, one, two, three, four) refl
other_quits r p false false false false true known other one two three four five six = rw (other, one, two, three, four, five) (trace_quits (filter_at r.term))
other_quits r p false false false false false true other one two three four five six = rw (other, one, two, three, four, five, six) refl
other_quits r p false false false false false false other one two three four five six = rw (other, one, two, three, four, five, six) refl

asked_quits : (r : Read) (b : Bool) → is_pred (predicate_of r.term) (QUIT ∕ 0) ≡ b → is_quit (term_asked r (predicate_of r.term)) ≡ b
asked_quits r true is = rw is refl
asked_quits r false is = other_quits r (predicate_of r.term) _ _ _ _ _ _ is refl refl refl refl refl refl

-- `stop` isn't `quit`
stop_by : (p : Pred) (b : Bool) → (p.name.0 == STOP.0) ≡ b → (b && (p.arity == 0)) ≡ true → is_pred (Some p) (QUIT ∕ 0) ≡ false
stop_by p true name is = rw (eqb-true p.name.0 STOP.0 name) refl
stop_by p false name is = absurd (cc)

stops_not : (p : Option Pred) → is_pred p (STOP ∕ 0) ≡ true → is_pred p (QUIT ∕ 0) ≡ false
stops_not None is = absurd (cc)
stops_not (Some p) is = stop_by p (p.name.0 == STOP.0) refl is

module _ (ops : Table) (names : List (List ℕ)) (s : State) where
  -- a diagnosis that goes on
  goes_quits : {D E : Type 0} (d : Method D E) (store : Store) (count : ℕ) (x : D) → (carries_on d ops names s store count x).quits ≡ false
  goes_quits d store count x = within_goes_on (first_word s.referee) (d.diagnosis s) (d.found s) (situation d s) ops names most_in_a_row store count (next_turn (d.diagnosis s) store x)

  -- in a command's place
  wrong_at-quits : (R : Recorded) (r : Result ℕ Refusal) → (wrong_at ops names s R r).quits ≡ false
  wrong_at-quits R (Ok e) = goes_quits by_wrong (with_told s.replies (wrong_of R e)) s.asked (tree R e (point_of R e).tuple.head)
  wrong_at-quits R (Err r) = refl

  wrong_step-quits : (last : Option LastRun) (b k : ℤ) → (wrong_step ops names s last b k).quits ≡ false
  wrong_step-quits None b k = refl
  wrong_step-quits (Some run) b k = wrong_at-quits run.history (exit_of run.history b k)

  missing_at-quits : (a : Term) (r : Result ℕ Refusal) → (missing_at ops names s a r).quits ≡ false
  missing_at-quits a (Ok b) = goes_quits by_missing (with_told s.replies (Missing a b)) s.asked (record { box_no = b; goal = a })
  missing_at-quits a (Err r) = refl

  missing_step-quits : (last : Option LastRun) (b : ℤ) (a : Term) → (missing_step ops names s last b a).quits ≡ false
  missing_step-quits None b a = refl
  missing_step-quits (Some run) b a = missing_at-quits a (unanswered_box run.history b a)

  loop_at-quits : (R : Recorded) (r : Result (List ℕ) Refusal) → (loop_at ops names s R r).quits ≡ false
  loop_at-quits R (Ok calls) = goes_quits by_loop (with_told s.replies (NoEnd (length calls))) s.asked (loop_start R calls)
  loop_at-quits R (Err r) = refl

  loop_step-quits : (last : Option LastRun) → (loop_step ops names s last).quits ≡ false
  loop_step-quits None = refl
  loop_step-quits (Some run) = loop_at-quits run.history (stopped_chain run.history run.end)

  command_quits : (c : Command) → (command_step ops names s c).quits ≡ is_quit c
  command_quits command.Nothing = refl
  command_quits command.Quit = refl
  command_quits (command.Refused r) = refl
  command_quits (command.Query q) = refl
  command_quits (command.Wrong b k) = wrong_step-quits s.last b k
  command_quits (command.Missing b a) = missing_step-quits s.last b a
  command_quits command.Loop = loop_step-quits s.last
  command_quits (command.Trace f) = refl
  command_quits command.Known = refl

  -- in a reply's place
  module _ {D E : Type 0} (d : Method D E) (asked : Asked) (next : Reply → D) where
    abbrev quits_to : Spoken → Bool
    quits_to spoken = (reply_said d ops names s asked next spoken).quits

    replied_quits : (r : Reply) → quits_to (spoken.Reply r) ≡ false
    replied_quits r = goes_quits d (with_pair s.replies asked.question r) s.asked (next r)

    values_by : (t : Tuple) (values : List Term) (a b c : Bool) → not (length values == length (unknowns t)) ≡ a → not (list_all is_ground values) ≡ b → not (list_all is_true_if_builtin (with_values t values)) ≡ c → quits_to (values_spoken t values) ≡ false
    values_by t values true b c one two three = rw one refl
    values_by t values false true c one two three = rw (one, two) refl
    values_by t values false false true one two three = rw (one, two, three) refl
    values_by t values false false false one two three = rw (one, two, three) (replied_quits (Values values))

    said_quits : (question : Question) (r : Option Reply) → quits_to (reply_spoken question r) ≡ false
    said_quits question None = refl
    said_quits (True a) (Some r) = replied_quits r
    said_quits (Covers t) (Some Yes) = replied_quits Yes
    said_quits (Covers t) (Some No) = replied_quits No
    said_quits (Covers t) (Some (Values values)) = values_by t values _ _ _ refl refl refl
    said_quits (Covers t) (Some Unknown) = replied_quits Unknown
    said_quits (Below q p) (Some r) = replied_quits r

    word_said : (r : Read) (stop quit : Bool) → is_word r.term STOP ≡ stop → is_word r.term QUIT ≡ quit → quits_to (term_spoken asked r.term) ≡ (if stop then false else quit)
    word_said r true quit one two = rw one refl
    word_said r false true one two = rw (one, two) refl
    word_said r false false one two = rw (one, two) (said_quits asked.question (told asked r.term))

    word_quits : (r : Read) (stop quit : Bool) → is_word r.term STOP ≡ stop → is_word r.term QUIT ≡ quit → quits_to (term_spoken asked r.term) ≡ is_quit (term_asked r (predicate_of r.term))
    word_quits r true quit one two = word_said r true quit one two ∙ sym (asked_quits r false (stops_not (predicate_of r.term) one))
    word_quits r false quit one two = word_said r false quit one two ∙ sym (asked_quits r quit two)

    reply_quits : (line : LineRead) → quits_to (spoken_of asked line) ≡ is_quit (command_of line)
    reply_quits lines.Empty = refl
    reply_quits lines.TooLong = refl
    reply_quits (lines.Bad cause) = refl
    reply_quits (lines.Clause r) = word_quits r _ _ refl refl

step_ends : {names : List (List ℕ)} (reader : Reader names) (ops : Table) (s : State) (mode : Waiting) (line : Line) → (step_for reader ops s mode line).quits ≡ is_quit (command_in reader ops line)
unfolding command_in
step_ends {names} reader ops s ForCommand line = command_quits ops names s (command_of (line_in reader ops line))
step_ends {names} reader ops s (ForWrong asked next) line = reply_quits ops names s by_wrong asked next (line_in reader ops line)
step_ends {names} reader ops s (ForMissing asked next) line = reply_quits ops names s by_missing asked next (line_in reader ops line)
step_ends {names} reader ops s (ForLoop asked next) line = reply_quits ops names s by_loop asked next (line_in reader ops line)

-- a line ends the session exactly where it is `quit.`
pub only_quit_ends : {names : List (List ℕ)} (reader : Reader names) (ops : Table) (s : Situation) (line : Line) → ((talker reader ops).step s line).quits ≡ is_quit (command_in reader ops line)
only_quit_ends reader ops s line = step_ends reader ops s.state s.mode line
