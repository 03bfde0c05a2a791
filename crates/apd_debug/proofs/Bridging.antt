-- Where a question of a diagnosis waits, the lines are what they are where it is asked.
use Rattle.std.proofs.Common.{◌≡◌, ℕ, zero, suc, List, [], ◌∷◌, refl, ap, sym, ◌∙◌, subst, append_assoc, Bool, true, false, Option, None, Some}
use Rattle.std.specs.Prelude.{Err}
use Rattle.apd_answers.specs.Dialogue.{Diagnosis, Turn, asks, goes, ends, next_turn}
use Rattle.apd_answers.specs.Store.{Store, with_pair}
use Rattle.apd_answers.specs.declared.question.Asked.{Asked}
use Rattle.apd_answers.specs.declared.question.Reply.{Reply}
use Rattle.apd_answers.specs.declared.oracle.AskEnd.{AskEnd}
use Rattle.apd_answers.specs.declared.oracle.AskEnd.TheVariants as ask_ends
use Rattle.apd_console.specs.Lines.{InputEnd}
use Rattle.apd_console.specs.declared.line.Line.{Line}
use Rattle.apd_console.specs.Console.{room_of}
use Rattle.apd_console.proofs.Bytes.{Hands-self, at_most_one}
use Rattle.apd_debug.specs.Diagnosed.{Diagnosed}
use Rattle.apd_debug.specs.Hearing.{HearsReplies, afterwards, is_quit}
use Rattle.apd_debug.specs.Stand.{Stand, asking}
use Rattle.apd_debug.specs.Steps.{after_turn, goes_within, left_off, most_in_a_row, referred_then, replied_then, reply_step, says_before, turn_within, unanswered}
use Rattle.apd_lines.specs.Lines.{line_in}
use Rattle.apd_ops.specs.Table.{Table}
use Rattle.apd_base.specs.Counts.{risen}
use Rattle.apd_oracle.specs.Dialogue.{Hears}
use Rattle.apd_oracle.specs.Replies.{spoken_of}
use Rattle.apd_oracle.specs.Waiting.{Afterwards, Replies, answering, asking as asked_first, turn_at, turn_of, waiting}
use Rattle.apd_oracle.specs.declared.spoken.Spoken.{Spoken}
use Rattle.apd_oracle.specs.declared.spoken.Spoken.TheVariants as spoken
use Rattle.apd_read.specs.Reader.{Reader}
use Rattle.apd_talk.specs.Awaiting.{Awaits, after, Hearing, IsTurn, means, says_first}
use Rattle.apd_talk.specs.Speech.{begun, plain}
use Rattle.apd_talk.specs.Talk.{Breaks, Meaning, Place, Step, Talker, Talks, after_step, onto, replies, run}
use Rattle.apd_talk.specs.Utterance.{Utterance}
use Rattle.apd_talk.specs.declared.talk.Ending.TheVariants.{Done}
use Rattle.apd_talk.specs.declared.talk.Trouble.TheVariants as troubles
use Rattle.apd_talk.proofs.Awaiting.{Agree, Breaks-as, Closes-as, Closes-more, Talks-as, Talks-to, after_means, awaits, means_same, replies_means}
use Rattle.apd_talk.proofs.Talking.{Breaks-more, Talks-more}
use Rattle.apd_talk.proofs.Uttering.{UttersFront-none}
use Rattle.apd_text.specs.declared.entry.Entry.{Entry}
use Rattle.apd_text.specs.declared.entry.Entry.TheVariants as entry

first_said : (us : List (Utterance Entry)) (h : Hearing Entry) (room : ℕ) (more : List ℕ) (over : InputEnd) → means (says_first us h) room more over ≡ onto us (means h room more over)
unfolding means
first_said us h room more over = refl

-- what is said before a step
before_by : {S : Type 0} (talker : Talker Entry S) (us : List (Utterance Entry)) (st : Step Entry S) (room : ℕ) (input : List ℕ) (over : InputEnd) (q : Bool) → st.quits ≡ q →
    after_step talker (says_before us st) room input over ≡ onto us (after_step talker st room input over)
before_by talker us st room input over true is = rw is refl
before_by talker us st room input over false is = rw (is, append_assoc us st.utterances (replies talker st.next room input over).utterances) refl

pub before : {S : Type 0} (talker : Talker Entry S) (us : List (Utterance Entry)) (st : Step Entry S) (room : ℕ) (input : List ℕ) (over : InputEnd) →
    after_step talker (says_before us st) room input over ≡ onto us (after_step talker st room input over)
before talker us st room input over = before_by talker us st room input over st.quits refl

-- a diagnosis that goes on doesn't quit
module _ {S D E : Type 0} (replies : Replies) (d : Diagnosis D E) (found : E → Entry) (state : Stand D → S) (ops : Table) (names : List (List ℕ)) where
  left_goes_on : (store : Store) (count : ℕ) (asked : Asked) (next : Reply → D) (o : Option Reply) → (left_off replies d found state ops names store count asked next o).quits ≡ false
  left_goes_on store count asked next None = refl
  left_goes_on store count asked next (Some r) = refl

  pub within_goes_on : (k : ℕ) (store : Store) (count : ℕ) (turn : Turn D E) → (turn_within replies d found state ops names k store count turn).quits ≡ false
  within_goes_on zero store count (goes t) = refl
  within_goes_on zero store count (ends e) = refl
  within_goes_on zero store count (asks asked next) = left_goes_on store count asked next (replies.to asked.question)
  within_goes_on (suc k) store count (goes t) = refl
  within_goes_on (suc k) store count (ends e) = refl
  within_goes_on (suc k) store count (asks asked next) = by (replies.to asked.question) (λ r. within_goes_on k (with_pair store asked.question r) (risen count) (next_turn d (with_pair store asked.question r) (next r)))
    where
      by : (o : Option Reply) → ((r : Reply) → (turn_within replies d found state ops names k (with_pair store asked.question r) (risen count) (next_turn d (with_pair store asked.question r) (next r))).quits ≡ false) →
          (referred_then replies d found state ops names (goes_within replies d found state ops names k) store count asked next o).quits ≡ false
      by None rest = refl
      by (Some r) rest = rest r

module _ {S D E : Type 0} (replies : Replies) (d : Diagnosis D E) (found : E → Entry) (state : Stand D → S) {names : List (List ℕ)} (reader : Reader names) (ops : Table) (talker : Talker Entry S)
    (hears : HearsReplies replies d found state reader ops talker) where
  -- what comes after a question
  abbrev later : ℕ → Store → ℕ → Asked → (Reply → D) → Afterwards
  later = afterwards replies d found state reader ops talker

  -- a line in a reply's place is a turn
  is_turn : (k : ℕ) (store : Store) (count : ℕ) (asked : Asked) (next : Reply → D) (said : Spoken) →
      IsTurn talker (state (asking store count asked next)) (reply_step replies d found state ops names store count asked next said) (turn_of ops names (later k store count asked next) said)
  is_turn k store count asked next spoken.Nothing = refl
  is_turn k store count asked next (spoken.Reply r) = λ lines close. refl
  is_turn k store count asked next spoken.Stop = λ lines close. refl
  is_turn k store count asked next spoken.Quit = λ lines close. refl
  is_turn k store count asked next (spoken.Bad reason) = refl

  pub waits : (k : ℕ) (store : Store) (count : ℕ) (asked : Asked) (next : Reply → D) →
      Awaits talker (state (asking store count asked next)) (turn_at asked ops names reader (later k store count asked next)) (later k store count asked next).closed
  waits k store count asked next = record {
    turns = λ line.
        subst (λ (st : Step Entry S). IsTurn talker (state (asking store count asked next)) st (turn_at asked ops names reader (later k store count asked next) line))
        (sym (hears.steps store count asked next line)) (is_turn k store count asked next (spoken_of asked (line_in reader ops line)));
    closes = λ close. rw (hears.closes store count asked next close) refl;
  }

  -- a question that waits
  waits_so : (k : ℕ) (store : Store) (count : ℕ) (asked : Asked) (next : Reply → D) →
      Agree (after_step talker (after_turn d found state ops names store count (asks asked next)))
      (means (says_first (plain ops names (entry.Question (risen count) asked) ∷ []) (waiting asked ops names reader (later k store (risen count) asked next))))
  waits_so k store count asked next room input over =
      let us : List (Utterance Entry) = plain ops names (entry.Question (risen count) asked) ∷ [] in
      let s : S = state (asking store (risen count) asked next) in
      let h : Hearing Entry = waiting asked ops names reader (later k store (risen count) asked next) in
      ap (onto us)
      (replies_means talker s room input over ∙ means_same (run talker s) h (awaits talker s _ _ (waits k store (risen count) asked next)) room input over)
      ∙ sym (first_said us h room input over)

  -- a question and the reply that there is to it
  refers_so : (k : ℕ) (store : Store) (count : ℕ) (asked : Asked) (next : Reply → D) (o : Option Reply) →
      Agree (after_step talker (referred_then replies d found state ops names (goes_within replies d found state ops names k) store count asked next o))
      (means (says_first (plain ops names (entry.Question (risen count) asked) ∷ []) (answering o asked ops names reader (later k store (risen count) asked next))))
  refers_so k store count asked next None room input over = waits_so k store count asked next room input over
  refers_so k store count asked next (Some r) room input over =
      let us : List (Utterance Entry) = plain ops names (entry.Question (risen count) asked) ∷ [] in
      let st : Step Entry S = replied_then replies d found state ops names (goes_within replies d found state ops names k) replies.marked store (risen count) asked next r in
      before talker us st room input over
      ∙ ap (onto us) (after_means talker st room input over)
      ∙ sym (first_said us (after talker st) room input over)

  -- a conversation that says a question is where the question is asked
  pub asks_so : (k : ℕ) (store : Store) (count : ℕ) (asked : Asked) (next : Reply → D) →
      Agree (after_step talker (turn_within replies d found state ops names (suc k) store count (asks asked next)))
      (means (asked_first replies.to (risen count) asked ops names reader (later k store (risen count) asked next)))
  asks_so k store count asked next room input over = refers_so k store count asked next (replies.to asked.question) room input over

  -- in a reply's place a step quits exactly where the line is `quit.`
  quits_by : (store : Store) (count : ℕ) (asked : Asked) (next : Reply → D) (said : Spoken) → (reply_step replies d found state ops names store count asked next said).quits ≡ is_quit said
  quits_by store count asked next spoken.Nothing = refl
  quits_by store count asked next (spoken.Reply r) = within_goes_on replies d found state ops names most_in_a_row (with_pair store asked.question r) count (next_turn d (with_pair store asked.question r) (next r))
  quits_by store count asked next spoken.Stop = refl
  quits_by store count asked next spoken.Quit = refl
  quits_by store count asked next (spoken.Bad reason) = refl

  pub only_quit : (store : Store) (count : ℕ) (asked : Asked) (next : Reply → D) (line : Line) →
      (talker.step (state (asking store count asked next)) line).quits ≡ is_quit (spoken_of asked (line_in reader ops line))
  only_quit store count asked next line = rw (hears.steps store count asked next line) (quits_by store count asked next (spoken_of asked (line_in reader ops line)))

module _ {S D E : Type 0} (d : Diagnosis D E) (found : E → Entry) (state : Stand D → S) (ops : Table) (names : List (List ℕ)) (talker : Talker Entry S) where
  pub Diagnosed-as : (f g : Meaning Entry) (p q : Place Entry) (store : Store) (count : ℕ) (end : AskEnd) → Agree f g → Diagnosed d found state ops names talker g p q store count (Err end) → Diagnosed d found state ops names talker f p q store count (Err end)
  Diagnosed-as f g p q store count ask_ends.Stopped same so = Talks-as f g _ p q same so
  Diagnosed-as f g p q store count ask_ends.Quit same so = Talks-as f g _ p q same so
  Diagnosed-as f g p q store count ask_ends.Ended same so = Closes-as f g p q _ _ same so
  Diagnosed-as f g p q store count ask_ends.ReadFault same so = Closes-as f g p q _ _ same so
  Diagnosed-as f g p q store count ask_ends.InputLimit same so = Closes-as f g p q _ _ same so
  Diagnosed-as f g p q store count ask_ends.WriteFault same so = Breaks-as begun f g p q _ same so
  Diagnosed-as f g p q store count ask_ends.Memory same so = Breaks-as begun f g p q _ same so

  pub Diagnosed-more : (f g : Meaning Entry) (p q r : Place Entry) (store : Store) (count : ℕ) (end : AskEnd) → Talks f p q g → Diagnosed d found state ops names talker g q r store count (Err end) → Diagnosed d found state ops names talker f p r store count (Err end)
  Diagnosed-more f g p q r store count ask_ends.Stopped first second = Talks-more f g _ p q r first second
  Diagnosed-more f g p q r store count ask_ends.Quit first second = Talks-more f g _ p q r first second
  Diagnosed-more f g p q r store count ask_ends.Ended first second = Closes-more f g p q r _ _ first second
  Diagnosed-more f g p q r store count ask_ends.ReadFault first second = Closes-more f g p q r _ _ first second
  Diagnosed-more f g p q r store count ask_ends.InputLimit first second = Closes-more f g p q r _ _ first second
  Diagnosed-more f g p q r store count ask_ends.WriteFault first second = Breaks-more begun f g p q r _ first second
  Diagnosed-more f g p q r store count ask_ends.Memory first second = Breaks-more begun f g p q r _ first second

module _ {S D E : Type 0} (replies : Replies) (d : Diagnosis D E) (found : E → Entry) (state : Stand D → S) {names : List (List ℕ)} (reader : Reader names) (ops : Table) (talker : Talker Entry S) where
  -- the step after a word, and what the lines behind it mean
  meant : (start : Meaning Entry) (p q : Place Entry) (st : Step Entry S) → Talks start p q (means (after talker st)) → Talks start p q (after_step talker st)
  meant start p q st talks = Talks-to start _ _ p q (λ room input over. sym (after_means talker st room input over)) talks

  -- a call that answers no reply ends the diagnosis
  pub ended_so : (k : ℕ) (start : Meaning Entry) (p q : Place Entry) (store : Store) (count : ℕ) (asked : Asked) (next : Reply → D) (end : AskEnd) →
      Hears start p q (afterwards replies d found state reader ops talker k store count asked next) (Err end) → Diagnosed d found state ops names talker start p q store count (Err end)
  ended_so k start p q store count asked next ask_ends.Stopped hears = meant start p q (unanswered d found state ops names store count false) hears
  ended_so k start p q store count asked next ask_ends.Quit hears = meant start p q (unanswered d found state ops names store count true) hears
  ended_so k start p q store count asked next ask_ends.Ended hears = hears
  ended_so k start p q store count asked next ask_ends.ReadFault hears = hears
  ended_so k start p q store count asked next ask_ends.InputLimit hears = hears
  ended_so k start p q store count asked next ask_ends.WriteFault hears = hears
  ended_so k start p q store count asked next ask_ends.Memory hears = hears

-- nothing more was said
pub broke_here : (f : Meaning Entry) (p : Place Entry) → Breaks begun f p p troubles.Memory
broke_here f p = record {
  heard = [];
  hands = Hands-self p.console p.left;
  on_time = λ h. at_most_one p.console p.left h;
  utterances = [];
  says = UttersFront-none begun p.log p.log p.held [] refl;
  way = Done;
  reads = refl;
  writes = refl;
  going = λ is. absurd (cc);
  none_kept = λ is. absurd (cc);
  breaks_so = λ more over can. (f (room_of p.console) more over, refl);
}
