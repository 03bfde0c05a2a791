-- How waiting goes together with the rest of a conversation.
use Rattle.std.proofs.Common.{◌≡◌, ◌≢◌, ℕ, List, [], ◌∷◌, ◌++◌, refl, ap, sym, ◌∙◌, arith, append_assoc, Option, Bool, true, false}
use Rattle.std.proofs.lemmas.List.{append-nil}
use Rattle.apd_io.specs.Outside.{Counted, Left}
use Rattle.apd_console.specs.declared.line.Line.{Line}
use Rattle.apd_console.specs.declared.line.LineEnd.{LineEnd}
use Rattle.apd_console.specs.declared.line.LineEnd.TheVariants as line_ends
use Rattle.apd_talk.specs.declared.talk.Ending.TheVariants.{Done, ReadFault}
use Rattle.apd_talk.specs.declared.talk.Trouble.{Trouble}
use Rattle.apd_talk.specs.declared.talk.Trouble.TheVariants.{Memory}
use Rattle.apd_console.specs.Lines.{InputEnd, Ended, Close, AtEnd, AtFault, AtLimit, hear}
use Rattle.apd_console.specs.Console.{Kept, Hands, HearsLine, HearsEnd, CanFollow, is_read_fault, room_of}
use Rattle.apd_talk.specs.Utterance.{Utterance, Utters, UttersFront}
use Rattle.apd_talk.specs.Talk.{Said, onto, Step, Talker, run, ending_of, Meaning, replies, after_step, Place, at, Talks, CanEnd, Ends, Breaks, close_of}
use Rattle.apd_console.proofs.Bytes.{Hands-more, at_most_one, follows-hands, going_follows}
use Rattle.apd_talk.proofs.Uttering.{Utters-nothing, Utters-more, UttersFront-none, UttersFront-more}
use Rattle.apd_talk.proofs.Talking.{counted_after}
use Rattle.apd_talk.specs.Speech.{is_write_fault}
use Rattle.apd_talk.specs.Awaiting.{Hearing, means, Turn, Again, Then, await, take_turn, after, IsTurn, Awaits, Closes}

-- meanings that agree
abbrev pub Agree : {E : Type 0} → Meaning E → Meaning E → Type 0
Agree f g = (room : ℕ) (input : List ℕ) (ends : InputEnd) → f room input ends ≡ g room input ends

pub Talks-as : {E : Type 0} (f g h : Meaning E) (p q : Place E) → Agree f g → Talks g p q h → Talks f p q h
Talks-as f g h p q same talks = record {
  heard = talks.heard;
  hands = talks.hands;
  on_time = talks.on_time;
  utterances = talks.utterances;
  says = talks.says;
  reads = talks.reads;
  writes = talks.writes;
  shrinks = talks.shrinks;
  goes = λ more ends can. same _ _ _ ∙ talks.goes more ends can;
}

pub Talks-to : {E : Type 0} (f g h : Meaning E) (p q : Place E) → Agree g h → Talks f p q g → Talks f p q h
Talks-to f g h p q same talks = record {
  heard = talks.heard;
  hands = talks.hands;
  on_time = talks.on_time;
  utterances = talks.utterances;
  says = talks.says;
  reads = talks.reads;
  writes = talks.writes;
  shrinks = talks.shrinks;
  goes = λ more ends can. talks.goes more ends can ∙ ap (onto talks.utterances) (same _ _ _);
}

pub Breaks-as : {E : Type 0} (begun : E → E) (f g : Meaning E) (p q : Place E) (t : Trouble) → Agree f g → Breaks begun g p q t → Breaks begun f p q t
Breaks-as begun f g p q t same breaks = record {
  heard = breaks.heard;
  hands = breaks.hands;
  on_time = breaks.on_time;
  utterances = breaks.utterances;
  says = breaks.says;
  way = breaks.way;
  reads = breaks.reads;
  writes = breaks.writes;
  going = breaks.going;
  none_kept = breaks.none_kept;
  breaks_so = λ more ends can. let so = breaks.breaks_so more ends can in (so.0, same _ _ _ ∙ so.1);
}

pub Closes-as : {E : Type 0} (f g : Meaning E) (p q : Place E) (close : Close) (said : Said E) → Agree f g → Closes g p q close said → Closes f p q close said
Closes-as f g p q close said same closes = record {
  heard = closes.heard;
  hands = closes.hands;
  on_time = closes.on_time;
  utterances = closes.utterances;
  says = closes.says;
  reads = closes.reads;
  writes = closes.writes;
  going = closes.going;
  none_kept = closes.none_kept;
  closes_so = λ more ends can. same _ _ _ ∙ closes.closes_so more ends can;
}

onto-onto : {E : Type 0} (us vs : List (Utterance E)) (said : Said E) → onto us (onto vs said) ≡ onto (us ++ vs) said
onto-onto us vs said = rw (append_assoc us vs said.utterances) refl

-- what may follow a close may follow, with what was heard till then, what came before
can_close : (k l : Kept) (x y : Left) (heard more : List ℕ) (ends : InputEnd) (close : Close) → Hands k l x y heard → (close ≡ AtFault → l.ended ≡ false) → CanEnd (ending_of close) l.ended more ends → CanFollow k.ended (heard ++ more) ends
can_close k l x y heard more ends AtFault hands going can = going_follows k l x y heard more ends hands (going refl)
can_close k l x y heard more ends AtEnd hands going can = follows-hands k l x y heard more ends hands can
can_close k l x y heard more ends AtLimit hands going can = follows-hands k l x y heard more ends hands can

pub Closes-more : {E : Type 0} (f g : Meaning E) (p q r : Place E) (close : Close) (said : Said E) → Talks f p q g → Closes g q r close said → Closes f p r close said
Closes-more f g p q r close said first second = record {
  heard = first.heard ++ second.heard;
  hands = Hands-more p.console q.console r.console p.left q.left r.left first.heard second.heard first.hands second.hands;
  on_time = λ h. second.on_time (first.on_time h);
  utterances = first.utterances ++ second.utterances;
  says = Utters-more p.log q.log r.log p.held q.held r.held first.utterances second.utterances first.says second.says;
  reads = counted_after _ _ _ _ first.reads second.reads;
  writes = second.writes ∙ first.writes;
  going = second.going;
  none_kept = second.none_kept;
  closes_so = λ more ends can.
      rw (append_assoc first.heard second.heard more)
      (first.goes (second.heard ++ more) ends (can_close q.console r.console q.left r.left second.heard more ends close second.hands second.going can)
      ∙ ap (onto first.utterances) (second.closes_so more ends can) ∙ onto-onto first.utterances second.utterances said);
}

fault_close : (close : Close) → ending_of close ≡ ReadFault → close ≡ AtFault
fault_close AtEnd is = absurd (cc)
fault_close AtFault is = refl
fault_close AtLimit is = absurd (cc)

-- saying what there is to say where no line is left
pub Ends-closed : {E : Type 0} (f : Meaning E) (p q : Place E) (log : List E) (held : Option (List ℕ)) (writes : ℕ) (close : Close) (us : List (Utterance E)) → Closes f p q close (record { utterances = us; ending = ending_of close }) →
    Utters q.log log q.held held us → writes ≡ q.write_faults → Ends f p (at q.console q.left q.read_faults log held writes) (ending_of close)
Ends-closed f p q log held writes close us closed says same = record {
  heard = closed.heard;
  hands = closed.hands;
  on_time = closed.on_time;
  utterances = closed.utterances ++ us;
  says = Utters-more p.log q.log log p.held q.held held closed.utterances us closed.says says;
  reads = closed.reads;
  writes = same ∙ closed.writes;
  going = λ is. closed.going (fault_close close is);
  none_kept = λ is. closed.none_kept (fault_close close is);
  ends_so = λ more ends can. closed.closes_so more ends can;
}

pub Breaks-closed : {E : Type 0} (begun : E → E) (f : Meaning E) (p q : Place E) (log : List E) (held : Option (List ℕ)) (writes : ℕ) (close : Close) (us : List (Utterance E)) (t : Trouble) → Closes f p q close (record { utterances = us; ending = ending_of close }) →
    UttersFront begun q.log log q.held held us → Counted (is_write_fault t) q.write_faults writes → Breaks begun f p (at q.console q.left q.read_faults log held writes) t
Breaks-closed begun f p q log held writes close us t closed says counts = record {
  heard = closed.heard;
  hands = closed.hands;
  on_time = closed.on_time;
  utterances = closed.utterances ++ us;
  says = UttersFront-more begun p.log q.log log p.held q.held held closed.utterances us closed.says says;
  way = ending_of close;
  reads = closed.reads;
  writes = counted_after _ _ _ _ closed.writes counts;
  going = λ is. closed.going (fault_close close is);
  none_kept = λ is. closed.none_kept (fault_close close is);
  breaks_so = λ more ends can. (record { utterances = []; ending = ending_of close }, closed.closes_so more ends can ∙ rw (append-nil (closed.utterances ++ us)) refl);
}

-- a line after which the question stands
pub Talks-again : {E : Type 0} (turn : Line → Turn E) (closed : Close → Said E) (line : Line) (us : List (Utterance E)) (k l : Kept) (x y : Left) (z w : Option (List ℕ)) (a b c d : ℕ) (log log_now : List E) →
    HearsLine k l x y line → b ≡ a → turn line ≡ Again us → Utters log log_now z w us → d ≡ c →
    Talks (means (await turn closed)) (at k x a log z c) (at l y b log_now w d) (means (await turn closed))
unfolding means
Talks-again turn closed line us k l x y z w a b c d log log_now hears reads is says writes = record {
  heard = hears.heard;
  hands = hears.hands;
  on_time = hears.on_time;
  utterances = us;
  says = says;
  reads = reads;
  writes = writes;
  shrinks = let less = hears.goes_on in omega (arith, less);
  goes = λ more ends can. rw (hears.first more ends can, is) refl;
}

-- a line after which it doesn't
pub Talks-then : {E : Type 0} (turn : Line → Turn E) (closed : Close → Said E) (line : Line) (h : Hearing E) (k l : Kept) (x y : Left) (z : Option (List ℕ)) (a b c : ℕ) (log : List E) →
    HearsLine k l x y line → b ≡ a → turn line ≡ Then h → Talks (means (await turn closed)) (at k x a log z c) (at l y b log z c) (means h)
unfolding means
Talks-then turn closed line h k l x y z a b c log hears reads is = record {
  heard = hears.heard;
  hands = hears.hands;
  on_time = hears.on_time;
  utterances = [];
  says = Utters-nothing log z;
  reads = reads;
  writes = refl;
  shrinks = let less = hears.goes_on in omega (arith, less);
  goes = λ more ends can. rw (hears.first more ends can, is) refl;
}

-- a line whose turn breaks off
pub Breaks-again : {E : Type 0} (begun : E → E) (turn : Line → Turn E) (closed : Close → Said E) (line : Line) (us : List (Utterance E)) (k l : Kept) (x y : Left) (z w : Option (List ℕ)) (a b c d : ℕ) (log log_now : List E) (t : Trouble) →
    HearsLine k l x y line → b ≡ a → turn line ≡ Again us → UttersFront begun log log_now z w us → Counted (is_write_fault t) c d →
    Breaks begun (means (await turn closed)) (at k x a log z c) (at l y b log_now w d) t
unfolding means
Breaks-again begun turn closed line us k l x y z w a b c d log log_now t hears reads is says writes = record {
  heard = hears.heard;
  hands = hears.hands;
  on_time = λ h. at_most_one l y (hears.on_time h);
  utterances = us;
  says = says;
  way = Done;
  reads = reads;
  writes = writes;
  going = λ is. absurd (cc);
  none_kept = λ is. absurd (cc);
  breaks_so = λ more ends can. (await turn closed (hear (room_of l) more ends).lines (hear (room_of l) more ends).close, rw (hears.first more ends can, is) refl);
}

-- nothing was said any more
pub Breaks-line-here : {E : Type 0} (begun : E → E) (f : Meaning E) (line : Line) (k l : Kept) (x y : Left) (z : Option (List ℕ)) (a b c : ℕ) (log : List E) → HearsLine k l x y line → b ≡ a →
    Breaks begun f (at k x a log z c) (at l y b log z c) Memory
Breaks-line-here begun f line k l x y z a b c log hears reads = record {
  heard = hears.heard;
  hands = hears.hands;
  on_time = λ h. at_most_one l y (hears.on_time h);
  utterances = [];
  says = UttersFront-none begun log log z [] refl;
  way = Done;
  reads = reads;
  writes = refl;
  going = λ is. absurd (cc);
  none_kept = λ is. absurd (cc);
  breaks_so = λ more ends can. (_, refl);
}

pub Breaks-end-here : {E : Type 0} (begun : E → E) (f : Meaning E) (k l : Kept) (x y : Left) (z : Option (List ℕ)) (a b c : ℕ) (log : List E) → HearsEnd k l x y line_ends.Memory → b ≡ a →
    Breaks begun f (at k x a log z c) (at l y b log z c) Memory
Breaks-end-here begun f k l x y z a b c log hears reads = record {
  heard = hears.heard;
  hands = hears.hands;
  on_time = hears.on_time;
  utterances = [];
  says = UttersFront-none begun log log z [] refl;
  way = Done;
  reads = reads;
  writes = refl;
  going = λ is. absurd (cc);
  none_kept = λ is. absurd (cc);
  breaks_so = λ more ends can. (_, refl);
}

-- no line is heard
pub Closes-hear : {E : Type 0} (turn : Line → Turn E) (closed : Close → Said E) (e : LineEnd) (k l : Kept) (x y : Left) (z : Option (List ℕ)) (a b c : ℕ) (log : List E) → HearsEnd k l x y e → Counted (is_read_fault e) a b →
    e ≢ line_ends.Memory → Closes (means (await turn closed)) (at k x a log z c) (at l y b log z c) (close_of e) (closed (close_of e))
unfolding means
Closes-hear turn closed line_ends.Ended k l x y z a b c log hears reads not = record {
  heard = hears.heard;
  hands = hears.hands;
  on_time = hears.on_time;
  utterances = [];
  says = Utters-nothing log z;
  reads = reads;
  writes = refl;
  going = λ is. absurd (cc);
  none_kept = λ is. absurd (cc);
  closes_so = λ more ends can.
      let follows : (more ≡ []) × (ends ≡ Ended) = rw hears.is.0 at can in
      rw (follows.0, follows.1, append-nil hears.heard, hears.is.2) refl;
}
Closes-hear turn closed line_ends.ReadFault k l x y z a b c log hears reads not = record {
  heard = hears.heard;
  hands = hears.hands;
  on_time = hears.on_time;
  utterances = [];
  says = Utters-nothing log z;
  reads = reads;
  writes = refl;
  going = λ is. hears.is.0;
  none_kept = λ is. hears.is.1;
  closes_so = λ more ends can. rw (can.0, can.1, append-nil hears.heard, hears.is.2) refl;
}
Closes-hear turn closed line_ends.InputLimit k l x y z a b c log hears reads not = record {
  heard = hears.heard;
  hands = hears.hands;
  on_time = hears.on_time;
  utterances = [];
  says = Utters-nothing log z;
  reads = reads;
  writes = refl;
  going = λ is. absurd (cc);
  none_kept = λ is. absurd (cc);
  closes_so = λ more ends can. rw (hears.is more ends) refl;
}
Closes-hear turn closed line_ends.Memory k l x y z a b c log hears reads not = absurd (not refl)

-- what a talker means, by lines
pub replies_means : {E S : Type 0} (talker : Talker E S) (s : S) → Agree (replies talker s) (means (run talker s))
unfolding replies means
replies_means talker s room input ends = refl

after_means_by : {E S : Type 0} (talker : Talker E S) (st : Step E S) (room : ℕ) (input : List ℕ) (ends : InputEnd) (q : Bool) → st.quits ≡ q → after_step talker st room input ends ≡ means (after talker st) room input ends
unfolding replies means
after_means_by talker st room input ends true is = rw is refl
after_means_by talker st room input ends false is = rw is refl

pub after_means : {E S : Type 0} (talker : Talker E S) (st : Step E S) → Agree (after_step talker st) (means (after talker st))
after_means talker st room input ends = after_means_by talker st room input ends st.quits refl

-- hearings that agree
pub means_same : {E : Type 0} (h i : Hearing E) → ((lines : List Line) (close : Close) → h lines close ≡ i lines close) → Agree (means h) (means i)
unfolding means
means_same h i same room input ends = same _ _

-- a talker that takes the turns of a question that waits
turn_taken : {E S : Type 0} (talker : Talker E S) (s : S) (st : Step E S) (t : Turn E) (stands : Said E) (lines : List Line) (close : Close) → IsTurn talker s st t → run talker s lines close ≡ stands →
    after talker st lines close ≡ take_turn t stands lines close
turn_taken talker s st (Again us) stands lines close is same = rw is (ap (onto us) same)
turn_taken talker s st (Then h) stands lines close is same = is lines close

pub awaits : {E S : Type 0} (talker : Talker E S) (s : S) (turn : Line → Turn E) (closed : Close → Said E) → Awaits talker s turn closed → (lines : List Line) (close : Close) → run talker s lines close ≡ await turn closed lines close
awaits talker s turn closed waits [] close = sym (waits.closes close)
awaits talker s turn closed waits (line ∷ lines) close = turn_taken talker s (talker.step s line) (turn line) (await turn closed lines close) lines close (waits.turns line) (awaits talker s turn closed waits lines close)
