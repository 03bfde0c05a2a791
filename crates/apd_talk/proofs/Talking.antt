-- How parts of a conversation go together.
use Rattle.std.proofs.Common.{◌≡◌, ◌≢◌, ℕ, List, [], ◌++◌, refl, ap, subst, ◌∙◌, arith, append_assoc, Option, Bool, true, false}
use Rattle.std.proofs.lemmas.List.{append-nil}
use Rattle.std.specs.Prelude.{Result, Ok, Err, MatchResult}
use Rattle.apd_io.specs.Outside.{Counted, Left}
use Rattle.apd_console.specs.declared.line.Line.{Line}
use Rattle.apd_console.specs.declared.line.LineEnd.{LineEnd}
use Rattle.apd_console.specs.declared.line.LineEnd.TheVariants as line_ends
use Rattle.apd_talk.specs.declared.talk.Ending.{Ending}
use Rattle.apd_talk.specs.declared.talk.Ending.TheVariants.{Done, ReadFault, InputLimit}
use Rattle.apd_talk.specs.declared.talk.Trouble.{Trouble}
use Rattle.apd_talk.specs.declared.talk.Next.{Next}
use Rattle.apd_talk.specs.declared.talk.Next.TheVariants as nexts
use Rattle.apd_console.specs.Lines.{InputEnd, Ended, AtEnd, AtFault, AtLimit}
use Rattle.apd_console.specs.Console.{Kept, Hands, HearsLine, HearsEnd, CanFollow, is_read_fault, room_of}
use Rattle.apd_talk.specs.Utterance.{Utterance, Utters, UttersFront}
use Rattle.apd_talk.specs.Talk.{Said, onto, Step, Talker, ending_of, Meaning, replies, after_step, Place, at, Talks, CanEnd, Ends, Breaks, Continues, close_of}
use Rattle.apd_talk.specs.Speech.{is_write_fault}
use Rattle.apd_console.proofs.Bytes.{Hands-self, Hands-more, at_most_one, follows-hands, going_follows}
use Rattle.apd_talk.proofs.Uttering.{Utters-nothing, Utters-more, UttersFront-none, UttersFront-more}

-- a count over two parts, where nothing failed in the first
pub counted_after : (b : Bool) (x y z : ℕ) → y ≡ x → Counted b y z → Counted b x z
counted_after b x y z same counted = subst (λ (n : ℕ). Counted b n z) same counted

onto-onto : {E : Type 0} (us vs : List (Utterance E)) (said : Said E) → onto us (onto vs said) ≡ onto (us ++ vs) said
onto-onto us vs said = rw (append_assoc us vs said.utterances) refl

-- nothing happens
pub Talks-self : {E : Type 0} (f : Meaning E) (p : Place E) → Talks f p p f
Talks-self f p = record {
  heard = [];
  hands = Hands-self p.console p.left;
  on_time = λ h. h;
  utterances = [];
  says = Utters-nothing p.log p.held;
  reads = refl;
  writes = refl;
  shrinks = omega arith;
  goes = λ more ends can. refl;
}

-- one part after another
pub Talks-more : {E : Type 0} (f g h : Meaning E) (p q r : Place E) → Talks f p q g → Talks g q r h → Talks f p r h
Talks-more f g h p q r first second = record {
  heard = first.heard ++ second.heard;
  hands = Hands-more p.console q.console r.console p.left q.left r.left first.heard second.heard first.hands second.hands;
  on_time = λ h. second.on_time (first.on_time h);
  utterances = first.utterances ++ second.utterances;
  says = Utters-more p.log q.log r.log p.held q.held r.held first.utterances second.utterances first.says second.says;
  reads = second.reads ∙ first.reads;
  writes = second.writes ∙ first.writes;
  shrinks = omega (arith, first.shrinks, second.shrinks);
  goes = λ more ends can.
      rw (append_assoc first.heard second.heard more)
      (first.goes (second.heard ++ more) ends (follows-hands q.console r.console q.left r.left second.heard more ends second.hands can)
      ∙ ap (onto first.utterances) (second.goes more ends can) ∙ onto-onto first.utterances second.utterances _);
}

-- what may follow an end may follow, with what was heard till then, what came before
can_end : (k l : Kept) (x y : Left) (heard more : List ℕ) (ends : InputEnd) (ending : Ending) → Hands k l x y heard → (ending ≡ ReadFault → l.ended ≡ false) → CanEnd ending l.ended more ends → CanFollow k.ended (heard ++ more) ends
can_end k l x y heard more ends ReadFault hands going can = going_follows k l x y heard more ends hands (going refl)
can_end k l x y heard more ends Done hands going can = follows-hands k l x y heard more ends hands can
can_end k l x y heard more ends InputLimit hands going can = follows-hands k l x y heard more ends hands can

pub Ends-more : {E : Type 0} (f g : Meaning E) (p q r : Place E) (ending : Ending) → Talks f p q g → Ends g q r ending → Ends f p r ending
Ends-more f g p q r ending first second = record {
  heard = first.heard ++ second.heard;
  hands = Hands-more p.console q.console r.console p.left q.left r.left first.heard second.heard first.hands second.hands;
  on_time = λ h. second.on_time (first.on_time h);
  utterances = first.utterances ++ second.utterances;
  says = Utters-more p.log q.log r.log p.held q.held r.held first.utterances second.utterances first.says second.says;
  reads = counted_after _ _ _ _ first.reads second.reads;
  writes = second.writes ∙ first.writes;
  going = second.going;
  none_kept = second.none_kept;
  ends_so = λ more ends can.
      rw (append_assoc first.heard second.heard more)
      (first.goes (second.heard ++ more) ends (can_end q.console r.console q.left r.left second.heard more ends ending second.hands second.going can)
      ∙ ap (onto first.utterances) (second.ends_so more ends can));
}

pub Breaks-more : {E : Type 0} (begun : E → E) (f g : Meaning E) (p q r : Place E) (t : Trouble) → Talks f p q g → Breaks begun g q r t → Breaks begun f p r t
Breaks-more begun f g p q r t first second = record {
  heard = first.heard ++ second.heard;
  hands = Hands-more p.console q.console r.console p.left q.left r.left first.heard second.heard first.hands second.hands;
  on_time = λ h. second.on_time (first.on_time h);
  utterances = first.utterances ++ second.utterances;
  says = UttersFront-more begun p.log q.log r.log p.held q.held r.held first.utterances second.utterances first.says second.says;
  way = second.way;
  reads = counted_after _ _ _ _ first.reads second.reads;
  writes = counted_after _ _ _ _ first.writes second.writes;
  going = second.going;
  none_kept = second.none_kept;
  breaks_so = λ more ends can.
      let rest = second.breaks_so more ends can in (
        rest.0,
        rw (append_assoc first.heard second.heard more)
            (first.goes (second.heard ++ more) ends (can_end q.console r.console q.left r.left second.heard more ends second.way second.hands second.going can)
            ∙ ap (onto first.utterances) rest.1 ∙ onto-onto first.utterances second.utterances rest.0),
      );
}

pub Continues-more : {E : Type 0} (f g h : Meaning E) (p q r : Place E) (n : Next) → Talks f p q g → Continues g q r h n → Continues f p r h n
Continues-more f g h p q r nexts.Goes first second = Talks-more f g h p q r first second
Continues-more f g h p q r (nexts.Ends ending) first second = Ends-more f g p q r ending first second

-- saying something
pub Talks-say : {E : Type 0} (f g : Meaning E) (k : Kept) (x : Left) (y z : Option (List ℕ)) (a b c : ℕ) (log log_now : List E) (us : List (Utterance E)) →
    Utters log log_now y z us → c ≡ b → ((room : ℕ) (more : List ℕ) (ends : InputEnd) → f room more ends ≡ onto us (g room more ends)) →
    Talks f (at k x a log y b) (at k x a log_now z c) g
Talks-say f g k x y z a b c log log_now us says same means = record {
  heard = [];
  hands = Hands-self k x;
  on_time = λ h. h;
  utterances = us;
  says = says;
  reads = refl;
  writes = same;
  shrinks = omega arith;
  goes = λ more ends can. means (room_of k) more ends;
}

pub Ends-say : {E : Type 0} (f : Meaning E) (k : Kept) (x : Left) (y z : Option (List ℕ)) (a b c : ℕ) (log log_now : List E) (us : List (Utterance E)) →
    Utters log log_now y z us → c ≡ b → ((room : ℕ) (more : List ℕ) (ends : InputEnd) → f room more ends ≡ record { utterances = us; ending = Done }) →
    Ends f (at k x a log y b) (at k x a log_now z c) Done
Ends-say f k x y z a b c log log_now us says same means = record {
  heard = [];
  hands = Hands-self k x;
  on_time = λ h. at_most_one k x h;
  utterances = us;
  says = says;
  reads = refl;
  writes = same;
  going = λ is. absurd (cc);
  none_kept = λ is. absurd (cc);
  ends_so = λ more ends can. means (room_of k) more ends;
}

pub Breaks-say : {E : Type 0} (begun : E → E) (f : Meaning E) (k : Kept) (x : Left) (y z : Option (List ℕ)) (a b c : ℕ) (log log_now : List E) (us : List (Utterance E)) (t : Trouble) →
    UttersFront begun log log_now y z us → Counted (is_write_fault t) b c → ((room : ℕ) (more : List ℕ) (ends : InputEnd) → (tail : Said E) × (f room more ends ≡ onto us tail)) →
    Breaks begun f (at k x a log y b) (at k x a log_now z c) t
Breaks-say begun f k x y z a b c log log_now us t says counts means = record {
  heard = [];
  hands = Hands-self k x;
  on_time = λ h. at_most_one k x h;
  utterances = us;
  says = says;
  way = Done;
  reads = refl;
  writes = counts;
  going = λ is. absurd (cc);
  none_kept = λ is. absurd (cc);
  breaks_so = λ more ends can. means (room_of k) more ends;
}

-- hearing a line
pub Talks-hear : {E S : Type 0} (talker : Talker E S) (s : S) (line : Line) (k l : Kept) (x y : Left) (z : Option (List ℕ)) (a b c : ℕ) (log : List E) → HearsLine k l x y line → b ≡ a →
    Talks (replies talker s) (at k x a log z c) (at l y b log z c) (after_step talker (talker.step s line))
unfolding replies
Talks-hear talker s line k l x y z a b c log hears same = record {
  heard = hears.heard;
  hands = hears.hands;
  on_time = hears.on_time;
  utterances = [];
  says = Utters-nothing log z;
  reads = same;
  writes = refl;
  shrinks = omega (arith, hears.goes_on);
  goes = λ more ends can. rw (hears.first more ends can) refl;
}

-- saying what a step says, and going on
pub Talks-step : {E S : Type 0} (talker : Talker E S) (st : Step E S) (k : Kept) (x : Left) (y z : Option (List ℕ)) (a b c : ℕ) (log log_now : List E) → st.quits ≡ false → Utters log log_now y z st.utterances → c ≡ b →
    Talks (after_step talker st) (at k x a log y b) (at k x a log_now z c) (replies talker st.next)
Talks-step talker st k x y z a b c log log_now goes says same = Talks-say (after_step talker st) (replies talker st.next) k x y z a b c log log_now st.utterances says same (λ room more ends. rw goes refl)

pub Ends-step : {E S : Type 0} (talker : Talker E S) (st : Step E S) (k : Kept) (x : Left) (y z : Option (List ℕ)) (a b c : ℕ) (log log_now : List E) → st.quits ≡ true → Utters log log_now y z st.utterances → c ≡ b →
    Ends (after_step talker st) (at k x a log y b) (at k x a log_now z c) Done
Ends-step talker st k x y z a b c log log_now quits says same = Ends-say (after_step talker st) k x y z a b c log log_now st.utterances says same (λ room more ends. rw quits refl)

step_begins : {E S : Type 0} (talker : Talker E S) (st : Step E S) (room : ℕ) (more : List ℕ) (ends : InputEnd) (q : Bool) → st.quits ≡ q → (tail : Said E) × (after_step talker st room more ends ≡ onto st.utterances tail)
step_begins talker st room more ends true is = (record { utterances = []; ending = Done }, rw (is, append-nil st.utterances) refl)
step_begins talker st room more ends false is = (replies talker st.next room more ends, rw is refl)

pub Breaks-step : {E S : Type 0} (begun : E → E) (talker : Talker E S) (st : Step E S) (k : Kept) (x : Left) (y z : Option (List ℕ)) (a b c : ℕ) (log log_now : List E) (t : Trouble) → UttersFront begun log log_now y z st.utterances → Counted (is_write_fault t) b c →
    Breaks begun (after_step talker st) (at k x a log y b) (at k x a log_now z c) t
Breaks-step begun talker st k x y z a b c log log_now t says counts = Breaks-say begun (after_step talker st) k x y z a b c log log_now st.utterances t says counts (λ room more ends. step_begins talker st room more ends st.quits refl)

pub Breaks-line : {E S : Type 0} (begun : E → E) (talker : Talker E S) (s : S) (line : Line) (k l : Kept) (x y : Left) (z w : Option (List ℕ)) (a b c d : ℕ) (log log_now : List E) (t : Trouble) → HearsLine k l x y line → b ≡ a → UttersFront begun log log_now z w (talker.step s line).utterances → Counted (is_write_fault t) c d →
    Breaks begun (replies talker s) (at k x a log z c) (at l y b log_now w d) t
Breaks-line begun talker s line k l x y z w a b c d log log_now t hears reads says writes =
    Breaks-more begun _ _ _ (at l y b log z c) _ t (Talks-hear talker s line k l x y z a b c log hears reads) (Breaks-step begun talker (talker.step s line) l y z w b c d log log_now t says writes)

-- hearing none
pub Ends-hear : {E S : Type 0} (talker : Talker E S) (s : S) (e : LineEnd) (k l : Kept) (x y : Left) (z w : Option (List ℕ)) (a b c d : ℕ) (log log_now : List E) → HearsEnd k l x y e → Counted (is_read_fault e) a b → d ≡ c →
    e ≢ line_ends.Memory → Utters log log_now z w (talker.closing s (close_of e)) →
    Ends (replies talker s) (at k x a log z c) (at l y b log_now w d) (ending_of (close_of e))
unfolding replies
Ends-hear talker s line_ends.Ended k l x y z w a b c d log log_now hears reads writes not says = record {
  heard = hears.heard;
  hands = hears.hands;
  on_time = hears.on_time;
  utterances = talker.closing s AtEnd;
  says = says;
  reads = reads;
  writes = writes;
  going = λ is. absurd (cc);
  none_kept = λ is. absurd (cc);
  ends_so = λ more ends can.
      let follows : (more ≡ []) × (ends ≡ Ended) = rw hears.is.0 at can in
      rw (follows.0, follows.1, append-nil hears.heard, hears.is.2) refl;
}
Ends-hear talker s line_ends.ReadFault k l x y z w a b c d log log_now hears reads writes not says = record {
  heard = hears.heard;
  hands = hears.hands;
  on_time = hears.on_time;
  utterances = talker.closing s AtFault;
  says = says;
  reads = reads;
  writes = writes;
  going = λ is. hears.is.0;
  none_kept = λ is. hears.is.1;
  ends_so = λ more ends can. rw (can.0, can.1, append-nil hears.heard, hears.is.2) refl;
}
Ends-hear talker s line_ends.InputLimit k l x y z w a b c d log log_now hears reads writes not says = record {
  heard = hears.heard;
  hands = hears.hands;
  on_time = hears.on_time;
  utterances = talker.closing s AtLimit;
  says = says;
  reads = reads;
  writes = writes;
  going = λ is. absurd (cc);
  none_kept = λ is. absurd (cc);
  ends_so = λ more ends can. rw (hears.is more ends) refl;
}
Ends-hear talker s line_ends.Memory k l x y z w a b c d log log_now hears reads writes not says = absurd (not refl)

pub Breaks-hear : {E S : Type 0} (begun : E → E) (talker : Talker E S) (s : S) (e : LineEnd) (k l : Kept) (x y : Left) (z w : Option (List ℕ)) (a b c d : ℕ) (log log_now : List E) (t : Trouble) → HearsEnd k l x y e → Counted (is_read_fault e) a b → Counted (is_write_fault t) c d →
    (e ≡ line_ends.Memory → (log_now ≡ log) × (w ≡ z)) → UttersFront begun log log_now z w (talker.closing s (close_of e)) →
    Breaks begun (replies talker s) (at k x a log z c) (at l y b log_now w d) t
unfolding replies
Breaks-hear begun talker s line_ends.Ended k l x y z w a b c d log log_now t hears reads writes same says = record {
  heard = hears.heard;
  hands = hears.hands;
  on_time = hears.on_time;
  utterances = talker.closing s AtEnd;
  says = says;
  way = Done;
  reads = reads;
  writes = writes;
  going = λ is. absurd (cc);
  none_kept = λ is. absurd (cc);
  breaks_so = λ more ends can.
      let follows : (more ≡ []) × (ends ≡ Ended) = rw hears.is.0 at can in
      (record { utterances = []; ending = Done }, rw (follows.0, follows.1, append-nil hears.heard, hears.is.2, append-nil (talker.closing s AtEnd)) refl);
}
Breaks-hear begun talker s line_ends.ReadFault k l x y z w a b c d log log_now t hears reads writes same says = record {
  heard = hears.heard;
  hands = hears.hands;
  on_time = hears.on_time;
  utterances = talker.closing s AtFault;
  says = says;
  way = ReadFault;
  reads = reads;
  writes = writes;
  going = λ is. hears.is.0;
  none_kept = λ is. hears.is.1;
  breaks_so = λ more ends can. (record { utterances = []; ending = ReadFault }, rw (can.0, can.1, append-nil hears.heard, hears.is.2, append-nil (talker.closing s AtFault)) refl);
}
Breaks-hear begun talker s line_ends.InputLimit k l x y z w a b c d log log_now t hears reads writes same says = record {
  heard = hears.heard;
  hands = hears.hands;
  on_time = hears.on_time;
  utterances = talker.closing s AtLimit;
  says = says;
  way = Done;
  reads = reads;
  writes = writes;
  going = λ is. absurd (cc);
  none_kept = λ is. absurd (cc);
  breaks_so = λ more ends can. (record { utterances = []; ending = InputLimit }, rw (hears.is more ends, append-nil (talker.closing s AtLimit)) refl);
}
Breaks-hear begun talker s line_ends.Memory k l x y z w a b c d log log_now t hears reads writes same says = record {
  heard = hears.heard;
  hands = hears.hands;
  on_time = hears.on_time;
  utterances = [];
  says = rw ((same refl).0, (same refl).1) (UttersFront-none begun log log z [] refl);
  way = Done;
  reads = reads;
  writes = writes;
  going = λ is. absurd (cc);
  none_kept = λ is. absurd (cc);
  breaks_so = λ more ends can. (_, refl);
}

-- after a part, whatever the next one answers
pub goes_on : {E : Type 0} (begun : E → E) (f g h : Meaning E) (p q r : Place E) (result : Result Next Trouble) → Talks f p q g →
    MatchResult result (λ n. Continues g q r h n) (λ t. Breaks begun g q r t) → MatchResult result (λ n. Continues f p r h n) (λ t. Breaks begun f p r t)
goes_on begun f g h p q r (Ok n) first second = Continues-more f g h p q r n first second
goes_on begun f g h p q r (Err t) first second = Breaks-more begun f g p q r t first second

pub ends_on : {E : Type 0} (begun : E → E) (f g : Meaning E) (p q r : Place E) (result : Result Ending Trouble) → Talks f p q g →
    MatchResult result (λ ending. Ends g q r ending) (λ t. Breaks begun g q r t) → MatchResult result (λ ending. Ends f p r ending) (λ t. Breaks begun f p r t)
ends_on begun f g p q r (Ok ending) first second = Ends-more f g p q r ending first second
ends_on begun f g p q r (Err t) first second = Breaks-more begun f g p q r t first second
