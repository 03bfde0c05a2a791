-- A reply that is told.
use Rattle.std.proofs.Common.{◌≡◌, ℕ, List, [], arith, Bool}
use Rattle.std.specs.Prelude.{Result, Ok, Err}
use Rattle.apd_io.specs.Outside.{Counted}
use Rattle.apd_answers.specs.declared.oracle.AskEnd.{AskEnd}
use Rattle.apd_answers.specs.declared.question.Reply.{Reply}
use Rattle.apd_console.proofs.Bytes.{Hands-self, at_most_one}
use Rattle.apd_console.specs.Console.{room_of}
use Rattle.apd_console.specs.Lines.{InputEnd}
use Rattle.apd_oracle.specs.Dialogue.{HearsNothing, SaysReply, end_of_trouble, answer_of}
use Rattle.apd_talk.specs.Moment.{Moment, place}
use Rattle.apd_talk.specs.Speech.{Says, begun, is_write_fault, one}
use Rattle.apd_talk.specs.Talk.{Breaks, Meaning, Talks, onto}
use Rattle.apd_talk.specs.Utterance.{Utterance, Utters, UttersFront}
use Rattle.apd_talk.specs.declared.talk.Ending.TheVariants.{Done}
use Rattle.apd_talk.specs.declared.talk.Trouble.{Trouble}
use Rattle.apd_term.specs.Growth.{Grown}
use Rattle.apd_text.specs.Named.{ReplyIsNamed}
use Rattle.apd_text.specs.declared.entry.Entry.{Entry}
use Rattle.apd_text.specs.declared.entry.Entry.TheVariants.{Replied}
use Rattle.std.specs.Prelude.{length, Option}

-- where no line is heard and these are said
abbrev Before : Meaning Entry → Meaning Entry → List (Utterance Entry) → Type 0
Before f g us = (room : ℕ) (input : List ℕ) (over : InputEnd) → f room input over ≡ onto us (g room input over)

talks_on : (f g : Meaning Entry) (p q : Moment) (us : List (Utterance Entry)) → HearsNothing p q → q.spoken.write_faults ≡ p.spoken.write_faults →
    Utters p.spoken.log.entries.list q.spoken.log.entries.list p.spoken.held q.spoken.held us → Before f g us → Talks f (place p) (place q) g
talks_on f g p q us same writes says so = record {
  heard = [];
  hands = rw (same.0, same.1) (Hands-self p.console p.left);
  on_time = λ h. rw (same.0, same.1) h;
  utterances = us;
  says = says;
  reads = same.2;
  writes = writes;
  shrinks = rw same.0 (omega arith);
  goes = λ more over can. rw same.0 (so (room_of p.console) more over);
}

breaks_on : (f g : Meaning Entry) (p q : Moment) (us : List (Utterance Entry)) (t : Trouble) → HearsNothing p q → Counted (is_write_fault t) p.spoken.write_faults q.spoken.write_faults →
    UttersFront begun p.spoken.log.entries.list q.spoken.log.entries.list p.spoken.held q.spoken.held us → Before f g us → Breaks begun f (place p) (place q) t
breaks_on f g p q us t same writes says so = record {
  heard = [];
  hands = rw (same.0, same.1) (Hands-self p.console p.left);
  on_time = λ h. rw same.1 (at_most_one p.console p.left h);
  utterances = us;
  says = says;
  way = Done;
  reads = same.2;
  writes = writes;
  going = λ is. absurd (cc);
  none_kept = λ is. absurd (cc);
  breaks_so = λ more over can. (g (room_of p.console) more over, so (room_of p.console) more over);
}

-- it was said to its end
pub told_on : (by_reference : Bool) (r : Reply) (left : Option ℕ) (p q : Moment) (f g : Meaning Entry) (names : List (List ℕ)) → HearsNothing p q → SaysReply by_reference r left p.spoken q.spoken (Ok tt) → ReplyIsNamed (length p.spoken.log.names) r → Grown p.spoken.log.names names →
    Before f g (one (Replied r left by_reference) p.spoken.log.ops names) → Talks f (place p) (place q) g
told_on by_reference r left p q f g names same tells named grew so = by tells.said tells.answers (tells.says named)
  where
    by : (said : Result (Unit {0}) Trouble) → Ok tt ≡ answer_of said → Says (one (Replied r left by_reference)) p.spoken q.spoken said → Talks f (place p) (place q) g
    by (Ok t) is says = talks_on f g p q _ same says.cause (says.all names grew) so
    by (Err t) is says = absurd (cc)

-- it was not
pub told_off : (by_reference : Bool) (r : Reply) (left : Option ℕ) (p q : Moment) (f g : Meaning Entry) (names : List (List ℕ)) (end : AskEnd) → HearsNothing p q → SaysReply by_reference r left p.spoken q.spoken (Err end) → ReplyIsNamed (length p.spoken.log.names) r → Grown p.spoken.log.names names →
    Before f g (one (Replied r left by_reference) p.spoken.log.ops names) → (t : Trouble) × (end ≡ end_of_trouble t) × Breaks begun f (place p) (place q) t
told_off by_reference r left p q f g names end same tells named grew so = by tells.said tells.answers (tells.says named)
  where
    by : (said : Result (Unit {0}) Trouble) → Err end ≡ answer_of said → Says (one (Replied r left by_reference)) p.spoken q.spoken said → (t : Trouble) × (end ≡ end_of_trouble t) × Breaks begun f (place p) (place q) t
    by (Ok u) is says = absurd (cc)
    by (Err t) is says =
        let same_end : end ≡ end_of_trouble t = cc in
        (t, same_end, breaks_on f g p q _ t same says.cause (says.front names grew) so)
