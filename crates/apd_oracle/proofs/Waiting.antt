-- While a question waits, and where it is said first.
use Rattle.std.proofs.Common.{◌≡◌, ℕ, ◌+◌, ◌≤◌, List, [], length, refl, ap, sym, ◌∙◌, arith, Bool, Option, None, Some, subst, inl, inr, ◌⊎◌}
use Rattle.std.specs.Prelude.{Result, Ok, Err, IfOk}
use Rattle.apd_base.specs.Counts.{Counts, risen}
use Rattle.apd_io.specs.Outside.{Counted as CountedOnce, Counts as CountsOnce}
use Rattle.apd_answers.specs.Oracle.{is_read_fault, is_write_fault}
use Rattle.apd_answers.specs.Oracle as calls
use Rattle.apd_answers.specs.declared.oracle.AskEnd.{AskEnd}
use Rattle.apd_answers.specs.declared.oracle.AskEnd.TheVariants as ends
use Rattle.apd_answers.specs.declared.question.Asked.{Asked}
use Rattle.apd_answers.specs.declared.question.Question.{Question}
use Rattle.apd_answers.specs.declared.question.Reply.{Reply}
use Rattle.apd_console.specs.Console.{IsKept, room_of}
use Rattle.apd_console.specs.Lines.{InputEnd}
use Rattle.apd_lines.proofs.Growing.{Grown-length, Grown-more, Grown-same, Grown-self}
use Rattle.apd_ops.specs.Table.{Table}
use Rattle.apd_read.specs.Reader.{Reader}
use Rattle.apd_talk.specs.Awaiting.{Hearing, means, says_first}
use Rattle.apd_talk.specs.Moment.{Keeps, Moment, place, saying}
use Rattle.apd_talk.specs.Speech.{Lasting, Says, Spoken as Speaking, Stays, begun, one}
use Rattle.apd_talk.specs.Talk.{Talks, onto}
use Rattle.apd_talk.specs.Utterance.{Utterance}
use Rattle.apd_talk.specs.declared.talk.Trouble.{Trouble}
use Rattle.apd_talk.specs.declared.talk.Trouble.TheVariants as troubles
use Rattle.apd_talk.specs.Speech as speech
use Rattle.apd_talk.proofs.Speaking.{Says-none}
use Rattle.apd_talk.proofs.Talking.{Talks-more, Talks-say, Talks-self, Breaks-say}
use Rattle.apd_talk.proofs.Uttering.{UttersFront-none}
use Rattle.apd_term.specs.Growth.{Grown}
use Rattle.apd_term.specs.StandardNames.{standard_names}
use Rattle.apd_text.specs.Named.{EntryIsNamed, QuestionIsNamed}
use Rattle.apd_text.specs.declared.entry.Entry.{Entry}
use Rattle.apd_text.specs.declared.entry.Entry.TheVariants.{Question as Asks, Replied}
use Rattle.apd_oracle.specs.Dialogue.{Calls, CanHear, Follows, HasFaults, HasHeard, Hears, HearsFrom, HearsOne, IsReply, KeepsPlace, SaysReply, answer_of, end_of_trouble}
use Rattle.apd_oracle.specs.Waiting.{Afterwards, answering, asking, waiting}
use Rattle.apd_oracle.proofs.Hearing.{Hears-more, HearsFrom-more, heard_trouble_from, trouble_reads, trouble_writes}

pub Keeps-more : (p q r : Moment) → Keeps p q → Keeps q r → Keeps p r
Keeps-more p q r first second = record {
  names = Grown-more p.spoken.log.names q.spoken.log.names r.spoken.log.names first.names second.names;
  few = let a = first.few in let b = second.few in omega (arith, a, b);
  ops = second.ops ∙ first.ops;
  over = (second.over.0 ∙ first.over.0, second.over.1 ∙ first.over.1);
  sound = second.sound;
}

pub can_still_hear : (p q : Moment) → CanHear p → Grown p.spoken.log.names q.spoken.log.names → length q.spoken.log.names + room_of q.console ≤ length p.spoken.log.names + room_of p.console → CanHear q
can_still_hear p q can grew few = record {
  room = let r = can.room in omega (arith, r, few);
  standard = let s = can.standard in let l = Grown-length p.spoken.log.names q.spoken.log.names grew in omega (arith, s, l);
}

-- the lines from p to q left the question as it was
pub record IsWaiting (asked : Asked) (p q : Moment) : Type 0 where
  pub talks : Lasting q.spoken.log.names (λ names. (reader : Reader names) (after : Afterwards) →
      Talks (means (waiting asked p.spoken.log.ops names reader after)) (place p) (place q) (means (waiting asked p.spoken.log.ops names reader after)))
  pub names : Grown p.spoken.log.names q.spoken.log.names
  pub few : length q.spoken.log.names + room_of q.console ≤ length p.spoken.log.names + room_of p.console
  pub ops : q.spoken.log.ops ≡ p.spoken.log.ops
  pub over : (q.over ≡ p.over) × (q.spoken.over ≡ p.spoken.over)
  pub keeps_place : KeepsPlace p.spoken q.spoken
  pub can : CanHear q
  pub reads : q.read_faults ≡ p.read_faults
  pub writes : q.spoken.write_faults ≡ p.spoken.write_faults

pub IsWaiting-start : (asked : Asked) (p : Moment) → CanHear p → IsWaiting asked p p
IsWaiting-start asked p can = record {
  talks = λ names grew reader after. Talks-self _ _;
  names = Grown-self p.spoken.log.names;
  few = omega arith;
  ops = refl;
  over = (refl, refl);
  keeps_place = λ some. some;
  can = can;
  reads = refl;
  writes = refl;
}

module _ (asked : Asked) (p q r : Moment) (before : IsWaiting asked p q) where
  waited_keeps : Keeps q r → Keeps p r
  waited_keeps keeps = record {
    names = Grown-more p.spoken.log.names q.spoken.log.names r.spoken.log.names before.names keeps.names;
    few = let a = before.few in let b = keeps.few in omega (arith, a, b);
    ops = keeps.ops ∙ before.ops;
    over = (keeps.over.0 ∙ before.over.0, keeps.over.1 ∙ before.over.1);
    sound = keeps.sound;
  }

  pub IsWaiting-more : HasHeard HearsOne (waiting asked) q r (Ok None) → IsWaiting asked p r
  IsWaiting-more heard = record {
    talks = λ names grew reader after.
        Talks-more _ (means (waiting asked p.spoken.log.ops names reader after)) _ (place p) (place q) (place r) (before.talks names (Grown-more q.spoken.log.names r.spoken.log.names names heard.keeps.names grew) reader after)
        (subst (λ (ops : Table). Talks (means (waiting asked ops names reader after)) (place q) (place r) (means (waiting asked ops names reader after))) before.ops (heard.follows names grew reader after));
    names = (waited_keeps heard.keeps).names;
    few = (waited_keeps heard.keeps).few;
    ops = (waited_keeps heard.keeps).ops;
    over = (waited_keeps heard.keeps).over;
    keeps_place = λ some. heard.keeps_place (before.keeps_place some);
    can = can_still_hear q r before.can heard.keeps.names heard.keeps.few;
    reads = heard.faults.read ∙ before.reads;
    writes = heard.faults.write ∙ before.writes;
  }

  -- the last line: a reply, or why there is none
  last_follows : (result : Result Reply AskEnd) → Grown q.spoken.log.names r.spoken.log.names → Follows Hears (waiting asked) q r result → Follows Hears (waiting asked) p r result
  last_follows result grown follows = λ names grew reader after.
      Hears-more _ (means (waiting asked p.spoken.log.ops names reader after)) (place p) (place q) (place r) after result (before.talks names (Grown-more q.spoken.log.names r.spoken.log.names names grown grew) reader after)
      (subst (λ (ops : Table). Hears (means (waiting asked ops names reader after)) (place q) (place r) after result) before.ops (follows names grew reader after))

  pub waited_reply : (reply : Reply) → HasHeard HearsOne (waiting asked) q r (Ok (Some reply)) → HasHeard Hears (waiting asked) p r (Ok reply)
  waited_reply reply heard = record {
    keeps = waited_keeps heard.keeps;
    keeps_place = λ some. heard.keeps_place (before.keeps_place some);
    follows = last_follows (Ok reply) heard.keeps.names heard.follows;
    faults = record { read = heard.faults.read ∙ before.reads; write = heard.faults.write ∙ before.writes };
  }

  pub waited_end : (end : AskEnd) → HasHeard {T = Option Reply} HearsOne (waiting asked) q r (Err end) → HasHeard Hears (waiting asked) p r (Err end)
  waited_end end heard = record {
    keeps = waited_keeps heard.keeps;
    keeps_place = λ some. heard.keeps_place (before.keeps_place some);
    follows = last_follows (Err end) heard.keeps.names heard.follows;
    faults = record { read = rw (← before.reads) heard.faults.read; write = rw (← before.writes) heard.faults.write };
  }

-- the question is said
first_said : (us : List (Utterance Entry)) (h : Hearing Entry) (room : ℕ) (more : List ℕ) (ends : InputEnd) → means (says_first us h) room more ends ≡ onto us (means h room more ends)
unfolding means
first_said us h room more ends = refl

saying_keeps : (p : Moment) (s : Speaking) → IsKept p.console → Stays p.spoken s → Keeps p (saying p s)
saying_keeps p s sound stays = record {
  names = Grown-same p.spoken.log.names s.log.names stays.names;
  few = let same = stays.names in let e : length s.log.names ≡ length p.spoken.log.names = ap length same in omega (arith, e);
  ops = stays.ops;
  over = (refl, stays.over);
  sound = sound;
}

-- there is a reply without a line
pub given_so : (o : Option Reply) (asked : Asked) (reply : Reply) (p : Moment) → IsKept p.console → o ≡ Some reply → HasHeard (HearsFrom o) (answering o asked) p p (Ok reply)
given_so o asked reply p sound is = record {
  keeps = record { names = Grown-self p.spoken.log.names; few = omega arith; ops = refl; over = (refl, refl); sound = sound };
  keeps_place = λ some. some;
  follows = λ names grew reader after.
      subst (λ (o : Option Reply). HearsFrom o (means (answering o asked p.spoken.log.ops names reader after)) (place p) (place p) after (Ok reply)) (sym is)
      (refl, Talks-self (means (after.referred reply)) (place p));
  faults = record { read = refl; write = refl };
}

-- or no memory for one
pub not_given : (o : Option Reply) (asked : Asked) (p : Moment) → IsKept p.console → HasHeard (HearsFrom o) (answering o asked) p p (Err ends.Memory)
not_given o asked p sound = record {
  keeps = record { names = Grown-self p.spoken.log.names; few = omega arith; ops = refl; over = (refl, refl); sound = sound };
  keeps_place = λ some. some;
  follows = λ names grew reader after.
      heard_trouble_from o (means (answering o asked p.spoken.log.ops names reader after)) (place p) (place p) after troubles.Memory
      (Breaks-say begun _ p.console p.left p.spoken.held p.spoken.held p.read_faults p.spoken.write_faults p.spoken.write_faults p.spoken.log.entries.list p.spoken.log.entries.list [] troubles.Memory
      (UttersFront-none begun p.spoken.log.entries.list p.spoken.log.entries.list p.spoken.held [] refl) refl (λ room more ends. (_, refl)));
  faults = record { read = refl; write = refl };
}

-- where there is none, lines are heard
pub waited_for : (o : Option Reply) (asked : Asked) (p r : Moment) (result : Result Reply AskEnd) → o ≡ None → HasHeard Hears (waiting asked) p r result → HasHeard (HearsFrom o) (answering o asked) p r result
waited_for o asked p r result is heard = record {
  keeps = heard.keeps;
  keeps_place = heard.keeps_place;
  follows = λ names grew reader after.
      subst (λ (o : Option Reply). HearsFrom o (means (answering o asked p.spoken.log.ops names reader after)) (place p) (place r) after result) (sym is) (heard.follows names grew reader after);
  faults = heard.faults;
}

module _ (replies : Question → Option Reply) (by_reference : Bool) where
  -- there was no memory for the question
  pub unasked : (asked : Asked) (count : ℕ) (p : Moment) → IsKept p.console → Calls replies (calls.asking asked (Err ends.Memory)) count by_reference p p
  unasked asked count p sound = record {
    keeps = record { names = Grown-self p.spoken.log.names; few = omega arith; ops = refl; over = (refl, refl); sound = sound };
    keeps_place = λ some. some;
    acts = (
      λ named names grew reader after.
          heard_trouble_from (replies asked.question) (means (asking replies (risen count) asked p.spoken.log.ops names reader after)) (place p) (place p) after troubles.Memory
          (Breaks-say begun _ p.console p.left p.spoken.held p.spoken.held p.read_faults p.spoken.write_faults p.spoken.write_faults p.spoken.log.entries.list p.spoken.log.entries.list [] troubles.Memory
          (UttersFront-none begun p.spoken.log.entries.list p.spoken.log.entries.list p.spoken.held [] refl) refl (λ room more ends. (_, refl))),
      λ named. tt,
    );
  }

  module _ (count n : ℕ) (is : n ≡ risen count) (copy asked : Asked) (same : copy ≡ asked) (p : Moment) (s : Speaking) (sound : IsKept p.console) (standard : length standard_names ≤ length p.spoken.log.names)
      (stays : Stays p.spoken s) (place_stays : KeepsPlace p.spoken s) where
    abbrev given : Option Reply
    given = replies asked.question

    abbrev IsAskedNamed : Type 0
    IsAskedNamed = QuestionIsNamed (length p.spoken.log.names) asked.question

    -- it couldn't be said whole
    pub asked_front : {T : Type 0} (t : Trouble) → (EntryIsNamed (length p.spoken.log.names) (Asks n copy) → Says {T = T} (one (Asks n copy)) p.spoken s (Err t)) →
        Calls replies (calls.asking asked (Err (end_of_trouble t))) count by_reference p (saying p s)
    asked_front {T} t says_if = record {
      keeps = saying_keeps p s sound stays;
      keeps_place = place_stays;
      acts = (subst (λ (i : ℕ). IsAskedNamed → Follows (HearsFrom given) (asking replies i asked) p (saying p s) (Err (end_of_trouble t))) is follows, λ named. tt);
    }
      where
        follows : IsAskedNamed → Follows (HearsFrom given) (asking replies n asked) p (saying p s) (Err (end_of_trouble t))
        follows named = λ names grew reader after.
            let says : Says {T = T} (one (Asks n asked)) p.spoken s (Err t) = rw same at (says_if (standard, rw same named)) in
            let grown : Grown p.spoken.log.names names = subst (λ (l : List (List ℕ)). Grown l names) stays.names grew in
            let h = answering given asked p.spoken.log.ops names reader after in
            heard_trouble_from given _ _ _ after t
            (Breaks-say begun _ p.console p.left p.spoken.held s.held p.read_faults p.spoken.write_faults s.write_faults p.spoken.log.entries.list s.log.entries.list (one (Asks n asked) p.spoken.log.ops names) t
            (says.front names grown) says.cause
            (λ room more ends. (means h room more ends, first_said (one (Asks n asked) p.spoken.log.ops names) h room more ends)))

    -- it was said, and heard to its reply
    module _ {T : Type 0} (t : T) (says_if : EntryIsNamed (length p.spoken.log.names) (Asks n copy) → Says (one (Asks n copy)) p.spoken s (Ok t)) (r : Moment) (result : Result Reply AskEnd) (heard : HasHeard (HearsFrom given) (answering given asked) (saying p s) r result) where
      asked_follows : IsAskedNamed → Follows (HearsFrom given) (asking replies n asked) p r result
      asked_follows named = λ names grew reader after.
          let says : Says (one (Asks n asked)) p.spoken s (Ok t) = rw same at (says_if (standard, rw same named)) in
          let later : Grown s.log.names names = Grown-more s.log.names r.spoken.log.names names heard.keeps.names grew in
          let grown : Grown p.spoken.log.names names = subst (λ (l : List (List ℕ)). Grown l names) stays.names later in
          let h = answering given asked p.spoken.log.ops names reader after in
          HearsFrom-more given _ (means h) (place p) (place (saying p s)) (place r) after result
          (Talks-say _ _ p.console p.left p.spoken.held s.held p.read_faults p.spoken.write_faults s.write_faults p.spoken.log.entries.list s.log.entries.list (one (Asks n asked) p.spoken.log.ops names)
          (says.all names grown) says.cause (first_said (one (Asks n asked) p.spoken.log.ops names) h))
          (subst (λ (ops : Table). HearsFrom given (means (answering given asked ops names reader after)) (place (saying p s)) (place r) after result) stays.ops (heard.follows names grew reader after))

      pub asked_heard : (QuestionIsNamed (length s.log.names) asked.question → IfOk result (IsReply (length r.spoken.log.names) asked)) → Calls replies (calls.asking asked result) count by_reference p r
      asked_heard reply = record {
        keeps = Keeps-more p (saying p s) r (saying_keeps p s sound stays) heard.keeps;
        keeps_place = λ some. heard.keeps_place (place_stays some);
        acts = (
          subst (λ (i : ℕ). IsAskedNamed → Follows (HearsFrom given) (asking replies i asked) p r result) is asked_follows,
          λ named. reply (subst (λ (l : List (List ℕ)). QuestionIsNamed (length l) asked.question) (sym stays.names) named),
        );
      }

-- what the counts say over both
pub asked_faults : (p : Moment) (s : Speaking) (r : Moment) (result : Result Reply AskEnd) → s.write_faults ≡ p.spoken.write_faults → HasFaults (saying p s) r result → HasFaults p r result
asked_faults p s r result same faults = record { read = faults.read; write = subst (λ (n : ℕ). Counts is_write_fault n r.spoken.write_faults result) same faults.write }

pub front_faults : (p : Moment) (s : Speaking) (t : Trouble) → CountedOnce (speech.is_write_fault t) p.spoken.write_faults s.write_faults → HasFaults {T = Reply} p (saying p s) (Err (end_of_trouble t))
front_faults p s t counts = record { read = trouble_reads p.read_faults p.read_faults t refl; write = trouble_writes p.spoken.write_faults s.write_faults t counts }

-- a reply is said
said_writes : (c d : ℕ) (said : Result (Unit {0}) Trouble) → CountsOnce speech.is_write_fault c d said → Counts is_write_fault c d (answer_of said)
said_writes c d (Ok t) counts = counts
said_writes c d (Err t) counts = trouble_writes c d t counts

pub said_so : (by_reference : Bool) (copy reply : Reply) (left : Option ℕ) (p s : Speaking) (said : Result (Unit {0}) Trouble) → copy ≡ reply → length standard_names ≤ length p.log.names →
    (EntryIsNamed (length p.log.names) (Replied copy left by_reference) → Says (one (Replied copy left by_reference)) p s said) →
    Stays p s → KeepsPlace p s → CountsOnce speech.is_write_fault p.write_faults s.write_faults said → SaysReply by_reference reply left p s (answer_of said)
said_so by_reference copy reply left p s said same standard says_if stays room counts = record {
  said = said;
  answers = refl;
  says = λ named. rw same at (says_if (standard, rw same named));
  stays = stays;
  keeps_place = room;
  faults = said_writes p.write_faults s.write_faults said counts;
}

-- there was no memory for it
pub unsaid : (by_reference : Bool) (reply : Reply) (left : Option ℕ) (p : Speaking) → SaysReply by_reference reply left p p (Err ends.Memory)
unsaid by_reference reply left p = record {
  said = Err troubles.Memory;
  answers = refl;
  says = λ named. Says-none (one (Replied reply left by_reference)) p p refl refl refl refl refl refl;
  stays = record { names = refl; ops = refl; over = refl };
  keeps_place = λ some. some;
  faults = refl;
}

-- why it isn't said
pub told_only : (said : Result (Unit {0}) Trouble) (result : Result (Unit {0}) AskEnd) (e : AskEnd) → result ≡ answer_of said → result ≡ Err e → (e ≡ ends.WriteFault) ⊎ (e ≡ ends.Memory)
told_only (Ok t) result e is err = absurd (let f : Ok t ≡ Err e = sym is ∙ err in cc)
told_only (Err troubles.WriteFault) result e is err = let f : Err ends.WriteFault ≡ Err e = sym is ∙ err in inl (cc)
told_only (Err troubles.Memory) result e is err = let f : Err ends.Memory ≡ Err e = sym is ∙ err in inr (cc)

said_reads : (a : ℕ) (said : Result (Unit {0}) Trouble) → Counts is_read_fault a a (answer_of said)
said_reads a (Ok t) = refl
said_reads a (Err t) = trouble_reads a a t refl

pub told_reads : (a : ℕ) (said : Result (Unit {0}) Trouble) (result : Result (Unit {0}) AskEnd) → result ≡ answer_of said → Counts is_read_fault a a result
told_reads a said result is = subst (λ (r : Result (Unit {0}) AskEnd). Counts is_read_fault a a r) (sym is) (said_reads a said)

-- a reply is told
pub told_so : (replies : Question → Option Reply) (by_reference : Bool) (reply : Reply) (left : Option ℕ) (count : ℕ) (p : Moment) (s : Speaking) (result : Result (Unit {0}) AskEnd) → IsKept p.console →
    SaysReply by_reference reply left p.spoken s result → Calls replies (calls.telling reply left result) count by_reference p (saying p s)
told_so replies by_reference reply left count p s result sound tells = record {
  keeps = saying_keeps p s sound tells.stays;
  keeps_place = tells.keeps_place;
  acts = ((refl, refl, refl), tells);
}
