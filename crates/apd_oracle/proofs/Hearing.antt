-- What one line does while a question waits.
use Rattle.std.proofs.Common.{◌≡◌, ℕ, List, [], refl, ap, sym, ◌∙◌, subst, arith, Bool, true, false, Option, None, Some}
use Rattle.std.specs.Prelude.{Result, Ok, Err}
use Rattle.apd_base.specs.Counts.{Counted}
use Rattle.apd_io.specs.Outside.{Counted as CountedOnce, Left}
use Rattle.apd_answers.specs.Oracle.{is_read_fault, is_write_fault}
use Rattle.apd_answers.specs.declared.oracle.AskEnd.{AskEnd}
use Rattle.apd_answers.specs.declared.oracle.AskEnd.TheVariants as ends
use Rattle.apd_answers.specs.declared.question.Asked.{Asked}
use Rattle.apd_answers.specs.declared.question.Reply.{Reply}
use Rattle.apd_console.specs.Console.{Kept, IsKept, HearsLine, HearsEnd}
use Rattle.apd_console.specs.Console as console
use Rattle.apd_console.specs.declared.line.Line.{Line}
use Rattle.apd_console.specs.declared.line.LineEnd.{LineEnd}
use Rattle.apd_console.specs.declared.line.LineEnd.TheVariants as line_ends
use Rattle.apd_lines.specs.Lines.{LineGrows, line_in}
use Rattle.apd_lines.specs.declared.lines.LineRead.{LineRead}
use Rattle.apd_lines.proofs.Growing.{Grown-line, Grown-self, few_after}
use Rattle.apd_ops.specs.Table.{Table}
use Rattle.apd_read.specs.Reader.{Reader}
use Rattle.apd_talk.specs.Awaiting.{Hearing, Then, means}
use Rattle.apd_talk.specs.Moment.{Keeps, Moment, place}
use Rattle.apd_talk.specs.Speech.{Lasting, Says, Spoken as Speaking, begun, one, with_names}
use Rattle.apd_talk.specs.Speech as speech
use Rattle.apd_talk.specs.Talk.{Meaning, Place, Talks, Breaks}
use Rattle.apd_talk.specs.declared.talk.Trouble.{Trouble}
use Rattle.apd_talk.specs.declared.talk.Trouble.TheVariants as troubles
use Rattle.apd_talk.proofs.Awaiting.{Talks-again, Talks-then, Breaks-again, Breaks-line-here, Breaks-end-here, Closes-hear, Closes-more}
use Rattle.apd_talk.proofs.Talking.{Talks-more, Breaks-more}
use Rattle.apd_talk.proofs.Uttering.{Utters-nothing}
use Rattle.apd_term.specs.Growth.{Grown}
use Rattle.apd_text.specs.declared.entry.Entry.{Entry}
use Rattle.apd_text.specs.declared.entry.Entry.TheVariants.{BadReply}
use Rattle.apd_text.specs.declared.entry.Reason.{Reason}
use Rattle.apd_oracle.specs.Dialogue.{Follows, HasHeard, Hears, HearsFrom, HearsOne, KeepsPlace, end_of_line, end_of_trouble}
use Rattle.apd_oracle.specs.Replies.{spoken_of}
use Rattle.apd_oracle.specs.Waiting.{Afterwards, turn_at, turn_of, waiting}
use Rattle.apd_oracle.specs.declared.spoken.Spoken.{Spoken}
use Rattle.apd_oracle.specs.declared.spoken.Spoken.TheVariants as spoken

-- after a part of the conversation
pub Hears-more : (f g : Meaning Entry) (p q r : Place Entry) (after : Afterwards) (result : Result Reply AskEnd) → Talks f p q g → Hears g q r after result → Hears f p r after result
Hears-more f g p q r after (Ok reply) first second = Talks-more f g _ p q r first second
Hears-more f g p q r after (Err ends.Stopped) first second = Talks-more f g _ p q r first second
Hears-more f g p q r after (Err ends.Quit) first second = Talks-more f g _ p q r first second
Hears-more f g p q r after (Err ends.Ended) first second = Closes-more f g p q r _ _ first second
Hears-more f g p q r after (Err ends.ReadFault) first second = Closes-more f g p q r _ _ first second
Hears-more f g p q r after (Err ends.InputLimit) first second = Closes-more f g p q r _ _ first second
Hears-more f g p q r after (Err ends.WriteFault) first second = Breaks-more begun f g p q r _ first second
Hears-more f g p q r after (Err ends.Memory) first second = Breaks-more begun f g p q r _ first second

pub heard_trouble : (f : Meaning Entry) (p q : Place Entry) (after : Afterwards) (t : Trouble) → Breaks begun f p q t → Hears f p q after (Err (end_of_trouble t))
heard_trouble f p q after troubles.WriteFault breaks = breaks
heard_trouble f p q after troubles.Memory breaks = breaks

-- and where there may be a reply without a line
pub HearsFrom-more : (o : Option Reply) (f g : Meaning Entry) (p q r : Place Entry) (after : Afterwards) (result : Result Reply AskEnd) → Talks f p q g → HearsFrom o g q r after result → HearsFrom o f p r after result
HearsFrom-more None f g p q r after result first second = Hears-more f g p q r after result first second
HearsFrom-more (Some reply) f g p q r after (Ok given) first second = (second.0, Talks-more f g _ p q r first second.1)
HearsFrom-more (Some reply) f g p q r after (Err end) first second = Hears-more f g p q r after (Err end) first second

-- where no more can be said, it is so with a reply and without
pub heard_trouble_from : (o : Option Reply) (f : Meaning Entry) (p q : Place Entry) (after : Afterwards) (t : Trouble) → Breaks begun f p q t → HearsFrom o f p q after (Err (end_of_trouble t))
heard_trouble_from None f p q after t breaks = heard_trouble f p q after t breaks
heard_trouble_from (Some reply) f p q after t breaks = heard_trouble f p q after t breaks

-- counts of faults of the console and of the sink, as those of an oracle
once_counted : (is_fault : Bool) (a b : ℕ) → CountedOnce is_fault a b → Counted is_fault a b
once_counted true a b counts = let rose = counts.0 in (omega (arith, rose), counts.1)
once_counted false a b counts = counts

line_counts : (a b : ℕ) (e : LineEnd) → CountedOnce (console.is_read_fault e) a b → Counted (is_read_fault (end_of_line e)) a b
line_counts a b line_ends.Ended counts = counts
line_counts a b line_ends.ReadFault counts = once_counted true a b counts
line_counts a b line_ends.InputLimit counts = counts
line_counts a b line_ends.Memory counts = counts

line_writes : (c : ℕ) (e : LineEnd) → Counted (is_write_fault (end_of_line e)) c c
line_writes c line_ends.Ended = refl
line_writes c line_ends.ReadFault = refl
line_writes c line_ends.InputLimit = refl
line_writes c line_ends.Memory = refl

pub trouble_writes : (c d : ℕ) (t : Trouble) → CountedOnce (speech.is_write_fault t) c d → Counted (is_write_fault (end_of_trouble t)) c d
trouble_writes c d troubles.WriteFault counts = once_counted true c d counts
trouble_writes c d troubles.Memory counts = counts

pub trouble_reads : (a b : ℕ) (t : Trouble) → b ≡ a → Counted (is_read_fault (end_of_trouble t)) a b
trouble_reads a b troubles.WriteFault same = same
trouble_reads a b troubles.Memory same = same

-- a moment, with another console and other names
abbrev pub onward : Moment → Kept → Left → ℕ → List (List ℕ) → Moment
onward p k left reads names =
    record { console = k; left = left; read_faults = reads; spoken = with_names p.spoken names; over = p.over }

module _ (asked : Asked) (p : Moment) (k : Kept) (y : Left) (b : ℕ) (sound : IsKept k) where
  -- no line is heard
  ends_so : (e : LineEnd) → HearsEnd p.console k p.left y e → CountedOnce (console.is_read_fault e) p.read_faults b → Follows HearsOne (waiting asked) p (onward p k y b p.spoken.log.names) (Err (end_of_line e))
  ends_so line_ends.Ended hears reads = λ names grew reader after. Closes-hear (turn_at asked p.spoken.log.ops names reader after) after.closed line_ends.Ended p.console k p.left y p.spoken.held p.read_faults b p.spoken.write_faults p.spoken.log.entries.list hears reads (λ e. absurd (cc))
  ends_so line_ends.ReadFault hears reads = λ names grew reader after. Closes-hear (turn_at asked p.spoken.log.ops names reader after) after.closed line_ends.ReadFault p.console k p.left y p.spoken.held p.read_faults b p.spoken.write_faults p.spoken.log.entries.list hears reads (λ e. absurd (cc))
  ends_so line_ends.InputLimit hears reads = λ names grew reader after. Closes-hear (turn_at asked p.spoken.log.ops names reader after) after.closed line_ends.InputLimit p.console k p.left y p.spoken.held p.read_faults b p.spoken.write_faults p.spoken.log.entries.list hears reads (λ e. absurd (cc))
  ends_so line_ends.Memory hears reads = λ names grew reader after. Breaks-end-here begun _ p.console k p.left y p.spoken.held p.read_faults b p.spoken.write_faults p.spoken.log.entries.list hears reads

  pub heard_end : (e : LineEnd) → HearsEnd p.console k p.left y e → CountedOnce (console.is_read_fault e) p.read_faults b → HasHeard HearsOne (waiting asked) p (onward p k y b p.spoken.log.names) (Err (end_of_line e))
  heard_end e hears counts = record {
    keeps = record { names = Grown-self p.spoken.log.names; few = let s = hears.shrinks in omega (arith, s); ops = refl; over = (refl, refl); sound = sound };
    keeps_place = λ some. some;
    follows = ends_so e hears counts;
    faults = record { read = line_counts p.read_faults b e counts; write = line_writes p.spoken.write_faults e };
  }

  module _ (line : Line) (names : List (List ℕ)) (hears : HearsLine p.console k p.left y line) (reads : b ≡ p.read_faults) (grows : LineGrows line p.spoken.log.names names) where
    onward_keeps : Keeps p (onward p k y b names)
    onward_keeps = record {
      names = Grown-line line p.spoken.log.names names grows;
      few = few_after line p.console k p.left y p.spoken.log.names names hears grows;
      ops = refl;
      over = (refl, refl);
      sound = sound;
    }

    -- memory ran out while it was read
    pub heard_unread : HasHeard HearsOne (waiting asked) p (onward p k y b names) (Err ends.Memory)
    heard_unread = record {
      keeps = onward_keeps;
      keeps_place = λ some. some;
      follows = λ later grew reader after.
          Breaks-line-here begun _ line p.console k p.left y p.spoken.held p.read_faults b p.spoken.write_faults p.spoken.log.entries.list hears reads;
      faults = record { read = reads; write = refl };
    }

    module _ (read : LineRead) (is : Lasting names (λ n. (reader : Reader n) → read ≡ line_in reader p.spoken.log.ops line)) (said : Spoken) (says : said ≡ spoken_of asked read) where
      turn_is : (later : List (List ℕ)) → Grown names later → (reader : Reader later) (after : Afterwards) → turn_at asked p.spoken.log.ops later reader after line ≡ turn_of p.spoken.log.ops later after said
      turn_is later grew reader after = rw (says, is later grew reader) refl

      -- what comes after a reply, or a word
      goes_then : (h : Afterwards → Hearing Entry) → ((ops : Table) (later : List (List ℕ)) (after : Afterwards) → turn_of ops later after said ≡ Then (h after)) →
          Lasting names (λ later. (reader : Reader later) (after : Afterwards) → Talks (means (waiting asked p.spoken.log.ops later reader after)) (place p) (place (onward p k y b names)) (means (h after)))
      goes_then h then = λ later grew reader after.
          Talks-then (turn_at asked p.spoken.log.ops later reader after) after.closed line (h after) p.console k p.left y p.spoken.held p.read_faults b p.spoken.write_faults p.spoken.log.entries.list hears reads
          (turn_is later grew reader after ∙ then p.spoken.log.ops later after)

      pub heard_reply : (r : Reply) → said ≡ spoken.Reply r → HasHeard HearsOne (waiting asked) p (onward p k y b names) (Ok (Some r))
      heard_reply r so = record {
        keeps = onward_keeps;
        keeps_place = λ some. some;
        follows = goes_then (λ after. after.replied r) (λ ops later after. ap (turn_of ops later after) so);
        faults = record { read = reads; write = refl };
      }

      pub heard_stop : said ≡ spoken.Stop → HasHeard HearsOne (waiting asked) p (onward p k y b names) (Err ends.Stopped)
      heard_stop so = record {
        keeps = onward_keeps;
        keeps_place = λ some. some;
        follows = goes_then (λ after. after.stopped) (λ ops later after. ap (turn_of ops later after) so);
        faults = record { read = reads; write = refl };
      }

      pub heard_quit : said ≡ spoken.Quit → HasHeard HearsOne (waiting asked) p (onward p k y b names) (Err ends.Quit)
      heard_quit so = record {
        keeps = onward_keeps;
        keeps_place = λ some. some;
        follows = goes_then (λ after. after.quit) (λ ops later after. ap (turn_of ops later after) so);
        faults = record { read = reads; write = refl };
      }

      pub heard_nothing : said ≡ spoken.Nothing → HasHeard HearsOne (waiting asked) p (onward p k y b names) (Ok None)
      heard_nothing so = record {
        keeps = onward_keeps;
        keeps_place = λ some. some;
        follows = λ later grew reader after.
            Talks-again (turn_at asked p.spoken.log.ops later reader after) after.closed line [] p.console k p.left y p.spoken.held p.spoken.held p.read_faults b p.spoken.write_faults p.spoken.write_faults p.spoken.log.entries.list p.spoken.log.entries.list hears reads
            (turn_is later grew reader after ∙ ap (turn_of p.spoken.log.ops later after) so) (Utters-nothing p.spoken.log.entries.list p.spoken.held) refl;
        faults = record { read = reads; write = refl };
      }

      -- a line that is refused
      module _ (reason : Reason) (so : said ≡ spoken.Bad reason) (q : Speaking) (room : KeepsPlace p.spoken q) where
        abbrev there : Moment
        there = record { console = k; left = y; read_faults = b; spoken = q; over = p.over }

        bad_keeps : {T : Type 0} (result : Result T Trouble) → Says (one (BadReply reason)) (onward p k y b names).spoken q result → Keeps p there
        bad_keeps result refuses = record {
          names = subst (λ (l : List (List ℕ)). Grown p.spoken.log.names l) (sym refuses.names) (Grown-line line p.spoken.log.names names grows);
          few = rw refuses.names (few_after line p.console k p.left y p.spoken.log.names names hears grows);
          ops = refuses.ops;
          over = (refl, refuses.over);
          sound = sound;
        }

        pub heard_bad : {T : Type 0} (t : T) → Says (one (BadReply reason)) (onward p k y b names).spoken q (Ok t) → HasHeard HearsOne (waiting asked) p there (Ok None)
        heard_bad t refuses = record {
          keeps = bad_keeps (Ok t) refuses;
          keeps_place = room;
          follows = λ later grew reader after.
              let grown : Grown names later = subst (λ (l : List (List ℕ)). Grown l later) refuses.names grew in
              Talks-again (turn_at asked p.spoken.log.ops later reader after) after.closed line (one (BadReply reason) p.spoken.log.ops later) p.console k p.left y p.spoken.held q.held p.read_faults b p.spoken.write_faults q.write_faults p.spoken.log.entries.list q.log.entries.list hears reads
              (turn_is later grown reader after ∙ ap (turn_of p.spoken.log.ops later after) so) (refuses.all later grown) refuses.cause;
          faults = record { read = reads; write = refuses.cause };
        }

        pub heard_bad_front : {T : Type 0} (t : Trouble) → Says {T = T} (one (BadReply reason)) (onward p k y b names).spoken q (Err t) → HasHeard HearsOne (waiting asked) p there (Err (end_of_trouble t))
        heard_bad_front {T} t refuses = record {
          keeps = bad_keeps {T = T} (Err t) refuses;
          keeps_place = room;
          follows = λ later grew reader after.
              let grown : Grown names later = subst (λ (l : List (List ℕ)). Grown l later) refuses.names grew in
              heard_trouble _ _ _ after t
              (Breaks-again begun (turn_at asked p.spoken.log.ops later reader after) after.closed line (one (BadReply reason) p.spoken.log.ops later) p.console k p.left y p.spoken.held q.held p.read_faults b p.spoken.write_faults q.write_faults p.spoken.log.entries.list q.log.entries.list t hears reads
              (turn_is later grown reader after ∙ ap (turn_of p.spoken.log.ops later after) so) (refuses.front later grown) refuses.cause);
          faults = record { read = trouble_reads p.read_faults b t reads; write = trouble_writes p.spoken.write_faults q.write_faults t refuses.cause };
        }
