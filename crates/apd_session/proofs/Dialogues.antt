-- A diagnosis over a dialogue is a part of the conversation.
use Rattle.std.proofs.Common.{◌≡◌, ◌<◌, ℕ, List, length, refl, sym, subst}
use Rattle.std.specs.Prelude.{Result, Ok, Err, IfOk, MatchResult}
use Rattle.apd_answers.specs.Dialogue.{Diagnosis}
use Rattle.apd_answers.specs.Going.{at, Breaks, Reaches}
use Rattle.apd_answers.specs.declared.oracle.AskEnd.{AskEnd}
use Rattle.apd_answers.specs.declared.replier.Replier as Replier
use Rattle.apd_answers.specs.Store.{Store}
use Rattle.apd_console.specs.Console.{IsKept, Kept}
use Rattle.apd_debug.specs.Asking.{dialogue_step, moment_of}
use Rattle.apd_debug.specs.Hearing.{HearsReplies}
use Rattle.apd_debug.specs.Known.{KeepsNamed}
use Rattle.apd_debug.specs.NamedStates.{AreReplies}
use Rattle.apd_debug.specs.Steps.{most_in_a_row}
use Rattle.apd_debug.proofs.Asking.{conversing, keeps_dialogue}
use Rattle.apd_debug.proofs.Going.{diagnosed_so, named_reached}
use Rattle.apd_debug.proofs.Kept.{replies_kept}
use Rattle.apd_io.specs.Outside.{Left}
use Rattle.apd_io.specs.declared.sink.Sink as Sink
use Rattle.apd_io.specs.declared.source.Source as Source
use Rattle.apd_ops.specs.Table.{Table}
use Rattle.apd_oracle.specs.declared.dialogue.Dialogue.{Dialogue}
use Rattle.apd_query.specs.declared.state.State.{State}
use Rattle.apd_read.specs.Reader.{Reader}
use Rattle.apd_talk.specs.Moment.{Moment}
use Rattle.apd_talk.specs.Speech.{Spoken, bare}
use Rattle.apd_oracle.specs.Waiting.{Replies, replying}
use Rattle.apd_oracle.proofs.Bare.{bare_at}
use Rattle.apd_term.specs.Growth.{Grown}
use Rattle.apd_text.specs.Named.{EntryIsNamed}
use Rattle.apd_text.specs.declared.entry.Entry.{Entry}
use Rattle.apd_session.specs.Diagnosing.{Answered, Diagnoses, IsDiagnosed, answered}
use Rattle.apd_session.specs.Steps.{Method, by_loop, by_missing, by_wrong, first_word, situation, talker}

-- where a question of a diagnosis waits, the session hears a line as a reply to it
abbrev pub HearsFor : {D E : Type 0} → Method D E → Type 0
HearsFor d = (names : List (List ℕ)) (reader : Reader names) (ops : Table) (s : State) → HearsReplies (first_word s.referee) (d.diagnosis s) (d.found s) (situation d s) reader ops (talker reader ops)

pub hears_wrong : HearsFor by_wrong
hears_wrong names reader ops s = record { steps = λ store count asked next line. refl; closes = λ store count asked next close. refl }

pub hears_missing : HearsFor by_missing
hears_missing names reader ops s = record { steps = λ store count asked next line. refl; closes = λ store count asked next close. refl }

pub hears_loop : HearsFor by_loop
hears_loop names reader ops s = record { steps = λ store count asked next line. refl; closes = λ store count asked next close. refl }

module _ {D E : Type 0} (d : Method D E) (hears : HearsFor d) (this : Diagnosis D E) (IsKnown : ℕ → Store → D → Type 0) (keeps : (s : State) → KeepsNamed this (d.found s) IsKnown)
    {S K R : Type 0} (s : Source.Ghosts S) (k : Sink.Ghosts K) (r : Replier.Ghosts R) (x : D) (store pairs_now : Store) (from to : Dialogue S K R s k r) where
  -- the diagnosis came to its end over the dialogue, or it broke off
  abbrev Went : Diagnosis D E → Result E AskEnd → Type 0
  Went z result = MatchResult result (λ e. Reaches z (dialogue_step s k r) (at store x from) pairs_now to e) (λ e. Breaks z (dialogue_step s k r) (at store x from) pairs_now to e)

  found_named : (t : State) (answer : Result E AskEnd) → Went this answer → IsKnown (length from.log.now.names) store x → IfOk answer (λ e. EntryIsNamed (length to.log.now.names) (d.found t e))
  found_named t (Ok e) reached known = named_reached this (d.found t) IsKnown (keeps t) (dialogue_step s k r) (conversing s k r) (at store x from) pairs_now to e reached known
  found_named t (Err end) broke known = tt

  -- in a state in which the diagnosis is this one
  is_diagnosed : (result : Result E AskEnd) → Went this result → length to.log.now.entries.list < most_in_a_row → IsKnown (length from.log.now.names) store x → (names : List (List ℕ)) (reader : Reader names) → Grown to.log.now.names names → (t : State) → first_word t.referee ≡ replying (r.replies from.replier.now) from.marked → d.diagnosis t ≡ this →
      IsDiagnosed d reader t x (answered store from.asked) (answered pairs_now to.asked) (moment_of s k r from) (moment_of s k r to) result
  is_diagnosed result went few known names reader grew t his same =
      diagnosed_so (d.diagnosis t) (d.found t) IsKnown (subst (λ (z : Diagnosis D E). KeepsNamed z (d.found t) IsKnown) (sym same) (keeps t)) (dialogue_step s k r) (conversing s k r)
      (first_word t.referee) (situation d t) reader from.log.now.ops (talker reader from.log.now.ops) (hears names reader from.log.now.ops t) (at store x from) pairs_now to result
      (subst (λ (z : Diagnosis D E). Went z result) (sym same) went) refl (sym his) few known grew

  pub diagnoses : (result : Result E AskEnd) → Went this result → length to.log.now.entries.list < most_in_a_row → IsKnown (length from.log.now.names) store x → AreReplies (length from.log.now.names) store → IsKept from.console.now → (entry : E → Entry) → KeepsNamed this entry IsKnown →
      Diagnoses d (replying (r.replies from.replier.now) from.marked) this x (answered store from.asked) (answered pairs_now to.asked) (moment_of s k r from) (moment_of s k r to) result
  diagnoses result went few known replies sound entry keeps_entry =
      let kept = keeps_dialogue s k r this (at store x from) pairs_now to result went in
      record {
        keeps = kept.keeps sound;
        keeps_place = kept.keeps_place;
        course = λ names grew reader t his same. is_diagnosed result went few known names reader grew t his same;
        named = λ t. found_named t result went known;
        replies = replies_kept this entry IsKnown keeps_entry (dialogue_step s k r) (conversing s k r) (at store x from) pairs_now to result went known replies;
      }

module _ {D E : Type 0} (d : Method D E) (this : Diagnosis D E) (x : D) (now : Answered) (p q : Moment) (result : Result E AskEnd) (over : (q.over ≡ p.over) × (q.spoken.over ≡ p.spoken.over)) where
  over_references : (his : Replies) (before : Answered) → Diagnoses d his this x before now (bare_at p) (bare_at q) result → Diagnoses d his this x before now p q result
  over_references his before is = record {
    keeps = record {
      names = is.keeps.names;
      few = is.keeps.few;
      ops = is.keeps.ops;
      over = over;
      sound = is.keeps.sound;
    };
    keeps_place = is.keeps_place;
    course = is.course;
    named = is.named;
    replies = is.replies;
  }

  -- a diagnosis at a desk goes as it does over what the desk lends
  pub at_a_desk : (his first : Replies) (before at_first : Answered) (console : Kept) (left : Left) (reads : ℕ) (spoken : Spoken) →
      his ≡ first → before ≡ at_first → console ≡ p.console → left ≡ p.left → reads ≡ p.read_faults → spoken ≡ bare p.spoken →
      Diagnoses d his this x before now (record { console = console; left = left; read_faults = reads; spoken = spoken; over = (0, (0, 0)) }) (bare_at q) result → Diagnoses d first this x at_first now p q result
  at_a_desk his first before at_first console left reads spoken his_are before_is console_is left_is reads_are spoken_is is =
      over_references first at_first (rw (his_are, before_is, console_is, left_is, reads_are, spoken_is) at is)
