-- A diagnosis over a dialogue.
use Rattle.std.proofs.Common.{refl, ◌∙◌, arith}
use Rattle.std.specs.Prelude.{Result, Ok, Err, MatchResult}
use Rattle.apd_answers.specs.Dialogue.{Diagnosis}
use Rattle.apd_answers.specs.Going.{Moment as Stage, Reaches, Breaks}
use Rattle.apd_answers.specs.Oracle.{Call, calls_of}
use Rattle.apd_answers.specs.declared.oracle.AskEnd.{AskEnd}
use Rattle.apd_answers.specs.declared.replier.Replier as Replier
use Rattle.apd_answers.specs.Store.{Store}
use Rattle.apd_console.specs.Console.{IsKept}
use Rattle.apd_debug.specs.Asking.{KeepsDialogue, dialogue_step, moment_of}
use Rattle.apd_debug.specs.Conversing.{Conversing}
use Rattle.apd_debug.proofs.Going.{kept_through}
use Rattle.apd_io.specs.declared.sink.Sink as Sink
use Rattle.apd_io.specs.declared.source.Source as Source
use Rattle.apd_lines.proofs.Growing.{Grown-self}
use Rattle.apd_oracle.specs.declared.dialogue.Dialogue.{Dialogue}
use Rattle.apd_oracle.proofs.Waiting.{Keeps-more}
use Rattle.apd_talk.specs.Moment.{Keeps, Moment}

Keeps-self : (p : Moment) → IsKept p.console → Keeps p p
Keeps-self p sound = record {
  names = Grown-self p.spoken.log.names;
  few = omega arith;
  ops = refl;
  over = (refl, refl);
  sound = sound;
}

-- what every call keeps is kept by a whole diagnosis
pub kept_so : {D E O : Type 0} (d : Diagnosis D E) (step : O → Call → O → Type 0) (R : O → O → Type 0) → ((p : O) → R p p) → ((p q r : O) → R p q → R q r → R p r) → ((p : O) (call : Call) (q : O) → step p call q → R p q) →
    (p : Stage D O) (store : Store) (to : O) (result : Result E AskEnd) → MatchResult result (λ e. Reaches d step p store to e) (λ e. Breaks d step p store to e) → R p.oracle to
kept_so d step R same more each p store to (Ok e) reached = kept_through step R same more each (calls_of reached.exchanges) p.oracle to reached.calls
kept_so d step R same more each p store to (Err end) broke =
    more p.oracle broke.last.oracle to (kept_through step R same more each (calls_of broke.goes.exchanges) p.oracle broke.last.oracle broke.goes.calls)
    (kept_through step R same more each broke.calls broke.last.oracle to broke.through)

module _ {S K R : Type 0} (s : Source.Ghosts S) (k : Sink.Ghosts K) (r : Replier.Ghosts R) where
  abbrev pub conversing : Conversing (dialogue_step s k r)
  conversing = record {
    moment = λ (d : Dialogue S K R s k r). moment_of s k r d;
    count = λ (d : Dialogue S K R s k r). d.asked;
    replies = λ (d : Dialogue S K R s k r). record { to = r.replies d.replier.now; marked = d.marked };
    by_reference = λ (d : Dialogue S K R s k r). d.by_reference;
    same = λ p call q is. rw (is.5, is.9) refl;
    refers = λ p call q is. is.6;
    counts = λ p call q is. is.7;
    calls = λ p call q is. is.8;
  }

  keeps-self : (d : Dialogue S K R s k r) → KeepsDialogue s k r d d
  keeps-self d = record {
    same = record { console = refl; input = refl; log = refl; out = refl; replier = refl };
    keeps = λ sound. Keeps-self (moment_of s k r d) sound;
    keeps_place = λ free. free;
    replier = refl;
  }

  keeps-more : (d e f : Dialogue S K R s k r) → KeepsDialogue s k r d e → KeepsDialogue s k r e f → KeepsDialogue s k r d f
  keeps-more d e f one two = record {
    same = record {
      console = two.same.console ∙ one.same.console;
      input = two.same.input ∙ one.same.input;
      log = two.same.log ∙ one.same.log;
      out = two.same.out ∙ one.same.out;
      replier = two.same.replier ∙ one.same.replier;
    };
    keeps = λ sound. let first = one.keeps sound in Keeps-more (moment_of s k r d) (moment_of s k r e) (moment_of s k r f) first (two.keeps first.sound);
    keeps_place = λ free. two.keeps_place (one.keeps_place free);
    replier = two.replier ∙ one.replier;
  }

  keeps-each : (d : Dialogue S K R s k r) (call : Call) (e : Dialogue S K R s k r) → dialogue_step s k r d call e → KeepsDialogue s k r d e
  keeps-each d call e is = record {
    same = record { console = is.0; input = is.1; log = is.2; out = is.3; replier = is.4 };
    keeps = λ sound. is.8.keeps;
    keeps_place = is.8.keeps_place;
    replier = is.5;
  }

  pub keeps_dialogue : {D E : Type 0} (d : Diagnosis D E) (p : Stage D (Dialogue S K R s k r)) (store : Store) (to : Dialogue S K R s k r) (result : Result E AskEnd) →
      MatchResult result (λ e. Reaches d (dialogue_step s k r) p store to e) (λ e. Breaks d (dialogue_step s k r) p store to e) → KeepsDialogue s k r p.oracle to
  keeps_dialogue d p store to result went = kept_so d (dialogue_step s k r) (KeepsDialogue s k r) keeps-self keeps-more keeps-each p store to result went
