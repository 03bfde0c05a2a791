use Rattle.std.proofs.Common.{◌∙◌, ap, sym, refl, List, ℕ, inl, inr}
use Rattle.apd_read.specs.Reader.{Reader}
use Rattle.apd_read.proofs.Every.{every_reader}
use Rattle.apd_check.specs.declared.checked.Checked.TheVariants.{Holds}
use Rattle.apd_session.specs.Known.{streams_by}
use Rattle.apd_session.specs.Opening.{hears}
use Rattle.apd_session.specs.Session.{transcript_of}
use Rattle.apd_talk.specs.Moment.{moment}
use Rattle.apd_session.proofs.Limit.{nothing_read, reads_in_time, takes_limit}
use Rattle.apd_talk.proofs.Answering.{fault_rose}
use Rattle.apd_talk.proofs.Counting.{write_rose}
use Rattle.apd_session.proofs.Loading.{broken_no_limit, broken_no_read, broken_reads, broken_write, broken_writes, ended_no_write, ended_over, ended_read, ended_reads, grew_lines, opened_broken, opened_ended}
use Rattle.apd_session.proofs.Turning.{grows_none}
use Rattle.apd_lines.proofs.Growing.{Grown-self}
use Rattle.apd_session.proofs.Worlds.{unread_front}
use Rattle.apd_session.proofs.hearing.hear.Goals as goal

pub returns-in_default-clause-goes_on : goal.returns-in_default-clause-goes_on
returns-in_default-clause-goes_on g c = record {
  verdict = Holds 0;
  judged = λ names grew reader. inr tt;
  answers = λ names grew reader.
      unread_front (streams_by g.S.Source c.args.input.now c.args.voice.now) (streams_by g.S.Source c.args.input.now c.args.voice.now) (transcript_of reader (hears c.args.voice.now.log.ops c.args.start.now) (Holds 0)) c.args.voice.now.log refl refl c.requires.empty (λ input ends. inl refl);
  names = grows_none 16777216 _ _ refl;
  limit = λ is. absurd (cc);
  read = λ is. absurd (cc);
  write = λ is. absurd (cc);
  in_time = nothing_read _ _ refl;
  reads = inl refl;
  writes = λ not. refl;
  stopped = λ why e. absurd (cc);
}

-- the input and the voice, as the desk leaves them
abbrev Over : Type 0
Over = ℕ × (ℕ × ℕ)

pub returns-in-Ok-converse_from_start-clause-over : goal.returns-in-Ok-converse_from_start-clause-over
returns-in-Ok-converse_from_start-clause-over g c =
    let voice_is = c.voice-1.given.1 (sym (ap (λ (n : Over). n.1.1) c.converse_from_start.ensures.keeps.over.0)) in
    rw voice_is c.converse_from_start.ensures.keeps.over.1

pub returns-clause-over : goal.returns-clause-over
returns-clause-over g c =
    let voice_is = c.voice-1.given.1 (sym (ap (λ (n : Over). n.1.1) c.converse_from_start.ensures.keeps.over.0)) in
    rw voice_is c.converse_from_start.ensures.keeps.over.1

pub returns-in-Ok-converse_from_start-clause-goes_on : goal.returns-in-Ok-converse_from_start-clause-goes_on
returns-in-Ok-converse_from_start-clause-goes_on g c =
    let input_is = c.input-1.given.1 (sym (ap (λ (n : Over). n.1.0) c.converse_from_start.ensures.keeps.over.0)) in
    let voice_is = c.voice-1.given.1 (sym (ap (λ (n : Over). n.1.1) c.converse_from_start.ensures.keeps.over.0)) in
    rw (input_is, voice_is) record {
      verdict = Holds 0;
      judged = λ names grew reader. inr tt;
      answers = λ names grew reader.
          rw c.status_after.ensures
          (opened_ended names reader c.args.start.now (record { console = c.in-Ok.console; left = g.S.Source.left c.args.input.now; read_faults = g.S.Source.faults c.args.input.now; spoken = c.args.voice.now; over = (0, (0, 0)) })
          (moment g.S.Source c.converse_from_start.new.desk) c.in-Ok.ensures c.converse_from_start.ensures.keeps.sound
          c.requires.empty c.converse_from_start.ensures.keeps.ops c.in-Ok-converse_from_start.ending (c.in-Ok-converse_from_start.ensures.course names grew reader));
      names = grew_lines _ _ c.in-Ok.console c.converse_from_start.new.desk.console.now c.converse_from_start.ensures.keeps.names c.in-Ok.ensures c.converse_from_start.ensures.keeps.few;
      limit = λ is.
          let names : List (List ℕ) = c.converse_from_start.new.desk.voice.now.log.names in
          let some : Reader names = every_reader names in
          let ends = c.in-Ok-converse_from_start.ensures.course names (Grown-self names) some in
          takes_limit names some c.args.voice.now.log.ops c.args.start.now c.in-Ok.console c.converse_from_start.new.desk.console.now _ _ _ _ _ _ _ _ c.args.voice.now.log.entries.list c.converse_from_start.new.desk.voice.now.log.entries.list c.in-Ok.ensures c.converse_from_start.ensures.keeps.sound
          (rw (ended_over c.in-Ok-converse_from_start.ending (sym c.status_after.ensures ∙ is)) at ends);
      read = λ is.
          let some : Reader c.converse_from_start.new.desk.voice.now.log.names = every_reader c.converse_from_start.new.desk.voice.now.log.names in
          let ends = c.in-Ok-converse_from_start.ensures.course c.converse_from_start.new.desk.voice.now.log.names (Grown-self c.converse_from_start.new.desk.voice.now.log.names) some in
          inr (fault_rose c.in-Ok-converse_from_start.ending _ _ (ended_read c.in-Ok-converse_from_start.ending (sym c.status_after.ensures ∙ is)) ends.reads);
      write = λ is. absurd (ended_no_write c.in-Ok-converse_from_start.ending (sym c.status_after.ensures ∙ is));
      in_time =
          let some : Reader c.converse_from_start.new.desk.voice.now.log.names = every_reader c.converse_from_start.new.desk.voice.now.log.names in
          let ends = c.in-Ok-converse_from_start.ensures.course c.converse_from_start.new.desk.voice.now.log.names (Grown-self c.converse_from_start.new.desk.voice.now.log.names) some in
          reads_in_time c.in-Ok.console c.converse_from_start.new.desk.console.now _ _ ends.heard c.in-Ok.ensures c.converse_from_start.ensures.keeps.sound ends.hands ends.on_time;
      reads =
          let some : Reader c.converse_from_start.new.desk.voice.now.log.names = every_reader c.converse_from_start.new.desk.voice.now.log.names in
          let ends = c.in-Ok-converse_from_start.ensures.course c.converse_from_start.new.desk.voice.now.log.names (Grown-self c.converse_from_start.new.desk.voice.now.log.names) some in
          rw c.status_after.ensures
          (ended_reads c.in-Ok-converse_from_start.ending (streams_by g.S.Source c.args.input.now c.args.voice.now) (streams_by g.S.Source c.converse_from_start.new.desk.input.now c.converse_from_start.new.desk.voice.now) ends.reads);
      writes = λ not.
          let some : Reader c.converse_from_start.new.desk.voice.now.log.names = every_reader c.converse_from_start.new.desk.voice.now.log.names in
          (c.in-Ok-converse_from_start.ensures.course c.converse_from_start.new.desk.voice.now.log.names (Grown-self c.converse_from_start.new.desk.voice.now.log.names) some).writes;
      stopped = λ why e. absurd (cc);
    }

pub returns-clause-goes_on : goal.returns-clause-goes_on
returns-clause-goes_on g c =
    let input_is = c.input-1.given.1 (sym (ap (λ (n : Over). n.1.0) c.converse_from_start.ensures.keeps.over.0)) in
    let voice_is = c.voice-1.given.1 (sym (ap (λ (n : Over). n.1.1) c.converse_from_start.ensures.keeps.over.0)) in
    rw (input_is, voice_is) record {
      verdict = Holds 0;
      judged = λ names grew reader. inr tt;
      answers = λ names grew reader.
          rw c.status_of.ensures
          (opened_broken names reader c.args.start.now (record { console = c.in-Ok.console; left = g.S.Source.left c.args.input.now; read_faults = g.S.Source.faults c.args.input.now; spoken = c.args.voice.now; over = (0, (0, 0)) })
          (moment g.S.Source c.converse_from_start.new.desk) c.in-Ok.ensures c.converse_from_start.ensures.keeps.sound
          c.requires.empty c.converse_from_start.ensures.keeps.ops c.in-Err.trouble (c.in-Err.ensures.course names grew reader));
      names = grew_lines _ _ c.in-Ok.console c.converse_from_start.new.desk.console.now c.converse_from_start.ensures.keeps.names c.in-Ok.ensures c.converse_from_start.ensures.keeps.few;
      limit = λ is. absurd (broken_no_limit c.in-Err.trouble (sym c.status_of.ensures ∙ is));
      read = λ is. absurd (broken_no_read c.in-Err.trouble (sym c.status_of.ensures ∙ is));
      write = λ is.
          let some : Reader c.converse_from_start.new.desk.voice.now.log.names = every_reader c.converse_from_start.new.desk.voice.now.log.names in
          let breaks = c.in-Err.ensures.course c.converse_from_start.new.desk.voice.now.log.names (Grown-self c.converse_from_start.new.desk.voice.now.log.names) some in
          write_rose _ _ c.in-Err.trouble breaks.writes (broken_write c.in-Err.trouble (sym c.status_of.ensures ∙ is));
      in_time =
          let some : Reader c.converse_from_start.new.desk.voice.now.log.names = every_reader c.converse_from_start.new.desk.voice.now.log.names in
          let breaks = c.in-Err.ensures.course c.converse_from_start.new.desk.voice.now.log.names (Grown-self c.converse_from_start.new.desk.voice.now.log.names) some in
          reads_in_time c.in-Ok.console c.converse_from_start.new.desk.console.now _ _ breaks.heard c.in-Ok.ensures c.converse_from_start.ensures.keeps.sound breaks.hands breaks.on_time;
      reads =
          let some : Reader c.converse_from_start.new.desk.voice.now.log.names = every_reader c.converse_from_start.new.desk.voice.now.log.names in
          let breaks = c.in-Err.ensures.course c.converse_from_start.new.desk.voice.now.log.names (Grown-self c.converse_from_start.new.desk.voice.now.log.names) some in
          rw c.status_of.ensures
          (broken_reads c.in-Err.trouble breaks.way (streams_by g.S.Source c.args.input.now c.args.voice.now) (streams_by g.S.Source c.converse_from_start.new.desk.input.now c.converse_from_start.new.desk.voice.now) breaks.reads);
      writes = λ not.
          let some : Reader c.converse_from_start.new.desk.voice.now.log.names = every_reader c.converse_from_start.new.desk.voice.now.log.names in
          let breaks = c.in-Err.ensures.course c.converse_from_start.new.desk.voice.now.log.names (Grown-self c.converse_from_start.new.desk.voice.now.log.names) some in
          broken_writes c.in-Err.trouble _ _ breaks.writes (λ is. not (c.status_of.ensures ∙ is));
      stopped = λ why e. absurd (cc);
    }
