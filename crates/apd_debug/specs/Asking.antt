-- The dialogue of apd_oracle: each of its calls is a part of the conversation over its console, input, log and sink.
use Rattle.std.specs.Prelude.{◌≡◌}
use Rattle.apd_answers.specs.Oracle.{Call}
use Rattle.apd_answers.specs.declared.replier.Replier as Replier
use Rattle.apd_console.specs.Console.{IsKept}
use Rattle.apd_io.specs.declared.sink.Sink as Sink
use Rattle.apd_io.specs.declared.source.Source as Source
use Rattle.apd_oracle.specs.Dialogue.{Calls, KeepsPlace, counted, referred}
use Rattle.apd_oracle.specs.declared.dialogue.Dialogue.{Dialogue}
use Rattle.apd_talk.specs.Moment.{Keeps, Moment, among}
use Rattle.apd_talk.specs.Speech.{said}

module _ {S K R : Type 0} (s : Source.Ghosts S) (k : Sink.Ghosts K) (r : Replier.Ghosts R) where
  -- the moment of the conversation at which a dialogue is
  abbrev pub moment_of : Dialogue S K R s k r → Moment
  moment_of d = among s d.console.now d.input.now (said k d.log.now d.out.now)

  -- both are over the same references
  pub record SameReferences (d e : Dialogue S K R s k r) : Type 0 where
    pub console : e.console.ghost_name ≡ d.console.ghost_name
    pub input : e.input.ghost_name ≡ d.input.ghost_name
    pub log : e.log.ghost_name ≡ d.log.ghost_name
    pub out : e.out.ghost_name ≡ d.out.ghost_name
    pub replier : e.replier.ghost_name ≡ d.replier.ghost_name

  -- the step of a dialogue
  abbrev pub dialogue_step : Dialogue S K R s k r → Call → Dialogue S K R s k r → Type 0
  dialogue_step d call e =
      (e.console.ghost_name ≡ d.console.ghost_name) × (e.input.ghost_name ≡ d.input.ghost_name) × (e.log.ghost_name ≡ d.log.ghost_name) × (e.out.ghost_name ≡ d.out.ghost_name)
      × (e.replier.ghost_name ≡ d.replier.ghost_name) × (e.replier.now ≡ d.replier.now) × (e.by_reference ≡ referred (r.replies d.replier.now) d.marked call d.by_reference)
      × (e.asked ≡ counted call d.asked) × Calls (r.replies d.replier.now) call d.asked d.by_reference (moment_of d) (moment_of e) × (e.marked ≡ d.marked)

  -- what a whole diagnosis keeps of a dialogue
  pub record KeepsDialogue (d e : Dialogue S K R s k r) : Type 0 where
    pub same : SameReferences d e
    pub keeps : IsKept d.console.now → Keeps (moment_of d) (moment_of e)
    pub keeps_place : KeepsPlace (moment_of d).spoken (moment_of e).spoken
    pub replier : e.replier.now ≡ d.replier.now
