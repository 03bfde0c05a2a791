use Rattle.std.proofs.Common.{◌∙◌, List, ℕ, refl, sym, subst}
use Rattle.apd_io.specs.Outside.{Rose}
use Rattle.apd_console.specs.Lines.{Ended}
use Rattle.apd_term.specs.Growth.{Grown}
use Rattle.apd_session.specs.Demo.{demo_lines}
use Rattle.apd_session.specs.Known.{Streams}
use Rattle.apd_session.specs.Session.{hears_lines}
use Rattle.apd_session.proofs.Demos.{done_writes, heard_known, outcome_said, outcome_unsaid, shown_rose, shown_writes, whole_done}
use Rattle.apd_session.proofs.Statuses.{shows_done}
use Rattle.apd_session.proofs.demo.show.Goals as goal

pub returns-then-is_done-clause-said : goal.returns-then-is_done-clause-said
returns-then-is_done-clause-said g c = λ names grew reader.
    let p : Streams = record { left = c.args.lines.now; read_faults = 0; held = c.args.voice.now.held; write_faults = c.args.voice.now.write_faults } in
    let q : Streams = record { left = c.hear-heard.new.input; read_faults = 0; held = c.hear-heard.new.voice.held; write_faults = c.hear-heard.new.voice.write_faults } in
    let grown : Grown c.hear-heard.new.voice.log.names names = subst (λ (l : List (List ℕ)). Grown l names) c.say_outcome.ensures.names grew in
    let t = hears_lines reader c.args.voice.now.log.ops c.args.start.now demo_lines Ended in
    let said = heard_known c.args.voice.now.log.ops c.args.start.now c.args.voice.now.log.names p q c.hear-heard.new.voice.log c.hear-heard.result c.requires.lines refl refl c.hear-heard.ensures.goes_on names grown reader in
    let whole = whole_done c.hear-heard.result t c.hear-heard.new.voice.log p.held q.held (sym c.is_done.ensures ∙ c.if-is_done.true) said in
    rw c.status_shown.ensures
    (outcome_said names c.args.nodes t c.hear-heard.new.voice c.say_outcome.new.voice p.held c.say_outcome.result whole c.say_outcome.ensures grew)

pub returns-then-is_done-clause-names : goal.returns-then-is_done-clause-names
returns-then-is_done-clause-names g c = rw c.say_outcome.ensures.names c.hear-heard.ensures.goes_on.names

pub returns-then-is_done-clause-write : goal.returns-then-is_done-clause-write
returns-then-is_done-clause-write g c = λ is.
    subst (λ (n : ℕ). Rose n c.say_outcome.new.voice.write_faults) (c.hear-heard.ensures.goes_on.writes (done_writes c.hear-heard.result (sym c.is_done.ensures ∙ c.if-is_done.true)))
    (shown_rose c.say_outcome.result _ _ c.say_outcome.ensures.cause (sym c.status_shown.ensures ∙ is))

pub returns-then-is_done-clause-writes : goal.returns-then-is_done-clause-writes
returns-then-is_done-clause-writes g c = λ not.
    shown_writes c.say_outcome.result _ _ c.say_outcome.ensures.cause (λ is. not (c.status_shown.ensures ∙ is)) ∙ c.hear-heard.ensures.goes_on.writes (done_writes c.hear-heard.result (sym c.is_done.ensures ∙ c.if-is_done.true))

pub returns-clause-said : goal.returns-clause-said
returns-clause-said g c = λ names grew reader.
    let p : Streams = record { left = c.args.lines.now; read_faults = 0; held = c.args.voice.now.held; write_faults = c.args.voice.now.write_faults } in
    let q : Streams = record { left = c.hear-heard.new.input; read_faults = 0; held = c.hear-heard.new.voice.held; write_faults = c.hear-heard.new.voice.write_faults } in
    let t = hears_lines reader c.args.voice.now.log.ops c.args.start.now demo_lines Ended in
    let said = heard_known c.args.voice.now.log.ops c.args.start.now c.args.voice.now.log.names p q c.hear-heard.new.voice.log c.hear-heard.result c.requires.lines refl refl c.hear-heard.ensures.goes_on names grew reader in
    outcome_unsaid names c.args.nodes t c.hear-heard.result c.hear-heard.new.voice.log p.held q.held (shows_done names reader c.args.voice.now.log.ops c.args.nodes c.args.start.now) (sym c.is_done.ensures ∙ c.if-is_done.false) said

pub returns-clause-names : goal.returns-clause-names
returns-clause-names g c = c.hear-heard.ensures.goes_on.names

pub returns-clause-write : goal.returns-clause-write
returns-clause-write g c = c.hear-heard.ensures.goes_on.write

pub returns-clause-writes : goal.returns-clause-writes
returns-clause-writes g c = c.hear-heard.ensures.goes_on.writes
