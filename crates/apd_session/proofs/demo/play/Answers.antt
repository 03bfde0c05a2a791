use Rattle.std.proofs.Common.{refl, length, subst, sym}
use Rattle.apd_session.specs.Outcome.{IsSaid}
use Rattle.apd_session.specs.Preparing.{IsStart}
use Rattle.apd_session.specs.Session.{demonstrates, shows}
use Rattle.apd_session.specs.declared.opening.Start.{Start}
use Rattle.apd_session.proofs.Demos.{none_shown, tree_start}
use Rattle.apd_session.proofs.Turning.{grows_none}
use Rattle.apd_session.proofs.demo.play.Goals as goal

pub returns-in-Err-clause-said : goal.returns-in-Err-clause-said
returns-in-Err-clause-said g c = λ names grew reader.
    none_shown (demonstrates reader c.args.voice.now.log.ops c.args.nodes c.args.start.now) c.args.voice.now.log c.args.voice.now.held c.requires.empty refl

pub returns-in-Err-clause-names : goal.returns-in-Err-clause-names
returns-in-Err-clause-names g c = grows_none 16777216 _ _ refl

pub show-requires-clause-ready : goal.show-requires-clause-ready
show-requires-clause-ready g c = subst (IsStart (length c.args.voice.now.log.names)) (sym c.in-Ok.ensures.tree) (tree_start (length c.args.voice.now.log.names) c.args.nodes c.args.start.now c.requires.ready)

pub returns-in-Ok-clause-said : goal.returns-in-Ok-clause-said
returns-in-Ok-clause-said g c = λ names grew reader.
    subst (λ (start : Start). IsSaid c.show.result (shows reader c.args.voice.now.log.ops c.args.nodes start) c.show.new.voice.log c.args.voice.now.held c.show.new.voice.held) (c.in-Ok.ensures.tree) (c.show.ensures.said names grew reader)
