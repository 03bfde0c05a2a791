use Rattle.std.proofs.Common.{◌∙◌}
use Rattle.apd_session.proofs.Loading.{broken_writes, stop_no_write}
use Rattle.apd_session.proofs.Worlds.{said_before, front_before}
use Rattle.apd_session.proofs.ending.end_before.Goals as goal

pub returns-in-Ok-clause-said : goal.returns-in-Ok-clause-said
returns-in-Ok-clause-said g c = λ names grew.
    said_before c.args.voice.now.log c.say_closing.new.voice.log _ _ names c.args.beginning.now c.args.stop c.requires.empty c.in-Ok.ensures.ops (c.in-Ok.ensures.all names grew)

pub returns-in-Ok-clause-write : goal.returns-in-Ok-clause-write
returns-in-Ok-clause-write g c = λ is. absurd (stop_no_write c.args.stop.status c.requires.stop.may is)

pub returns-in-Err-clause-said : goal.returns-in-Err-clause-said
returns-in-Err-clause-said g c = λ names grew.
    rw c.status_of.ensures
    (front_before c.args.voice.now.log c.say_closing.new.voice.log _ _ names c.args.beginning.now c.args.stop c.in-Err.trouble c.requires.empty c.in-Err.ensures.ops (c.in-Err.ensures.front names grew))

pub returns-in-Err-clause-writes : goal.returns-in-Err-clause-writes
returns-in-Err-clause-writes g c = λ not. broken_writes c.in-Err.trouble _ _ c.in-Err.ensures.cause (λ is. not (c.status_of.ensures ∙ is))
