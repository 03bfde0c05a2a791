use Rattle.std.proofs.Common.{refl}
use Rattle.apd_session.specs.Known.{Streams, streams_by}
use Rattle.apd_session.specs.Outcome.{IsSaid}
use Rattle.apd_session.specs.Session.{ends_before}
use Rattle.apd_talk.specs.Speech.{Lasting}
use Rattle.apd_session.proofs.Serving.{closed_goes, unloaded_goes}
use Rattle.apd_session.proofs.top.run_opening.Goals as goal

pub returns-in-Unloaded-clause-goes_on : goal.returns-in-Unloaded-clause-goes_on
returns-in-Unloaded-clause-goes_on g c =
    let p : Streams = streams_by g.S.Source c.args.input.now c.args.voice.now in
    let q : Streams = streams_by g.S.Source c.args.input.now c.end_with.new.voice in
    let ready = rw c.in-Unloaded.is at c.requires.ready in
    rw c.in-Unloaded.is (unloaded_goes p q c.args.voice.now.log.names c.end_with.new.voice.log refl refl c.in-Unloaded.stop c.end_with.result c.end_with.ensures.names ready.may c.end_with.ensures.said c.end_with.ensures.write c.end_with.ensures.writes c.end_with.ensures.is)

pub end_before-status-requires-clause-empty : goal.end_before-status-requires-clause-empty
end_before-status-requires-clause-empty g c = rw c.set_ops.ensures c.requires.empty

pub end_before-status-requires-clause-beginning : goal.end_before-status-requires-clause-beginning
end_before-status-requires-clause-beginning g c = let ready = rw c.in-Closed.is at c.requires.ready in rw c.set_ops.ensures ready.0

pub end_before-status-requires-clause-stop : goal.end_before-status-requires-clause-stop
end_before-status-requires-clause-stop g c = let ready = rw c.in-Closed.is at c.requires.ready in rw c.set_ops.ensures ready.1

pub returns-in-Closed-clause-goes_on : goal.returns-in-Closed-clause-goes_on
returns-in-Closed-clause-goes_on g c =
    let p : Streams = streams_by g.S.Source c.args.input.now c.args.voice.now in
    let q : Streams = streams_by g.S.Source c.args.input.now c.end_before-status.new.voice in
    let ready = rw c.in-Closed.is at c.requires.ready in
    let names = rw c.set_ops.ensures at c.end_before-status.ensures.names in
    let said : Lasting c.args.voice.now.log.names (λ names. IsSaid c.end_before-status.result (ends_before names c.in-Closed.ops c.in-Closed.beginning c.in-Closed.stop) c.end_before-status.new.voice.log p.held q.held) =
    rw c.set_ops.ensures at c.end_before-status.ensures.said in
    rw c.in-Closed.is (closed_goes p q c.args.voice.now.log.names c.end_before-status.new.voice.log refl refl c.in-Closed.ops c.in-Closed.beginning c.in-Closed.stop c.end_before-status.result names ready.1.may said
    (rw c.set_ops.ensures at c.end_before-status.ensures.write) (rw c.set_ops.ensures at c.end_before-status.ensures.writes) c.end_before-status.ensures.is)

pub returns-in-Closed-clause-over : goal.returns-in-Closed-clause-over
returns-in-Closed-clause-over g c = rw c.set_ops.ensures at c.end_before-status.ensures.over

pub run_course-status-requires-clause-empty : goal.run_course-status-requires-clause-empty
run_course-status-requires-clause-empty g c = rw c.set_ops-in-Open.ensures c.requires.empty

pub run_course-status-requires-clause-ready : goal.run_course-status-requires-clause-ready
run_course-status-requires-clause-ready g c = let ready = rw c.in-Open.is at c.requires.ready in rw c.set_ops-in-Open.ensures ready.0

pub run_course-status-requires-clause-course : goal.run_course-status-requires-clause-course
run_course-status-requires-clause-course g c = let ready = rw c.in-Open.is at c.requires.ready in ready.1

pub run_course-status-requires-clause-few : goal.run_course-status-requires-clause-few
run_course-status-requires-clause-few g c = rw c.set_ops-in-Open.ensures c.requires.few

pub returns-in-Open-clause-goes_on : goal.returns-in-Open-clause-goes_on
returns-in-Open-clause-goes_on g c = rw c.in-Open.is (rw c.set_ops-in-Open.ensures at c.run_course-status.ensures.goes_on)

pub returns-in-Open-clause-over : goal.returns-in-Open-clause-over
returns-in-Open-clause-over g c = rw c.set_ops-in-Open.ensures at c.run_course-status.ensures.over
