use Rattle.std.proofs.Common.{refl}
use Rattle.apd_session.specs.Known.{Streams, streams_by}
use Rattle.apd_session.proofs.Serving.{checked_goes, played_goes}
use Rattle.apd_session.proofs.top.run_course.Goals as goal

pub returns-in-Hears-clause-goes_on : goal.returns-in-Hears-clause-goes_on
returns-in-Hears-clause-goes_on g c = rw c.in-Hears.is c.hear.ensures.goes_on

pub returns-in-Plays-clause-goes_on : goal.returns-in-Plays-clause-goes_on
returns-in-Plays-clause-goes_on g c =
    let p : Streams = streams_by g.S.Source c.args.input.now c.args.voice.now in
    let q : Streams = streams_by g.S.Source c.args.input.now c.play.new.voice in
    rw c.in-Plays.is (played_goes p q c.args.voice.now.log.names c.play.new.voice.log refl refl c.args.voice.now.log.ops c.args.start.now c.in-Plays.nodes c.play.result c.play.ensures.said c.play.ensures.names c.play.ensures.write c.play.ensures.writes)

pub returns-in-Checks-clause-goes_on : goal.returns-in-Checks-clause-goes_on
returns-in-Checks-clause-goes_on g c =
    let p : Streams = streams_by g.S.Source c.args.input.now c.args.voice.now in
    let q : Streams = streams_by g.S.Source c.args.input.now c.check_log.new.voice in
    rw c.in-Checks.is (checked_goes p q c.args.voice.now.log.names c.check_log.new.voice.log refl refl c.args.voice.now.log.ops c.args.start.now c.in-Checks.log c.check_log.result c.check_log.ensures.checked c.check_log.ensures.write c.check_log.ensures.writes)
