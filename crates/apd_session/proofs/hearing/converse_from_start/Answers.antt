use Rattle.std.proofs.lemmas.Result.{err_from_is_err_and}
use Rattle.std.proofs.Common.{refl}
use Rattle.apd_talk.specs.Moment.{moment, saying}
use Rattle.apd_session.proofs.Going.{can_begin, kept_at_first, opens, opens_not}
use Rattle.apd_session.proofs.hearing.converse_from_start.Goals as goal

pub say_beginning-requires : goal.say_beginning-requires
say_beginning-requires g c = c.requires.ready.beginning

pub converse-requires : goal.converse-requires
converse-requires g c =
    can_begin c.args.start.now.state (saying (moment g.S.Source c.args.desk.now) c.say_beginning.new.voice) (rw c.in_ok-say_beginning.ensures.names c.requires.ready.state) (rw c.in_ok-say_beginning.ensures.names c.requires.few) c.requires.start

pub returns-in_err-say_beginning : goal.returns-in_err-say_beginning
returns-in_err-say_beginning g c =
    let p = err_from_is_err_and c.from_residual.result c.from_residual.ensures.1 in rw (p.1, p.2)
    (opens_not c.args.start.now (moment g.S.Source c.args.desk.now) _ refl refl refl refl _ (kept_at_first c.args.desk.now.console.now c.requires.start) c.in_err-say_beginning.ensures)

pub returns : goal.returns
returns g c =
    opens c.args.start.now (moment g.S.Source c.args.desk.now)
    (saying (moment g.S.Source c.args.desk.now) c.say_beginning.new.voice) refl refl refl refl _ _ c.converse.result c.in_ok-say_beginning.ensures c.converse.ensures
