use Rattle.std.proofs.Common.{Option, Ok, subst}
use Rattle.std.proofs.lemmas.Result.{err_from_is_err_and}
use Rattle.apd_answers.specs.declared.question.Reply.{Reply}
use Rattle.apd_talk.specs.Moment.{moment}
use Rattle.apd_oracle.specs.Dialogue.{HasHeard, HearsOne}
use Rattle.apd_oracle.specs.Waiting.{waiting}
use Rattle.apd_oracle.proofs.Waiting.{IsWaiting-start, IsWaiting-more, waited_end, waited_reply}
use Rattle.apd_oracle.proofs.asking.hear_reply.Goals as goal

pub lines-init : goal.lines-init
lines-init g c = IsWaiting-start c.args.asked.now (moment g.S.Source c.args.desk.now) c.requires

pub lines-preserved : goal.lines-preserved
lines-preserved g c =
    IsWaiting-more c.args.asked.now (moment g.S.Source c.args.desk.now) (moment g.S.Source c.lines.desk)
    (moment g.S.Source c.hear_one.new.desk) c.lines.invariant
    (subst (λ (o : Option Reply). HasHeard HearsOne (waiting c.args.asked.now) (moment g.S.Source c.lines.desk) (moment g.S.Source c.hear_one.new.desk) (Ok o)) c.in_default.is c.in_ok-reply.ensures.heard)

pub returns-in_err-reply-clause-heard : goal.returns-in_err-reply-clause-heard
returns-in_err-reply-clause-heard g c =
    let p = err_from_is_err_and c.from_residual.result c.from_residual.ensures.1 in
    rw (p.1, p.2)
    (waited_end c.args.asked.now (moment g.S.Source c.args.desk.now) (moment g.S.Source c.lines.desk)
    (moment g.S.Source c.hear_one.new.desk) c.lines.invariant c.in_err-reply.field-0.0 c.in_err-reply.ensures.heard)

pub returns-in-Some-clause-heard : goal.returns-in-Some-clause-heard
returns-in-Some-clause-heard g c =
    waited_reply c.args.asked.now (moment g.S.Source c.args.desk.now) (moment g.S.Source c.lines.desk)
    (moment g.S.Source c.hear_one.new.desk) c.lines.invariant c.in-Some.reply
    (subst (λ (o : Option Reply). HasHeard HearsOne (waiting c.args.asked.now) (moment g.S.Source c.lines.desk) (moment g.S.Source c.hear_one.new.desk) (Ok o)) c.in-Some.is c.in_ok-reply.ensures.heard)
