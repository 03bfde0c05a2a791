use Rattle.std.proofs.Common.{◌∙◌, ap}
use Rattle.std.proofs.lemmas.Result.{IfOk-weaker}
use Rattle.apd_engine.specs.Search.{called_at, stand}
use Rattle.apd_engine.specs.declared.search.Search.{Search}
use Rattle.apd_engine.proofs.Telling.{tells_call, tells_called, tells_call_of}
use Rattle.apd_engine.proofs.search.Search.call.Goals as goal

pub returns-then-unread-2-clause-told : goal.returns-then-unread-2-clause-told
returns-then-unread-2-clause-told c = λ kept.
    tells_call kept c.args.unread (stand c.args.self.now) (stand c.step_in.new.self) c.if-unread-2.true c.if-unread.true c.requires.calls c.requires.goes c.requires.waits c.in_ok-step_in.ensures.called

pub returns-then-unread-clause-told : goal.returns-then-unread-clause-told
returns-then-unread-clause-told c =
    rw c.whole_again.ensures.kept (IfOk-weaker c.whole_again.result _ _
    (λ given is kept.
    tells_called kept c.args.unread given (stand c.args.self.now) (stand c.step_in-then-unread.new.self) c.in_ok-port.port c.if-unread.true c.in_ok-port.ensures.called c.requires.goes c.requires.waits
    (c.in_ok-step_in-2.ensures.called ∙ ap (λ (t : Search). called_at (stand t)) c.in_ok-port.ensures.kept) is)
    c.whole_again.ensures.whole)

pub returns-clause-told : goal.returns-clause-told
returns-clause-told c = λ kept.
    tells_call_of kept c.args.unread (stand c.args.self.now) (stand c.step_in-2.new.self) c.in_ok-port-2.port c.in_ok-size.size c.is_user-is_user.result c.predicate.result c.if-unread.false c.requires.calls c.requires.goes c.requires.waits
    (c.in_ok-step_in-3.ensures.called ∙ ap (λ (t : Search). called_at (stand t)) c.in_ok-port-2.ensures.kept)
    c.in_ok-port-2.ensures.called
    c.predicate.ensures
    c.is_user-is_user.ensures
    c.in_ok-size.ensures
