use Rattle.std.proofs.Common.{ap}
use Rattle.apd_following.specs.Followed.{Followed, kept_of}
use Rattle.apd_engine.proofs.Telling.{tells_failed}
use Rattle.apd_engine.proofs.given.fail.Goals as goal

pub returns-then-unread-clause-failed : goal.returns-then-unread-clause-failed
returns-then-unread-clause-failed c = λ kept.
    tells_failed kept c.args.unread c.args.box_no (kept_of c.args.frames.now) (kept_of c.forget.new.self) c.requires.goal.0 c.if-unread.true c.requires.goal.1 (ap (λ (f : Followed). f.saved) c.forget.ensures)
