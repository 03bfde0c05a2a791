use Rattle.std.proofs.Common.{◌∙◌, ap, drop}
use Rattle.std.proofs.lemmas.Result.{IfOk-weaker}
use Rattle.apd_following.specs.Followed.{kept_of}
use Rattle.apd_engine.specs.Search.{GivesAlways, HasFailed, coming_back, stand}
use Rattle.apd_engine.specs.declared.search.Choice.TheVariants.{Closing}
use Rattle.apd_engine.proofs.Steps.{IsRestored, calling_last, gives_closed}
use Rattle.apd_engine.proofs.Telling.{tells_weaker}
use Rattle.apd_engine.proofs.search.Search.close.Goals as goal

pub returns-clause-told : goal.returns-clause-told
returns-clause-told c =
    let s = stand c.args.self.now in
    let R = kept_of c.restore.new.self in
    let h : IsRestored s.frames R = record { current = c.restore.ensures.current; saved = c.restore.ensures.saved } in
    let waits = calling_last s.frames R h s.boxes c.args.box_no 0 s.stack c.requires.waits in
    IfOk-weaker c.fail.result _ _
    (λ given told kept.
    tells_weaker kept c.args.unread given (HasFailed c.args.box_no R (kept_of c.fail.new.frames)) (GivesAlways (coming_back (Closing c.args.box_no) s) _)
    (λ i failed P.
    gives_closed P s.frames (kept_of c.fail.new.frames) s.stack s.boxes s.points c.args.box_no waits.0.goal s.mode i R.current (drop 1 s.frames.saved) c.restore.ensures.current
    (failed.saved ∙ ap (drop 1) c.restore.ensures.saved) waits.0.calls waits.1 c.requires.mode (failed.item waits.0.goal waits.0.calls))
    (told kept))
    c.fail.ensures.failed
