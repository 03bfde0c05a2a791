use Rattle.std.proofs.Common.{◌∙◌, ◌∷◌, ap}
use Rattle.apd_ports.specs.declared.event.Port.TheVariants.{Redo}
use Rattle.apd_following.specs.Followed.{Followed, kept_of}
use Rattle.apd_engine.specs.Search.{GivesAlways, IsLeft, coming_back, stand}
use Rattle.apd_engine.specs.declared.search.Choice.TheVariants.{Over}
use Rattle.apd_engine.proofs.Steps.{IsRestored, forgotten_so, gives_redo}
use Rattle.apd_engine.proofs.Telling.{over_first, tells_weaker}
use Rattle.apd_engine.proofs.search.Search.redo.Goals as goal

pub returns-clause-told : goal.returns-clause-told
returns-clause-told c =
    let s = stand c.args.self.now in
    let R = kept_of c.restore.new.self in
    let h : IsRestored s.frames R = record { current = c.restore.ensures.current; saved = c.restore.ensures.saved } in
    let over = over_first s.frames R h s.boxes c.args.box_no s.stack c.requires.waits in
    λ kept. tells_weaker kept c.args.unread c.in_ok-given.given (IsLeft R.current Redo c.in_ok-given.field-0-1) (GivesAlways (coming_back (Over c.args.box_no) s) _)
    (λ i left P.
    gives_redo P s.frames (kept_of c.forget.new.self) s.stack c.push.new.stack s.boxes s.points c.args.box_no c.in_ok-given.field-0-1 left.goal s.mode i R.current over.frames over.older
    (c.restore.ensures.current ∙ ap (λ S. R.current ∷ S) over.is)
    (ap (λ (f : Followed). f.saved) c.forget.ensures ∙ forgotten_so s.frames R h (kept_of c.leaving.new.frames) (ap kept_of c.in_ok-given.ensures.kept) ∙ over.is)
    left.exit over.calling over.waits c.in_ok-push.ensures c.requires.mode left.item)
    (c.in_ok-given.ensures.left kept)
