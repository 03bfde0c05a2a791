use Rattle.std.proofs.Common.{◌∙◌, ap, drop}
use Rattle.apd_ports.specs.declared.event.Port.TheVariants.{Redo}
use Rattle.apd_following.specs.Followed.{Followed, kept_of}
use Rattle.apd_engine.specs.Search.{GivesAlways, IsLeft, coming_back, stand}
use Rattle.apd_engine.specs.declared.search.Choice.TheVariants.{Again}
use Rattle.apd_engine.proofs.Steps.{IsRestored, forgotten_so, left_first, gives_again}
use Rattle.apd_engine.proofs.Telling.{tells_weaker}
use Rattle.apd_engine.proofs.search.Search.again.Goals as goal

pub returns-clause-told : goal.returns-clause-told
returns-clause-told c =
    let s = stand c.args.self.now in
    let R = kept_of c.restore.new.self in
    let h : IsRestored s.frames R = record { current = c.restore.ensures.current; saved = c.restore.ensures.saved } in
    λ kept. tells_weaker kept c.args.unread c.in_ok-given.given (IsLeft R.current Redo c.in_ok-given.field-0-1) (GivesAlways (coming_back Again s) _)
    (λ i left P.
    gives_again P s.frames (kept_of c.forget.new.self) s.stack s.boxes s.points c.in_ok-given.field-0-1 left.goal s.mode i R.current (drop 1 s.frames.saved) c.restore.ensures.current
    (ap (λ (f : Followed). f.saved) c.forget.ensures ∙ forgotten_so s.frames R h (kept_of c.leaving.new.frames) (ap kept_of c.in_ok-given.ensures.kept))
    left.exit (left_first s.frames R h s.boxes 0 0 s.stack c.requires.waits).1 c.requires.mode left.item)
    (c.in_ok-given.ensures.left kept)
