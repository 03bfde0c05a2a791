use Rattle.std.proofs.Common.{◌∙◌, sym, ap}
use Rattle.apd_ports.specs.declared.event.Port.TheVariants.{Exit}
use Rattle.apd_trace.specs.Frames.{outer}
use Rattle.apd_following.specs.Followed.{Followed, kept_of}
use Rattle.apd_engine.specs.Search.{GivesAlways, IsLeft, in_mode, stand}
use Rattle.apd_engine.specs.declared.search.Mode.TheVariants.{Leave}
use Rattle.apd_engine.proofs.Steps.{gives_leave}
use Rattle.apd_engine.proofs.Telling.{tells_weaker}
use Rattle.apd_engine.proofs.search.Search.leave.Goals as goal

pub returns-clause-told : goal.returns-clause-told
returns-clause-told c =
    let s = stand c.args.self.now in
    λ kept. tells_weaker kept c.args.unread c.in_ok-given.given (IsLeft s.frames.current Exit c.in_ok-given.exit) (GivesAlways (in_mode Leave s) _)
    (λ i left P.
    gives_leave P s.frames (kept_of c.leave.new.self) s.stack s.boxes s.points c.in_ok-given.exit left.goal i (sym left.exit) c.requires.goes c.requires.waits
    (ap kept_of c.leave.ensures ∙ ap (λ (f : Followed). record { current = outer f.current; saved = f.saved }) c.in_ok-given.ensures.kept) left.item)
    (c.in_ok-given.ensures.left kept)
