use Rattle.std.proofs.Common.{refl, ap}
use Rattle.apd_term.specs.Canonical.{canonical}
use Rattle.apd_cells.specs.Store.{term_at}
use Rattle.apd_trace.specs.Frames.{left}
use Rattle.apd_frames.specs.Kept.{ahead_of}
use Rattle.apd_frames.specs.Links.{link_of}
use Rattle.apd_frames.specs.Linked.{frame_in, frames_at}
use Rattle.apd_frames.proofs.Current.{look_goal, look_answer, look_exit}
use Rattle.apd_frames.proofs.reading.ahead.Goals as goal

pub returns-in-Some : goal.returns-in-Some
returns-in-Some c = λ s links n.
    ap ahead_of (look_goal s links (link_of c.args.link.now) n c.in-Some.field-0 (canonical (term_at s c.in-Some.field-0.0)) c.in-Some.ensures refl)

pub returns-then-link-eq0 : goal.returns-then-link-eq0
returns-then-link-eq0 c = λ s links n.
    let l = link_of c.args.link.now in
    ap ahead_of (look_answer s links l n (left (frame_in s l) (frames_at s links l.around)) c.in-None.ensures c.if-link-eq0.true refl)

pub returns-else-link-eq0 : goal.returns-else-link-eq0
returns-else-link-eq0 c = λ s links n.
    let l = link_of c.args.link.now in
    ap ahead_of (look_exit s links l n (left (frame_in s l) (frames_at s links l.around)) c.in-None.ensures c.if-link-eq0.false refl)
