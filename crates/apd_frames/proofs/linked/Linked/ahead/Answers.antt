use Rattle.std.proofs.Common.{refl, ◌∙◌, sym, ap}
use Rattle.apd_trace.specs.Frames.{look_of}
use Rattle.apd_frames.specs.Kept.{ahead_of}
use Rattle.apd_frames.specs.Links.{link_of}
use Rattle.apd_frames.specs.Framed.{frames_of}
use Rattle.apd_frames.proofs.Current.{innermost_some, innermost_none}
use Rattle.apd_frames.proofs.linked.Linked.ahead.Goals as goal

pub returns-in-None : goal.returns-in-None
returns-in-None c = λ n.
    ap (λ F. ahead_of (look_of F n)) (sym (innermost_none c.args.self.now.store c.args.self.now.links c.args.self.now.innermost c.args.self.now.notes (frames_of c.args.self.now) refl c.in-None.ensures))

pub returns-in-Some : goal.returns-in-Some
returns-in-Some c = λ n.
    c.ahead.ensures c.args.self.now.store c.args.self.now.links n
    ∙ ap (λ F. ahead_of (look_of F n)) (sym (innermost_some c.args.self.now.store c.args.self.now.links c.args.self.now.innermost c.args.self.now.notes (frames_of c.args.self.now) (link_of c.in-Some.link) refl c.requires c.in-Some.ensures).is)
