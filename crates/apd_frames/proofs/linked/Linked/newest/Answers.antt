use Rattle.std.proofs.Common.{refl, sym, ap}
use Rattle.apd_frames.specs.Links.{link_of}
use Rattle.apd_frames.specs.Kept.{newest_of}
use Rattle.apd_frames.specs.Framed.{frames_of}
use Rattle.apd_frames.proofs.Current.{innermost_some, innermost_none, newest_so}
use Rattle.apd_frames.proofs.linked.Linked.newest.Goals as goal

pub returns-in-None : goal.returns-in-None
returns-in-None c = ap newest_of (sym (innermost_none c.args.self.now.store c.args.self.now.links c.args.self.now.innermost c.args.self.now.notes (frames_of c.args.self.now) refl c.in-None.ensures))

pub returns-in-Some : goal.returns-in-Some
returns-in-Some c =
    newest_so c.args.self.now.store c.args.self.now.links (link_of c.in-Some.link) (frames_of c.args.self.now)
    (innermost_some c.args.self.now.store c.args.self.now.links c.args.self.now.innermost c.args.self.now.notes (frames_of c.args.self.now) (link_of c.in-Some.link) refl c.requires c.in-Some.ensures)
