use Rattle.std.proofs.Common.{refl}
use Rattle.apd_frames.specs.Links.{link_of}
use Rattle.apd_frames.specs.Framed.{frames_of}
use Rattle.apd_frames.proofs.Current.{innermost_some, innermost_none}
use Rattle.apd_frames.proofs.Branching.{framed_at}
use Rattle.apd_frames.proofs.Moving.{leaves, leaves_nothing}
use Rattle.apd_frames.proofs.linked.Linked.leave.Goals as goal

pub returns-in-Some-clause-framed : goal.returns-in-Some-clause-framed
returns-in-Some-clause-framed c =
    framed_at c.args.self.now.store c.args.self.now.links c.args.self.now.innermost c.in-Some.link.around c.args.self.now.notes c.requires
    (innermost_some c.args.self.now.store c.args.self.now.links c.args.self.now.innermost c.args.self.now.notes (frames_of c.args.self.now) (link_of c.in-Some.link) refl c.requires c.in-Some.ensures).older

pub returns-in-Some-clause-left : goal.returns-in-Some-clause-left
returns-in-Some-clause-left c =
    leaves c.args.self.now.store c.args.self.now.links c.args.self.now.innermost c.args.self.now.notes (frames_of c.args.self.now) (link_of c.in-Some.link) refl
    (innermost_some c.args.self.now.store c.args.self.now.links c.args.self.now.innermost c.args.self.now.notes (frames_of c.args.self.now) (link_of c.in-Some.link) refl c.requires c.in-Some.ensures)

pub returns-in-None-clause-left : goal.returns-in-None-clause-left
returns-in-None-clause-left c = leaves_nothing (frames_of c.args.self.now) (innermost_none c.args.self.now.store c.args.self.now.links c.args.self.now.innermost c.args.self.now.notes (frames_of c.args.self.now) refl c.in-None.ensures)
