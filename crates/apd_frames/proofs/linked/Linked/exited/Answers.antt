use Rattle.std.proofs.Common.{refl, length, ap, arith}
use Rattle.apd_frames.specs.Links.{link_of}
use Rattle.apd_frames.specs.Framed.{frames_of}
use Rattle.apd_frames.proofs.Current.{innermost_some, innermost_none, exits_so}
use Rattle.apd_frames.proofs.linked.Linked.exited.Goals as goal

pub unreachable-requires : goal.unreachable-requires
unreachable-requires c = (let e = ap length (innermost_none c.args.self.now.store c.args.self.now.links c.args.self.now.innermost c.args.self.now.notes (frames_of c.args.self.now) refl c.in-None.ensures) in omega (arith, c.requires.some, e))

pub left-requires : goal.left-requires
left-requires c = (innermost_some c.args.self.now.store c.args.self.now.links c.args.self.now.innermost c.args.self.now.notes (frames_of c.args.self.now) (link_of c.in-Some.link) refl c.requires.framed c.in-Some.ensures).inside

pub returns-clause-exit : goal.returns-clause-exit
returns-clause-exit c =
    exits_so c.args.self.now.store c.args.self.now.links (link_of c.in-Some.link) (frames_of c.args.self.now)
    (innermost_some c.args.self.now.store c.args.self.now.links c.args.self.now.innermost c.args.self.now.notes (frames_of c.args.self.now) (link_of c.in-Some.link) refl c.requires.framed c.in-Some.ensures)
    c.in_ok-called-in-Some.called c.in_ok-called-in-Some.ensures
