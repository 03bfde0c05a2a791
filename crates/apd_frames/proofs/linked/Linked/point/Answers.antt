use Rattle.std.proofs.Common.{refl, length, ap, arith}
use Rattle.apd_frames.specs.Links.{link_of}
use Rattle.apd_frames.specs.Framed.{frames_of}
use Rattle.apd_frames.proofs.Current.{innermost_some, innermost_none, too_large, point_so}
use Rattle.apd_frames.proofs.Writing.{none_so}
use Rattle.apd_frames.proofs.linked.Linked.point.Goals as goal

pub unreachable-requires : goal.unreachable-requires
unreachable-requires c = (let e = ap length (innermost_none c.args.self.now.store c.args.self.now.links c.args.self.now.innermost c.args.self.now.notes (frames_of c.args.self.now) refl c.in-None.ensures) in omega (arith, c.requires.some, e))

pub canonical_within-requires : goal.canonical_within-requires
canonical_within-requires c = (innermost_some c.args.self.now.store c.args.self.now.links c.args.self.now.innermost c.args.self.now.notes (frames_of c.args.self.now) (link_of c.in-Some.link) refl c.requires.framed c.in-Some.ensures).inside

pub returns-in_default-clause-point : goal.returns-in_default-clause-point
returns-in_default-clause-point c =
    too_large c.args.self.now.store c.args.self.now.links (link_of c.in-Some.link) (frames_of c.args.self.now)
    (innermost_some c.args.self.now.store c.args.self.now.links c.args.self.now.innermost c.args.self.now.notes (frames_of c.args.self.now) (link_of c.in-Some.link) refl c.requires.framed c.in-Some.ensures)
    c.in_ok-within-in-Some.within c.args.before c.in_ok-within-in-Some.ensures (none_so c.in_ok-within-in-Some.within c.in_default.not-Some)

pub returns-clause-point : goal.returns-clause-point
returns-clause-point c =
    point_so c.args.self.now.store c.args.self.now.links (link_of c.in-Some.link) (frames_of c.args.self.now)
    (innermost_some c.args.self.now.store c.args.self.now.links c.args.self.now.innermost c.args.self.now.notes (frames_of c.args.self.now) (link_of c.in-Some.link) refl c.requires.framed c.in-Some.ensures)
    c.in_ok-within-in-Some.within c.in-Some-within.tuple c.args.before c.in_ok-within-in-Some.ensures c.in-Some-within.is
