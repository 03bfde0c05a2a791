use Rattle.std.proofs.Common.{refl, length}
use Rattle.apd_frames.specs.Framed.{frames_of}
use Rattle.apd_frames.proofs.Current.{predicate_some}
use Rattle.apd_frames.proofs.linked.Linked.predicate.Goals as goal

pub predicate_at-requires : goal.predicate_at-requires
predicate_at-requires c = c.in_ok-goal.ensures.0 (length c.args.self.now.store.cells) c.requires.placed

pub returns : goal.returns
returns c =
    predicate_some c.args.self.now.store c.args.self.now.links c.args.self.now.innermost c.args.self.now.notes (frames_of c.args.self.now) refl c.in_ok-goal.goal c.predicate_at.result c.in_ok-goal.ensures c.predicate_at.ensures
