use Rattle.std.proofs.Common.{length}
use Rattle.apd_following.proofs.following.Following.goal_size.Goals as goal

pub size_of-requires : goal.size_of-requires
size_of-requires c = c.in-Some.ensures.0 (length c.self.inside.linked.store.cells) c.self.invariant.0.placed
