use Rattle.std.proofs.Common.{◌∷◌, [], subst, sym}
use Rattle.apd_term.specs.Tuple.{canonical_tuple}
use Rattle.apd_trace.specs.Frames.{query_frame}
use Rattle.apd_frames.specs.Framed.{frames_of}
use Rattle.apd_tuples.specs.Tuples.{AreThere}
use Rattle.apd_following.specs.Tied.{past_of}
use Rattle.apd_following.proofs.Keeping.{opened}
use Rattle.apd_following.proofs.following.Following.open.Goals as goal

pub invariant_of-result : goal.invariant_of-result
invariant_of-result c = (
  c.in_ok-linked.ensures.framed,
  c.new.ensures c.in_ok-linked.linked.store,
  subst (AreThere (past_of c.new.result c.in_ok-linked.linked.store)) (sym c.new-2.ensures) tt,
)

pub returns : goal.returns
returns c = opened (frames_of c.in_ok-linked.linked) (record { current = query_frame (canonical_tuple c.args.query.now) ∷ []; saved = [] }) (past_of c.new.result c.in_ok-linked.linked.store) c.new-2.result c.in_ok-linked.ensures.kept c.new-2.ensures
