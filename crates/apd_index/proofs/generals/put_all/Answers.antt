use Rattle.apd_index.proofs.Retrieval.{put-more}
use Rattle.apd_index.proofs.generals.put_all.Goals as goal

pub more-preserved : goal.more-preserved
more-preserved c = (
  put-more c.args.atoms.now c.args.more.now c.more.atoms c.put.new.atoms c.more.atom-index c.atom-item.result c.more-test.true c.atom-item.is c.more.invariant.0 c.in_ok-put.ensures.ok,
  c.put.ensures.noted,
)
