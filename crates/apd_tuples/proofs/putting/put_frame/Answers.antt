use Rattle.apd_tuples.proofs.Laid.{more_again}
use Rattle.apd_tuples.proofs.putting.put_frame.Goals as goal

pub returns-clause-more : goal.returns-clause-more
returns-clause-more c = more_again c.args.there.now.items c.put_head.new.there.items c.put_goals.new.there.items c.put_head.ensures.more c.put_goals.ensures.more

pub returns-in_err-at-clause-more : goal.returns-in_err-at-clause-more
returns-in_err-at-clause-more c = more_again c.args.there.now.items c.put_head.new.there.items c.put_goals.new.there.items c.put_head.ensures.more c.put_goals.ensures.more
