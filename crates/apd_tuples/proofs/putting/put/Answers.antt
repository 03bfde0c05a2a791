use Rattle.std.proofs.Common.{◌≡◌, arith, length}
use Rattle.apd_tuples.proofs.Laid.{alone}
use Rattle.apd_tuples.proofs.putting.put.Goals as goal

pub returns-clause-ok : goal.returns-clause-ok
returns-clause-ok c =
    let none : length c.args.goals.now ≡ 0 = omega arith in
    alone c.put_head.new.there.items c.in_ok-at-2.at c.args.head c.args.goals.now none c.in_ok-at-2.ensures.ok
