use Rattle.std.proofs.Common.{◌≡◌, subst, sym, Some}
use Rattle.std.specs.Prelude.{slice_get}
use Rattle.apd_tuples.proofs.Laid.{put_there}
use Rattle.apd_tuples.proofs.putting.put_head.Goals as goal

pub returns-clause-ok : goal.returns-clause-ok
returns-clause-ok c =
    subst (λ k. slice_get c.put_one.new.there.items k ≡ Some c.args.head) (sym c.in_ok-alone.ensures.place)
    (put_there c.args.there.now.items c.put_one.new.there.items c.args.head c.in_ok-alone.ensures.ok)
