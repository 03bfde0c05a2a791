use Rattle.std.proofs.Common.{◌≡◌, arith, length}
use Rattle.std.proofs.lemmas.Nat.{mod_below}
use Rattle.std.proofs.lemmas.Option.{slice_get_within}
use Rattle.apd_tuples.proofs.Laid.{tagged_at}
use Rattle.apd_tuples.proofs.putting.put_goals.Goals as goal

pub overflow_sub-at : goal.overflow_sub-at
overflow_sub-at c = omega (arith, slice_get_within c.args.there.now.items c.args.place c.args.head c.requires)

pub put_tagged-requires : goal.put_tagged-requires
put_tagged-requires c = omega (arith, c.in-Some.ensures.goals, mod_below c.in-Some.tag.0 128 (omega arith))

pub returns-clause-ok : goal.returns-clause-ok
returns-clause-ok c =
    let old = c.args.there.now.items in
    let at : c.len-at.result ≡ length old = omega arith in
    tagged_at old c.put_tagged.new.there.items c.len-at.result c.in-Some.tag c.args.goals.now c.args.place c.args.head at c.in_ok-put_tagged.ensures.ok c.in-Some.ensures c.requires
