use Rattle.std.proofs.Common.{[], refl}
use Rattle.apd_cells.proofs.Passing.{started}
use Rattle.apd_resolved.proofs.Measuring.{front_all}
use Rattle.apd_resolved.proofs.counting.count_with_front.Goals as goal

pub pass_front-front-requires : goal.pass_front-front-requires
pass_front-front-requires c =
    let k = started c.args.heap.now c.args.at [] (record { at = c.args.at; left = 1; rest = [] }) c.requires refl refl in
    (k.right.here, k.right.rest)

pub returns-then-front-eq0 : goal.returns-then-front-eq0
returns-then-front-eq0 c = (
  front_all c.args.heap.now c.args.at c.pass_front-front.result.next c.pass_front-front.result.extent c.requires c.pass_front-front.ensures.front c.if-front-eq0.true,
  c.pass_front-front.ensures.within,
)
