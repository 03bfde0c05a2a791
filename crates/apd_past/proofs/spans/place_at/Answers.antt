use Rattle.std.proofs.Common.{arith}
use Rattle.apd_past.proofs.Ways.{SeeksOn, goes_back, jump_there, seeks_first, seeks_inside}
use Rattle.apd_past.proofs.spans.place_at.Goals as goal

pub spans-init : goal.spans-init
spans-init c =
    seeks_first c.args.kept.now c.args.newest.now c.requires.0 c.args.v c.args.moment c.get-next.result c.index-newest-v.result c.requires.1
    (omega arith) c.index-newest-v.is c.get-next.ensures

pub bounds-kept-at : goal.bounds-kept-at
bounds-kept-at c = seeks_inside c.args.kept.now c.args.v c.args.moment c.in-Some.at c.spans.next c.spans.invariant c.in-Some.is

pub way_back-next-requires : goal.way_back-next-requires
way_back-next-requires c = λ far e.
    jump_there c.args.kept.now c.in-Some.at c.index-kept-at.result c.requires.1.ways
    (seeks_inside c.args.kept.now c.args.v c.args.moment c.in-Some.at c.spans.next c.spans.invariant c.in-Some.is) c.index-kept-at.is far e

step : (c : goal.After-way_back-next) → SeeksOn c.args.kept.now c.args.v c.args.moment c.spans.next c.way_back-next.result
step c =
    goes_back c.args.kept.now c.args.newest.now c.requires.0 c.args.v c.args.moment c.in-Some.at c.spans.next c.way_back-next.result c.index-kept-at.result
    c.requires.1 c.spans.invariant c.in-Some.is (omega (arith, c.if-span-moment.false)) c.index-kept-at.is c.way_back-next.ensures

pub spans-smaller : goal.spans-smaller
spans-smaller c = (step c).smaller

pub spans-preserved : goal.spans-preserved
spans-preserved c = (step c).seeks
