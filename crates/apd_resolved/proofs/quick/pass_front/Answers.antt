use Rattle.std.proofs.Common.{arith}
use Rattle.apd_resolved.proofs.Measuring.{front_first, front_more, part_long}
use Rattle.apd_resolved.proofs.quick.pass_front.Goals as goal

pub parts-init : goal.parts-init
parts-init c = record {
  front = front_first c.args.heap.now c.args.here c.requires;
  within = omega arith;
  ahead = omega arith;
}

pub parts-smaller : goal.parts-smaller
parts-smaller c =
    omega (arith, c.in-Some.ensures.part.some, part_long c.args.heap.now c.parts.next c.in-Some.part.next c.in-Some.part.extent c.in-Some.ensures.part)

pub parts-preserved : goal.parts-preserved
parts-preserved c = record {
  front = front_more c.args.heap.now c.args.here c.parts.next c.in-Some.part.next c.parts.extent c.in-Some.part.extent c.and-extent.result
      c.parts.invariant.front c.in-Some.ensures.part c.and-extent.ensures.size c.and-extent.ensures.above;
  within = omega (arith, c.and-extent.ensures.size, c.if-part-limit.false, c.parts.invariant.within);
  ahead = omega (arith, c.parts.invariant.ahead, c.in-Some.ensures.ahead);
}
