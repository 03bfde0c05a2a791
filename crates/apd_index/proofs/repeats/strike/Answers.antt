use Rattle.std.proofs.Common.{arith, sym, ◌∙◌}
use Rattle.apd_index.proofs.Linked.{entry_at, falls, met, on-first, on-next}
use Rattle.apd_index.proofs.repeats.strike.Goals as goal

pub entries-init : goal.entries-init
entries-init c = record {
  ones = on-first c.args.entries.now c.args.one c.requires.one;
  others = on-first c.args.entries.now c.args.other c.requires.other;
  left = λ k h agree. h;
}

pub entries-preserved-then-one-other : goal.entries-preserved-then-one-other
entries-preserved-then-one-other c = record {
  ones = on-next c.args.entries.now c.args.one c.entries.i c.requires.falling (omega arith) c.entries.invariant.ones;
  others = on-next c.args.entries.now c.args.other c.entries.j c.requires.falling (omega arith) c.entries.invariant.others;
  left = c.entries.invariant.left;
}

pub entries-smaller-then-one-other-2 : goal.entries-smaller-then-one-other-2
entries-smaller-then-one-other-2 c =
    let f = falls c.args.entries.now c.args.one c.entries.i c.requires.falling (omega arith) c.entries.invariant.ones in
    let g = falls c.args.entries.now c.args.other c.entries.j c.requires.falling (omega arith) c.entries.invariant.others in
    omega (arith, f, g)

pub entries-preserved-then-one-other-2 : goal.entries-preserved-then-one-other-2
entries-preserved-then-one-other-2 c = record {
  ones = on-next c.args.entries.now c.args.one c.entries.i c.requires.falling (omega arith) c.entries.invariant.ones;
  others = on-next c.args.entries.now c.args.other c.entries.j c.requires.falling (omega arith) c.entries.invariant.others;
  left = λ k h agree.
      c.clear.ensures k
      (λ same. c.if-one-other.false
      (agree (entry_at c.args.entries.now c.entries.i) (entry_at c.args.entries.now c.entries.j) (met c.args.entries.now c.args.one c.entries.i c.requires.falling (omega arith) c.entries.invariant.ones) (met c.args.entries.now c.args.other c.entries.j c.requires.falling (omega arith) c.entries.invariant.others)
      (sym same) (sym c.if-one-other-2.true ∙ sym same)))
      (c.entries.invariant.left k h agree);
}

pub entries-smaller-then-one-other-3 : goal.entries-smaller-then-one-other-3
entries-smaller-then-one-other-3 c =
    let f = falls c.args.entries.now c.args.one c.entries.i c.requires.falling (omega arith) c.entries.invariant.ones in
    omega (arith, f)

pub entries-preserved-then-one-other-3 : goal.entries-preserved-then-one-other-3
entries-preserved-then-one-other-3 c = record {
  ones = on-next c.args.entries.now c.args.one c.entries.i c.requires.falling (omega arith) c.entries.invariant.ones;
  others = c.entries.invariant.others;
  left = c.entries.invariant.left;
}

pub entries-smaller : goal.entries-smaller
entries-smaller c =
    let g = falls c.args.entries.now c.args.other c.entries.j c.requires.falling (omega arith) c.entries.invariant.others in
    omega (arith, g)

pub entries-preserved : goal.entries-preserved
entries-preserved c = record {
  ones = c.entries.invariant.ones;
  others = on-next c.args.entries.now c.args.other c.entries.j c.requires.falling (omega arith) c.entries.invariant.others;
  left = c.entries.invariant.left;
}
