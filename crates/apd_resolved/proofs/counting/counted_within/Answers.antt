use Rattle.std.proofs.Common.{◌∷◌, ◌∙◌, arith, refl}
use Rattle.apd_cells.specs.Store.{term_at}
use Rattle.apd_cells.specs.Work.{runs_symbols}
use Rattle.apd_cells.proofs.Passing.{started}
use Rattle.apd_resolved.proofs.Counts.{counted_more, counted_none}
use Rattle.apd_resolved.proofs.counting.counted_within.Goals as goal

pub parts-init : goal.parts-init
parts-init c =
    let k = started c.args.heap.now c.args.at c.new-runs.result _ c.requires c.new-runs.ensures refl in
    record {
      right = (k.right.here, k.right.rest);
      counted = counted_none (term_at c.args.heap.now c.args.at) _ _ refl k.symbols;
      within = omega arith;
      steps = omega arith;
    }

pub parts-preserved : goal.parts-preserved
parts-preserved c = record {
  right = c.in_ok-part.ensures.right;
  counted = counted_more (term_at c.args.heap.now c.args.at) c.parts.extent c.in_ok-part.part.extent c.and-extent.result
      (runs_symbols c.args.heap.now (c.parts.here ∷ c.parts.runs)) c.in_ok-part.ensures.part (runs_symbols c.args.heap.now (c.in_ok-part.part.next ∷ c.pass_part.new.rest))
      c.parts.invariant.counted (c.in-Some.ensures.1.0 c.args.heap.now ∙ c.in_ok-part.ensures.symbols) c.in_ok-part.ensures.long c.in_ok-part.ensures.below
      c.and-extent.ensures.size c.and-extent.ensures.above;
  within = omega (arith, c.and-extent.ensures.size, c.if-part-limit.false, c.parts.invariant.within);
  steps = omega (arith, c.and-extent.ensures.size, c.parts.invariant.steps, c.in_ok-part.ensures.some);
}
