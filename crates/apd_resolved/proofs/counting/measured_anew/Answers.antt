use Rattle.std.proofs.Common.{◌∙◌, ◌∷◌, [], arith, refl, subst, sym}
use Rattle.apd_cells.specs.Known.{HasExtent}
use Rattle.apd_cells.specs.Stored.{Stored}
use Rattle.apd_cells.specs.Store.{term_at}
use Rattle.apd_cells.specs.Work.{AreRuns, runs_symbols}
use Rattle.apd_cells.proofs.Passing.{started}
use Rattle.apd_resolved.proofs.Counts.{counted_all, counted_more, counted_none}
use Rattle.apd_resolved.proofs.Measuring.{part_long, part_over, part_measured, run_done}
use Rattle.apd_resolved.proofs.counting.measured_anew.Goals as goal

pub parts-init : goal.parts-init
parts-init c =
    let k = started c.args.heap.now c.args.at [] (record { at = c.args.at; left = 1; rest = [] }) c.requires refl refl in
    record {
      same = refl;
      right = (k.right.here, k.right.rest);
      counted = counted_none (term_at c.args.heap.now c.args.at) _ _ refl k.symbols;
      within = omega arith;
    }

pub measure_part-requires-clause-right : goal.measure_part-requires-clause-right
measure_part-requires-clause-right c = subst (λ (t : Stored). AreRuns t.cells (c.parts.here ∷ [])) (sym c.parts.invariant.same) c.parts.invariant.right

pub returns-in_default-clause-extent : goal.returns-in_default-clause-extent
returns-in_default-clause-extent c =
    let over = part_over c.args.heap.now c.parts.heap c.parts.here _ c.in_ok-part.field-0 c.parts.invariant.same c.in_ok-part.ensures.part c.in_default.is in
    omega (arith, over, c.parts.invariant.counted.long, c.parts.invariant.within)

pub returns-then-part-limit-clause-extent : goal.returns-then-part-limit-clause-extent
returns-then-part-limit-clause-extent c =
    let p = part_measured c.args.heap.now c.parts.heap c.parts.here _ c.in_ok-part.field-0 c.in-Some.part c.parts.invariant.same c.in_ok-part.ensures.part c.in-Some.is in
    omega (arith, c.if-part-limit.true, part_long c.args.heap.now c.parts.here c.in-Some.part.next c.in-Some.part.extent p, c.parts.invariant.counted.long, c.parts.invariant.within)

pub parts-smaller : goal.parts-smaller
parts-smaller c =
    let p = part_measured c.args.heap.now c.parts.heap c.parts.here _ c.in_ok-part.field-0 c.in-Some.part c.parts.invariant.same c.in_ok-part.ensures.part c.in-Some.is in
    omega (arith, p.some, part_long c.args.heap.now c.parts.here c.in-Some.part.next c.in-Some.part.extent p)

pub parts-preserved : goal.parts-preserved
parts-preserved c =
    let p = part_measured c.args.heap.now c.parts.heap c.parts.here _ c.in_ok-part.field-0 c.in-Some.part c.parts.invariant.same c.in_ok-part.ensures.part c.in-Some.is in
    record {
      same = c.measure_part.ensures.same ∙ c.parts.invariant.same;
      right = p.right;
      counted = counted_more (term_at c.args.heap.now c.args.at) c.parts.extent c.in-Some.part.extent c.and-extent.result
          (runs_symbols c.args.heap.now (c.parts.here ∷ [])) p.part (runs_symbols c.args.heap.now (c.in-Some.part.next ∷ []))
          c.parts.invariant.counted p.symbols p.long p.below c.and-extent.ensures.size c.and-extent.ensures.above;
      within = omega (arith, c.and-extent.ensures.size, c.if-part-limit.false, c.parts.invariant.within);
    }

pub note_long-requires : goal.note_long-requires
note_long-requires c =
    subst (λ (t : Stored). HasExtent t c.args.at c.parts.extent) (sym c.parts.invariant.same)
    (counted_all c.args.heap.now c.args.at c.parts.extent (runs_symbols c.args.heap.now (c.parts.here ∷ [])) c.requires c.parts.invariant.counted
    (run_done c.args.heap.now c.parts.here (omega (arith, c.parts-test.false))))

pub returns-clause-extent : goal.returns-clause-extent
returns-clause-extent c = (
  counted_all c.args.heap.now c.args.at c.parts.extent (runs_symbols c.args.heap.now (c.parts.here ∷ [])) c.requires c.parts.invariant.counted
      (run_done c.args.heap.now c.parts.here (omega (arith, c.parts-test.false))),
  c.parts.invariant.within,
)
