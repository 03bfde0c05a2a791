use Rattle.std.proofs.Common.{[], ◌+◌, ◌-◌, ◌∙◌, arith, inl, refl}
use Rattle.apd_cells.specs.Work.{Leads}
use Rattle.apd_cells.proofs.Passing.{left_fits, passed_here, run_inside}
use Rattle.apd_resolved.proofs.Counts.{fixed_extent, passes_symbol}
use Rattle.apd_resolved.proofs.quick.fixed_part.Goals as goal

pub symbol-symbol-requires : goal.symbol-symbol-requires
symbol-symbol-requires c = run_inside c.args.heap.now.cells c.args.here.at c.args.here.left c.requires.right.0 c.requires.some

pub overflow_add-next-then-is_fixed : goal.overflow_add-next-then-is_fixed
overflow_add-next-then-is_fixed c =
    let s = c.args.heap.now in
    let leads : Leads s c.args.here.at c.args.here.at = record {
      inside = run_inside s.cells c.args.here.at c.args.here.left c.requires.right.0 c.requires.some;
      same = refl;
      end = λ v e. absurd (c.if-is_fixed.ensures v (c.symbol-symbol.ensures.symbol ∙ e));
      start = inl refl;
    } in
    let k = passed_here s c.args.here (record { at = c.args.here.at + 1; left = c.args.here.left - 1 + c.arity_of.result }) [] c.args.here.at c.arity_of.result c.symbol-symbol.result
    c.symbol-symbol.ensures.store c.requires.right c.requires.some leads c.symbol-symbol.ensures.symbol c.arity_of.ensures (inl refl) refl in
    omega (arith, left_fits s.cells (c.args.here.at + 1) (c.args.here.left - 1 + c.arity_of.result) k.right.0, c.cells-fits.ensures)

pub returns-then-is_fixed : goal.returns-then-is_fixed
returns-then-is_fixed c =
    let s = c.args.heap.now in
    let leads : Leads s c.args.here.at c.args.here.at = record {
      inside = run_inside s.cells c.args.here.at c.args.here.left c.requires.right.0 c.requires.some;
      same = refl;
      end = λ v e. absurd (c.if-is_fixed.ensures v (c.symbol-symbol.ensures.symbol ∙ e));
      start = inl refl;
    } in
    let k = passed_here s c.args.here (record { at = c.args.here.at + 1; left = c.args.here.left - 1 + c.arity_of.result }) [] c.args.here.at c.arity_of.result c.symbol-symbol.result
    c.symbol-symbol.ensures.store c.requires.right c.requires.some leads c.symbol-symbol.ensures.symbol c.arity_of.ensures (inl refl) refl in
    passes_symbol s _ _ c.symbol-symbol.result (record { size = 1; above = 0 }) k (fixed_extent c.symbol-symbol.result c.if-is_fixed.ensures)
