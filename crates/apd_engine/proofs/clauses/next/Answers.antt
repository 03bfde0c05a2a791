use Rattle.std.proofs.Common.{get_or, arith, subst}
use Rattle.apd_cells.specs.First.{AreClashing}
use Rattle.apd_engine.proofs.Numbered.{by_among, by_positive, by_within, passes_clash}
use Rattle.apd_engine.proofs.clauses.next.Goals as goal

pub clause-clause-requires-clause-there : goal.clause-clause-requires-clause-there
clause-clause-requires-clause-there c = by_positive c.args.pred c.args.program.now c.args.numbers.now c.clauses.at c.requires c.clauses-test.true

pub clause-clause-requires-clause-within : goal.clause-clause-requires-clause-within
clause-clause-requires-clause-within c = by_within c.args.pred c.args.program.now c.args.numbers.now c.clauses.at c.requires c.clauses-test.true

pub clauses-init : goal.clauses-init
clauses-init c = (c.near-at.ensures.forward, c.near-at.ensures.passes)

pub clauses-preserved : goal.clauses-preserved
clauses-preserved c =
    let t = c.clause-clause.result.now.tuple in
    let clash = subst (AreClashing c.args.key) c.key_of.ensures (c.are_clashing.ensures.0 c.if-not-are_clashing.false) in (
      omega (arith, c.clauses.invariant.0, c.near-at-in-clauses.ensures.forward),
      passes_clash c.args.program.now c.args.pred c.args.key c.args.from c.clauses.at c.near-at-in-clauses.result (get_or c.args.numbers.now c.clauses.at 0) t
          (by_among c.args.pred c.args.program.now c.args.numbers.now c.clauses.at c.requires c.clauses-test.true c.clause-clause.result.now c.clause-clause.ensures)
          clash c.clauses.invariant.1 c.near-at-in-clauses.ensures.passes,
    )
