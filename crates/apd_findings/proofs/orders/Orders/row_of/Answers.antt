use Rattle.std.proofs.Common.{sym, subst}
use Rattle.apd_findings.specs.Reaching.{AreEdges, AreWithin}
use Rattle.apd_findings.proofs.Ordering.{above-within, caught-reached, row-is, walked-reached}
use Rattle.apd_findings.proofs.orders.Orders.row_of.Goals as goal

pub caught_up-requires : goal.caught_up-requires
caught_up-requires c = record {
  within = subst AreWithin (sym c.as_slice-above.ensures.value) (above-within c.requires.orders.0 c.args.self.now c.requires.orders.1);
  edges = subst (λ ls. AreEdges ls c.as_slice.result.now) (sym c.as_slice-above.ensures.value) (subst (AreEdges c.args.self.now.above.items) (sym c.as_slice.ensures.value) c.requires.orders.1.edges);
}

pub row_from-requires-clause-within : goal.row_from-requires-clause-within
row_from-requires-clause-within c = subst AreWithin (sym c.as_slice-above.ensures.value) (above-within c.requires.orders.0 c.args.self.now c.requires.orders.1)

pub returns-in-Some : goal.returns-in-Some
returns-in-Some c =
    caught-reached c.caught_up.result c.args.self.now.above.items c.as_slice-above.result.now c.args.self.now.fresh.items c.as_slice.result.now c.args.high c.in-Some.row.now c.as_slice-above.ensures.value c.as_slice.ensures.value
    (row-is c.args.self.now.above.items c.args.self.now.fresh.items c.args.self.now.reached c.args.high c.in-Some.row.now c.requires.orders.1.rows (sym c.in-Some.ensures.value)) c.caught_up.ensures

pub returns-in-None : goal.returns-in-None
returns-in-None c = walked-reached c.row_from-in-None.result c.args.self.now.above.items c.as_slice-above.result.now c.new.result c.args.high c.as_slice-above.ensures.value c.new.ensures.empty c.row_from-in-None.ensures
