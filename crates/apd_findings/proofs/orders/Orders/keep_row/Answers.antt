use Rattle.std.proofs.Common.{refl, sym, subst}
use Rattle.apd_findings.specs.Reaching.{AreReached, AreWithin, IsRowOf}
use Rattle.apd_findings.proofs.Ordering.{above-within, other-rows, row-kept, same-rows}
use Rattle.apd_findings.proofs.orders.Orders.keep_row.Goals as goal

pub row_from-requires-clause-within : goal.row_from-requires-clause-within
row_from-requires-clause-within c = subst AreWithin (sym c.as_slice.ensures.value) (above-within c.requires.orders.0 c.args.self.now c.requires.orders.1)

pub returns-in_err-insert : goal.returns-in_err-insert
returns-in_err-insert c = λ pairs h.
    other-rows pairs c.args.self.now _ refl refl refl h.edges (same-rows c.args.self.now.above.items c.args.self.now.fresh.items c.args.self.now.reached c.insert.new.self c.in_err-insert.ensures.err h.rows) h

pub returns : goal.returns
returns c = λ pairs h.
    other-rows pairs c.args.self.now _ refl refl refl h.edges
    (row-kept c.args.self.now.above.items c.args.self.now.fresh.items c.args.self.now.reached c.insert.new.self c.args.number c.in_ok-row.row (λ n. c.in_ok-insert.ensures.updates.0 n)
    (subst (λ ls. IsRowOf ls c.args.self.now.fresh.items c.args.number c.in_ok-row.row) c.as_slice.ensures.value
    (c.in_ok-row.ensures c.args.self.now.fresh.items (subst (λ ls. AreReached ls c.args.self.now.fresh.items c.args.self.now.reached) (sym c.as_slice.ensures.value) h.rows))) h.rows) h
