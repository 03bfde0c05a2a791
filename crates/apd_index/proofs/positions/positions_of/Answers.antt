use Rattle.std.proofs.Common.{get_or, refl}
use Rattle.apd_marks.proofs.Walking.{emptied}
use Rattle.apd_term.specs.declared.term.Sym.TheVariants.{Var}
use Rattle.apd_index.proofs.Passing.{walk-begins, walk-ends, walk-goes, walk-stops}
use Rattle.apd_index.proofs.positions.positions_of.Goals as goal

pub symbols-init : goal.symbols-init
symbols-init c =
    walk-begins c.args.term.now c.symbols-symbol-items.result.now c.new-parents.result.items c.put_parent.new.parents.items c.new-positions.result.items c.symbols-symbol-items.ensures c.new-positions.ensures.items c.new-parents.ensures.items
    c.in_ok-put_parent.ensures

pub symbols-preserved : goal.symbols-preserved
symbols-preserved c =
    walk-goes c.args.term.now c.symbols-symbol-items.result.now c.symbols.symbol-index (Var 0) (get_or c.symbols-symbol-items.result.now c.symbols.symbol-index (Var 0)) c.in-Some.parent c.symbols.parents.items c.pop.new.self.items
    c.put_parents.new.parents.items c.symbols.positions.items c.push.new.self.items c.symbols-test.true refl c.in-Some.ensures.items c.in_ok-push.ensures.items c.in_ok-put_parents.ensures c.symbols.invariant

pub returns-in_default : goal.returns-in_default
returns-in_default c =
    walk-stops c.args.term.now c.symbols-symbol-items.result.now c.symbols.symbol-index c.symbols.parents.items c.symbols.positions.items
    (emptied c.symbols.parents.items c.pop.new.self.items _ c.in_default.ensures.items c.in_default.ensures.rest c.in_default.ensures.cases.0) c.symbols.invariant

pub returns : goal.returns
returns c = walk-ends c.args.term.now c.symbols-symbol-items.result.now c.symbols.symbol-index c.symbols.parents.items c.symbols.positions.items c.symbols-test.false c.symbols.invariant
