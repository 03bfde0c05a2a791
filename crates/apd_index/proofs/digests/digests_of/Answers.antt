use Rattle.std.proofs.Common.{arith}
use Rattle.apd_term.specs.declared.term.Sym.TheVariants.{Var}
use Rattle.apd_index.proofs.Mixed.{begun-ends, begun-goes, stack-goes}
use Rattle.apd_index.proofs.digests.digests_of.Goals as goal

pub symbols-preserved : goal.symbols-preserved
symbols-preserved c = record {
  stack =
      stack-goes c.symbols-symbols.result.now c.symbols.at (Var 0) c.symbols.stack.items c.applied-digest.result c.symbols-test.true (omega arith) c.symbols.invariant.stack
      c.applied-digest.new.stack.items c.push.new.self.items c.applied-digest.ensures.digest c.applied-digest.ensures.rest c.in_ok-push.ensures.items;
  begun =
      begun-goes c.symbols-symbols.result.now c.symbols.at (Var 0) c.symbols.stack.items c.applied-digest.result c.symbols-test.true (omega arith) c.symbols.invariant.stack
      c.symbols.digests.items c.push-in-symbols.new.self.items c.applied-digest.ensures.digest c.symbols.invariant.begun c.in_ok-push-2.ensures.items;
}

pub returns : goal.returns
returns c = begun-ends c.args.term.now c.symbols-symbols.result.now c.symbols.at c.symbols.digests.items c.reverse.new.self.items c.symbols-symbols.ensures c.symbols-test.false c.symbols.invariant.begun c.reverse.ensures.items
