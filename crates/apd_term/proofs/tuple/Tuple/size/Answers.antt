use Rattle.std.proofs.Common.{arith, ap}
use Rattle.apd_term.specs.Term.{size}
use Rattle.apd_term.proofs.Tuples.{sizes-take}
use Rattle.apd_term.proofs.tuple.Tuple.size.Goals as goal

pub loop-atom-preserved : goal.loop-atom-preserved
loop-atom-preserved c =
    let more = sizes-take c.as_slice-atom-items.result.now c.loop-atom.atom-index c.atom-item.result c.loop-atom-test.true in
    omega (arith, more, ap size c.atom-item.is, c.size.ensures, c.saturating_add-total.ensures)
