use Rattle.std.proofs.Common.{subst, sym}
use Rattle.apd_cells.specs.Stretches.{AreMeant, AreStretches}
use Rattle.apd_cells.specs.Store.{meaning}
use Rattle.apd_unify.proofs.heads.load_sharing.Goals as goal

pub load_for-requires-clause-stretches : goal.load_for-requires-clause-stretches
load_for-requires-clause-stretches c =
    subst (AreStretches c.args.symbols.now) (sym c.as_slice.ensures.value) c.in_ok-find_copied.ensures.stretches

pub load_for-requires-clause-meant : goal.load_for-requires-clause-meant
load_for-requires-clause-meant c =
    subst (AreMeant (meaning c.args.heap.now.cells c.args.heap.now.trail) c.args.symbols.now) (sym c.as_slice.ensures.value) c.in_ok-find_copied.ensures.meant
