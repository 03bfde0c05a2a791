use Rattle.std.proofs.Common.{refl}
use Rattle.apd_by_definition.proofs.Nodes.{unchanged_more, unchanged_all}
use Rattle.apd_by_definition.proofs.engine.frames.is_ground.Goals as goal

pub atoms-preserved : goal.atoms-preserved
atoms-preserved c = λ s.
    unchanged_more s c.as_slice-atom-items.result.now c.atoms.atom-index c.atom-item.result c.atoms-test.true c.atom-item.is (c.if-not-is_ground-2.ensures.0 refl) (c.atoms.invariant s)

pub returns : goal.returns
returns c = λ s.
    unchanged_all s c.args.tuple.now c.as_slice-atom-items.result.now c.atoms.atom-index (c.if-not-is_ground.ensures.0 refl) c.as_slice-atom-items.ensures c.atoms-test.false (c.atoms.invariant s)
