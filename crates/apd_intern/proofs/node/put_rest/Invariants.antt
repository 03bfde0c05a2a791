use Rattle.indexmap.specs.IndexMap.{keys}
use Rattle.apd_intern.specs.Nodes.{AreDistinct, IsFrontOf}
use Rattle.apd_intern.proofs.Linked.{IsPut}
use Rattle.apd_intern.proofs.node.put_rest.Given as goal

abbrev pub invariant-places : goal.invariant-places
invariant-places l =
    record {
      put : IsPut (keys l.links) l.places l.i l.rest;
      grown : IsFrontOf (keys l.fn.links) (keys l.links);
      distinct : AreDistinct (keys l.fn.links) → AreDistinct (keys l.links);
    }
