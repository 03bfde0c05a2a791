use Rattle.std.proofs.Common.{◌∙◌, Some, ap, refl, slice_get, subst, sym}
use Rattle.std.specs.Map.{keys_of}
use Rattle.indexmap.proofs.SetLemmas.{inserted_at, keys_insert_entry}
use Rattle.indexmap.specs.IndexMap.{keys}
use Rattle.apd_intern.specs.Nodes.{Adds}
use Rattle.apd_intern.proofs.Lists.{inserted}
use Rattle.apd_intern.proofs.Linked.{node_eq}
use Rattle.apd_intern.proofs.node.put_node.Goals as goal

pub returns-clause-adds : goal.returns-clause-adds
returns-clause-adds c =
    subst (Adds (keys c.args.nodes.now) c.args.node) (sym (ap keys_of c.in_ok-place.ensures.entries ∙ keys_insert_entry _ c.args.nodes.now.entries c.args.node tt)) (inserted _ node_eq (keys c.args.nodes.now) c.args.node)

pub returns-clause-place : goal.returns-clause-place
returns-clause-place c =
    let at = inserted_at _ (λ k. (node_eq k k).1 refl) c.args.nodes.now.entries c.args.node tt in
    (λ j. slice_get (ap keys_of c.in_ok-place.ensures.entries j) (c.in_ok-place.ensures.index j))
    ∙ at.1 ∙ ap Some (sym ((node_eq c.args.node at.0).0 at.2))
