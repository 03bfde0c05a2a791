use Rattle.std.proofs.Common.{◌∙◌, Some, ap, refl, slice_get, subst, sym}
use Rattle.std.specs.Map.{keys_of}
use Rattle.indexmap.proofs.SetLemmas.{inserted_at, keys_insert_entry}
use Rattle.indexmap.specs.IndexMap.{keys}
use Rattle.apd_intern.specs.Nodes.{Adds}
use Rattle.apd_intern.proofs.Lists.{inserted}
use Rattle.apd_intern.proofs.Linked.{link_eq}
use Rattle.apd_intern.proofs.node.put_link.Goals as goal

pub returns-clause-adds : goal.returns-clause-adds
returns-clause-adds c =
    subst (Adds (keys c.args.links.now) c.args.link) (sym (ap keys_of c.in_ok-place.ensures.entries ∙ keys_insert_entry _ c.args.links.now.entries c.args.link tt)) (inserted _ link_eq (keys c.args.links.now) c.args.link)

pub returns-clause-place : goal.returns-clause-place
returns-clause-place c =
    let at = inserted_at _ (λ k. (link_eq k k).1 refl) c.args.links.now.entries c.args.link tt in
    (λ j. slice_get (ap keys_of c.in_ok-place.ensures.entries j) (c.in_ok-place.ensures.index j))
    ∙ at.1 ∙ ap Some (sym ((link_eq c.args.link at.0).0 at.2))
