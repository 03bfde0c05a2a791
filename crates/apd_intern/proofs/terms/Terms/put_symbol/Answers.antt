use Rattle.std.proofs.Common.{ap, ◌∙◌, subst, sym, reverse, map, inl}
use Rattle.apd_term.specs.Term.{arity_of}
use Rattle.indexmap.specs.IndexMap.{keys}
use Rattle.apd_intern.specs.Nodes.{AreThere, decoded, term_at}
use Rattle.apd_intern.proofs.Decoding.{table_kept}
use Rattle.apd_intern.proofs.Placing.{after, places_after}
use Rattle.apd_intern.proofs.terms.Terms.put_symbol.Goals as goal

pub invariant_of-self : goal.invariant_of-self
invariant_of-self c = (table_kept (keys c.self.inside.links) (keys c.node_of.new.links) (keys c.self.inside.nodes) c.self.invariant c.node_of.ensures.grown c.node_of.ensures.distinct).0

pub returns-in_err-node-clause-adds : goal.returns-in_err-node-clause-adds
returns-in_err-node-clause-adds c = inl ((table_kept (keys c.self.inside.links) (keys c.node_of.new.links) (keys c.self.inside.nodes) c.self.invariant c.node_of.ensures.grown c.node_of.ensures.distinct).1 ∙ c.self.view_is)

pub invariant_of-self-in_err-place : goal.invariant_of-self-in_err-place
invariant_of-self-in_err-place c =
    (after c.args.self.now (keys c.self.inside.links) (keys c.node_of.new.links) (keys c.self.inside.nodes) (keys c.put_node.new.nodes) c.args.symbol (reverse c.args.places.now.items) c.in_ok-node.node c.self.view_is c.self.invariant c.node_of.ensures.grown c.node_of.ensures.distinct c.requires.there c.in_ok-node.ensures.symbol c.in_ok-node.ensures.linked c.in_ok-node.ensures.arguments c.put_node.ensures.adds c.put_node.ensures.few).table

pub returns-in_err-place-clause-adds : goal.returns-in_err-place-clause-adds
returns-in_err-place-clause-adds c =
    (after c.args.self.now (keys c.self.inside.links) (keys c.node_of.new.links) (keys c.self.inside.nodes) (keys c.put_node.new.nodes) c.args.symbol (reverse c.args.places.now.items) c.in_ok-node.node c.self.view_is c.self.invariant c.node_of.ensures.grown c.node_of.ensures.distinct c.requires.there c.in_ok-node.ensures.symbol c.in_ok-node.ensures.linked c.in_ok-node.ensures.arguments c.put_node.ensures.adds c.put_node.ensures.few).adds

pub invariant_of-self-in_err-push : goal.invariant_of-self-in_err-push
invariant_of-self-in_err-push c =
    (after c.args.self.now (keys c.self.inside.links) (keys c.node_of.new.links) (keys c.self.inside.nodes) (keys c.put_node.new.nodes) c.args.symbol (reverse c.args.places.now.items) c.in_ok-node.node c.self.view_is c.self.invariant c.node_of.ensures.grown c.node_of.ensures.distinct c.requires.there c.in_ok-node.ensures.symbol c.in_ok-node.ensures.linked c.in_ok-node.ensures.arguments c.put_node.ensures.adds c.put_node.ensures.few).table

pub returns-in_err-push-clause-adds : goal.returns-in_err-push-clause-adds
returns-in_err-push-clause-adds c =
    (after c.args.self.now (keys c.self.inside.links) (keys c.node_of.new.links) (keys c.self.inside.nodes) (keys c.put_node.new.nodes) c.args.symbol (reverse c.args.places.now.items) c.in_ok-node.node c.self.view_is c.self.invariant c.node_of.ensures.grown c.node_of.ensures.distinct c.requires.there c.in_ok-node.ensures.symbol c.in_ok-node.ensures.linked c.in_ok-node.ensures.arguments c.put_node.ensures.adds c.put_node.ensures.few).adds

pub invariant_of-self-2 : goal.invariant_of-self-2
invariant_of-self-2 c =
    (after c.args.self.now (keys c.self.inside.links) (keys c.node_of.new.links) (keys c.self.inside.nodes) (keys c.put_node.new.nodes) c.args.symbol (reverse c.args.places.now.items) c.in_ok-node.node c.self.view_is c.self.invariant c.node_of.ensures.grown c.node_of.ensures.distinct c.requires.there c.in_ok-node.ensures.symbol c.in_ok-node.ensures.linked c.in_ok-node.ensures.arguments c.put_node.ensures.adds c.put_node.ensures.few).table

pub returns-clause-adds : goal.returns-clause-adds
returns-clause-adds c =
    (after c.args.self.now (keys c.self.inside.links) (keys c.node_of.new.links) (keys c.self.inside.nodes) (keys c.put_node.new.nodes) c.args.symbol (reverse c.args.places.now.items) c.in_ok-node.node c.self.view_is c.self.invariant c.node_of.ensures.grown c.node_of.ensures.distinct c.requires.there c.in_ok-node.ensures.symbol c.in_ok-node.ensures.linked c.in_ok-node.ensures.arguments c.put_node.ensures.adds c.put_node.ensures.few).adds

pub returns-clause-there : goal.returns-clause-there
returns-clause-there c =
    let turned = places_after c.args.places.now.items c.node_of.new.places.items c.push.new.self.items (arity_of c.args.symbol) c.in_ok-place.place c.in_ok-node.ensures.places c.in_ok-push.ensures.items in
    subst (AreThere (decoded (keys c.node_of.new.links) (keys c.put_node.new.nodes))) (sym turned)
    ((after c.args.self.now (keys c.self.inside.links) (keys c.node_of.new.links) (keys c.self.inside.nodes) (keys c.put_node.new.nodes) c.args.symbol (reverse c.args.places.now.items) c.in_ok-node.node c.self.view_is c.self.invariant c.node_of.ensures.grown c.node_of.ensures.distinct c.requires.there c.in_ok-node.ensures.symbol c.in_ok-node.ensures.linked c.in_ok-node.ensures.arguments c.put_node.ensures.adds c.put_node.ensures.few).there c.in_ok-place.place c.in_ok-place.ensures.place)

pub returns-clause-terms : goal.returns-clause-terms
returns-clause-terms c =
    let turned = places_after c.args.places.now.items c.node_of.new.places.items c.push.new.self.items (arity_of c.args.symbol) c.in_ok-place.place c.in_ok-node.ensures.places c.in_ok-push.ensures.items in
    ap (map (term_at (decoded (keys c.node_of.new.links) (keys c.put_node.new.nodes)))) turned
    ∙ (after c.args.self.now (keys c.self.inside.links) (keys c.node_of.new.links) (keys c.self.inside.nodes) (keys c.put_node.new.nodes) c.args.symbol (reverse c.args.places.now.items) c.in_ok-node.node c.self.view_is c.self.invariant c.node_of.ensures.grown c.node_of.ensures.distinct c.requires.there c.in_ok-node.ensures.symbol c.in_ok-node.ensures.linked c.in_ok-node.ensures.arguments c.put_node.ensures.adds c.put_node.ensures.few).terms c.in_ok-place.place c.in_ok-place.ensures.place
