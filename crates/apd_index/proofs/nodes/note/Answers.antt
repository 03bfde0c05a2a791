use Rattle.std.proofs.Common.{◌≡◌, unwrap_or, refl, sym, ap, ◌∙◌, subst, arith}
use Rattle.std.specs.Prelude.{nat_eq}
use Rattle.std.proofs.lemmas.Bool.{eqb-true}
use Rattle.indexmap.specs.IndexMap.{get}
use Rattle.apd_index.proofs.Numbering.{IsFresh, absent, all-sound, founder-fresh, founder-there, founders-kept}
use Rattle.apd_index.specs.Nodes.{HaveNumbers}
use Rattle.apd_index.specs.declared.nodes.SymbolNode.{SymbolNode}
use Rattle.apd_index.proofs.nodes.note.Goals as goal

pub returns-in_err-put_place-clause-sound : goal.returns-in_err-put_place-clause-sound
returns-in_err-put_place-clause-sound c =
    let nodes = c.args.nodes.now in
    let first = c.or_insert-node.result.now in
    let node = c.put_place.new.node in
    let fresh : SymbolNode = record { last = 0; count = 0; row = 0; founder = c.args.place; slots = c.slots_from.result } in
    let is : first ≡ unwrap_or (get nat_eq nodes.nodes c.args.mark) fresh = c.or_insert-node.ensures.value ∙ ap (λ o. unwrap_or o fresh) c.in_ok-nodes.ensures.value in
    let new : IsFresh nodes.next fresh = record { empty = refl; bare = refl; first = c.slots_from.ensures.first } in
    all-sound nodes c.args.mark fresh first is new c.requires _ node (λ m. grind (arith, (c.in_ok-nodes.ensures.update.0 node).0 m)) c.put_place.ensures.slots c.behind-nodes.ensures.still c.put_place.ensures.falling
    c.put_place.ensures.chains c.put_place.ensures.bits c.put_place.ensures.right
    (λ none. c.behind-nodes.ensures.behind (subst (λ (n : SymbolNode). HaveNumbers n.slots) (sym (absent nodes c.args.mark fresh first is new c.requires none)) c.slots_from.ensures.fits))

pub returns-clause-sound : goal.returns-clause-sound
returns-clause-sound c =
    let nodes = c.args.nodes.now in
    let first = c.or_insert-node.result.now in
    let node = c.put_place.new.node in
    let fresh : SymbolNode = record { last = 0; count = 0; row = 0; founder = c.args.place; slots = c.slots_from.result } in
    let is : first ≡ unwrap_or (get nat_eq nodes.nodes c.args.mark) fresh = c.or_insert-node.ensures.value ∙ ap (λ o. unwrap_or o fresh) c.in_ok-nodes.ensures.value in
    let new : IsFresh nodes.next fresh = record { empty = refl; bare = refl; first = c.slots_from.ensures.first } in
    all-sound nodes c.args.mark fresh first is new c.requires _ node (λ m. grind (arith, (c.in_ok-nodes.ensures.update.0 node).0 m)) c.put_place.ensures.slots c.behind-nodes.ensures.still c.put_place.ensures.falling
    c.put_place.ensures.chains c.put_place.ensures.bits c.put_place.ensures.right
    (λ none. c.behind-nodes.ensures.behind (subst (λ (n : SymbolNode). HaveNumbers n.slots) (sym (absent nodes c.args.mark fresh first is new c.requires none)) c.slots_from.ensures.fits))

pub returns-in_err-put_place-clause-founders : goal.returns-in_err-put_place-clause-founders
returns-in_err-put_place-clause-founders c =
    let nodes = c.args.nodes.now in
    let first = c.or_insert-node.result.now in
    let fresh : SymbolNode = record { last = 0; count = 0; row = 0; founder = c.args.place; slots = c.slots_from.result } in
    let is : first ≡ unwrap_or (get nat_eq nodes.nodes c.args.mark) fresh = c.or_insert-node.ensures.value ∙ ap (λ o. unwrap_or o fresh) c.in_ok-nodes.ensures.value in
    let new : IsFresh nodes.next fresh = record { empty = refl; bare = refl; first = c.slots_from.ensures.first } in
    founders-kept nodes c.args.mark fresh first is new c.requires _ c.put_place.new.node (λ m. grind (arith, (c.in_ok-nodes.ensures.update.0 c.put_place.new.node).0 m)) c.put_place.ensures.slots c.put_place.ensures.founder

pub returns-clause-founders : goal.returns-clause-founders
returns-clause-founders c =
    let nodes = c.args.nodes.now in
    let first = c.or_insert-node.result.now in
    let fresh : SymbolNode = record { last = 0; count = 0; row = 0; founder = c.args.place; slots = c.slots_from.result } in
    let is : first ≡ unwrap_or (get nat_eq nodes.nodes c.args.mark) fresh = c.or_insert-node.ensures.value ∙ ap (λ o. unwrap_or o fresh) c.in_ok-nodes.ensures.value in
    let new : IsFresh nodes.next fresh = record { empty = refl; bare = refl; first = c.slots_from.ensures.first } in
    founders-kept nodes c.args.mark fresh first is new c.requires _ c.put_place.new.node (λ m. grind (arith, (c.in_ok-nodes.ensures.update.0 c.put_place.new.node).0 m)) c.put_place.ensures.slots c.put_place.ensures.founder

pub returns-clause-founder : goal.returns-clause-founder
returns-clause-founder c = λ own.
    let nodes = c.args.nodes.now in
    let first = c.or_insert-node.result.now in
    let fresh : SymbolNode = record { last = 0; count = 0; row = 0; founder = c.args.place; slots = c.slots_from.result } in
    let is : first ≡ unwrap_or (get nat_eq nodes.nodes c.args.mark) fresh = c.or_insert-node.ensures.value ∙ ap (λ o. unwrap_or o fresh) c.in_ok-nodes.ensures.value in
    let new : IsFresh nodes.next fresh = record { empty = refl; bare = refl; first = c.slots_from.ensures.first } in
    founder-there nodes c.args.mark fresh first is new c.requires _ c.put_place.new.node (λ m. grind (arith, (c.in_ok-nodes.ensures.update.0 c.put_place.new.node).0 m)) c.put_place.ensures.slots c.args.place (eqb-true c.put_place.new.node.founder c.args.place own)

pub returns-clause-first : goal.returns-clause-first
returns-clause-first c = λ none.
    let nodes = c.args.nodes.now in
    let first = c.or_insert-node.result.now in
    let fresh : SymbolNode = record { last = 0; count = 0; row = 0; founder = c.args.place; slots = c.slots_from.result } in
    let is : first ≡ unwrap_or (get nat_eq nodes.nodes c.args.mark) fresh = c.or_insert-node.ensures.value ∙ ap (λ o. unwrap_or o fresh) c.in_ok-nodes.ensures.value in
    let new : IsFresh nodes.next fresh = record { empty = refl; bare = refl; first = c.slots_from.ensures.first } in
    founder-there nodes c.args.mark fresh first is new c.requires _ c.put_place.new.node (λ m. grind (arith, (c.in_ok-nodes.ensures.update.0 c.put_place.new.node).0 m)) c.put_place.ensures.slots c.args.place (c.put_place.ensures.founder ∙ founder-fresh nodes c.args.mark fresh first is new c.requires none)
