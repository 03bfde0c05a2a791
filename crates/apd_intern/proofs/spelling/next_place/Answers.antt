use Rattle.std.proofs.Common.{ap, ◌∙◌, ◌<◌, ◌++◌, ◌∷◌, arith, sym, reverse}
use Rattle.apd_intern.specs.Nodes.{link_at}
use Rattle.apd_intern.specs.Pending.{places_left}
use Rattle.apd_intern.proofs.Spelled.{pending_popped, split, pending_pushed}
use Rattle.apd_intern.proofs.spelling.next_place.Goals as goal

pub bounds-links-at : goal.bounds-links-at
bounds-links-at c =
    let p = pending_popped c.args.links.now c.args.pending.now.items c.pop.new.self.items c.in-Some.field-0 c.in-Some.ensures.items c.requires in
    (split c.args.links.now c.in-Some.field-0.count c.in-Some.field-0.at (omega (arith, c.if-count-le1.false)) p.rest).there

pub returns-clause-next : goal.returns-clause-next
returns-clause-next c =
    let p = pending_popped c.args.links.now c.args.pending.now.items c.pop.new.self.items c.in-Some.field-0 c.in-Some.ensures.items c.requires in
    let more : 1 < c.in-Some.field-0.count = omega (arith, c.if-count-le1.false) in
    let s = split c.args.links.now c.in-Some.field-0.count c.in-Some.field-0.at more p.rest in
    let q = pending_pushed c.args.links.now c.pop.new.self.items c.push.new.self.items _ c.in_ok-push.ensures.items (omega (arith, more)) s.rest p.pending in
    p.left ∙ ap (λ xs. xs ++ places_left c.args.links.now (reverse c.pop.new.self.items)) s.places ∙ ap (λ xs. (link_at c.args.links.now c.in-Some.field-0.at).first ∷ xs) (sym q.1)

pub returns-clause-rest : goal.returns-clause-rest
returns-clause-rest c =
    let p = pending_popped c.args.links.now c.args.pending.now.items c.pop.new.self.items c.in-Some.field-0 c.in-Some.ensures.items c.requires in
    let more : 1 < c.in-Some.field-0.count = omega (arith, c.if-count-le1.false) in
    let s = split c.args.links.now c.in-Some.field-0.count c.in-Some.field-0.at more p.rest in
    (pending_pushed c.args.links.now c.pop.new.self.items c.push.new.self.items _ c.in_ok-push.ensures.items (omega (arith, more)) s.rest p.pending).0
