use Rattle.std.proofs.Common.{ap, ◌∙◌, ◌≡◌, ◌≤◌, length, arith, subst, take, reverse}
use Rattle.std.proofs.lemmas.Bool.Decides.{nat_tests}
use Rattle.std.proofs.lemmas.List.{take_all}
use Rattle.indexmap.specs.IndexMap.{keys}
use Rattle.apd_intern.specs.Nodes.{rest_at}
use Rattle.apd_intern.proofs.Lists.{adds_front, adds_distinct}
use Rattle.apd_intern.proofs.Linked.{put_next, front_front}
use Rattle.apd_intern.proofs.node.put_rest.Goals as goal

pub places-preserved : goal.places-preserved
places-preserved c =
    record {
      put = put_next (keys c.places.links) (keys c.put_link.new.links) c.args.places.now c.places.i c.places.rest c.in_ok-rest.rest 0 c.places.auto.i (omega (arith, c.places-test.true)) c.places.invariant.put c.put_link.ensures.adds c.in_ok-rest.ensures.place;
      grown = front_front (keys c.args.links.now) (keys c.places.links) (keys c.put_link.new.links) c.places.invariant.grown (adds_front (keys c.places.links) _ (keys c.put_link.new.links) c.put_link.ensures.adds);
      distinct = λ d. adds_distinct (keys c.places.links) _ (keys c.put_link.new.links) c.put_link.ensures.adds (c.places.invariant.distinct d);
    }

pub returns-clause-places : goal.returns-clause-places
returns-clause-places c =
    let some : 1 ≤ length c.args.places.now = grind (arith, nat_tests, c.if-is_empty.ensures) in
    let all : c.places.i ≡ length c.args.places.now = omega (arith, c.places-test.false, c.places.auto.i-end some) in
    subst (λ n. rest_at (keys c.places.links) n c.places.rest ≡ reverse (take n c.args.places.now)) all c.places.invariant.put.places
    ∙ ap reverse (take_all (length c.args.places.now) c.args.places.now (omega arith))
