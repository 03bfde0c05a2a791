use Rattle.std.proofs.Common.{ap, ◌∙◌, ◌≡◌, ◌+◌, ◌-◌, ◌<◌, length, arith, sym, take, drop, reverse}
use Rattle.std.proofs.lemmas.Bool.Decides.{nat_tests}
use Rattle.apd_term.specs.Term.{arity_of}
use Rattle.indexmap.specs.IndexMap.{keys}
use Rattle.apd_intern.proofs.Linked.{last_reversed, node_arguments}
use Rattle.apd_intern.proofs.node.node_of.Goals as goal

pub returns-in_ok-rest-in-Fun-clause-arguments : goal.returns-in_ok-rest-in-Fun-clause-arguments
returns-in_ok-rest-in-Fun-clause-arguments c =
    let arity : arity_of c.args.symbol ≡ c.in-Fun.arity = ap arity_of c.in-Fun.is in
    let some : 0 < c.in-Fun.arity = grind (arith, nat_tests, c.in-Fun.arity-test) in
    let from : (c.len.result - c.in-Fun.arity) + c.in-Fun.arity ≡ length c.args.places.now.items = omega (arith, c.len.ensures, c.args.places.now.ok.0, c.requires, arity) in
    let end : (c.len-end.result - 1) + 1 ≡ length c.args.places.now.items = omega (arith, c.len-end.ensures, c.args.places.now.ok.0, c.requires, arity, some) in
    (node_arguments (keys c.put_rest.new.links) c.args.places.now.items _ c.in-Fun.arity (c.len.result - c.in-Fun.arity) (c.len-end.result - 1) c.index-first.result.now c.in_ok-rest-in-Fun.rest from end some
    (ap (λ xs. take ((c.len-end.result - 1) - (c.len.result - c.in-Fun.arity)) (drop (c.len.result - c.in-Fun.arity) xs)) c.deref.ensures.value)
    c.index-first.ensures c.in_ok-rest-in-Fun.ensures.rest c.in_ok-rest-in-Fun.ensures.places).1
    ∙ ap (λ n. take n (reverse c.args.places.now.items)) (sym arity)

pub returns-in_ok-rest-in-Fun-clause-places : goal.returns-in_ok-rest-in-Fun-clause-places
returns-in_ok-rest-in-Fun-clause-places c =
    let arity : arity_of c.args.symbol ≡ c.in-Fun.arity = ap arity_of c.in-Fun.is in
    let from : (c.len.result - c.in-Fun.arity) + c.in-Fun.arity ≡ length c.args.places.now.items = omega (arith, c.len.ensures, c.args.places.now.ok.0, c.requires, arity) in
    ap reverse c.truncate.ensures.items
    ∙ sym (last_reversed c.args.places.now.items c.in-Fun.arity (c.len.result - c.in-Fun.arity) from).1
    ∙ ap (λ n. drop n (reverse c.args.places.now.items)) (sym arity)
