use Rattle.std.proofs.Common.{◌<◌, length, arith}
use borrow.Author.Tests.{true-ltb}
use Rattle.apd_skips.proofs.Skipping.{both-more, passed-behind, skip-is}
use Rattle.apd_skips.proofs.skips.are_equal.Goals as goal

pub is_one-requires-clause-one : goal.is_one-requires-clause-one
is_one-requires-clause-one c = let l : c.terms.i < length c.args.skips.now = true-ltb c.terms.i (length c.args.skips.now) c.in-Some-Some.ensures.lookup.0 in let s = c.requires.same in omega (arith, l, s)

pub is_one-requires-clause-other : goal.is_one-requires-clause-other
is_one-requires-clause-other c = let m : c.terms.j < length c.args.skips.now = true-ltb c.terms.j (length c.args.skips.now) c.in-Some-Some.ensures'.lookup.0 in let s = c.requires.same in omega (arith, m, s)

pub is_one-requires-clause-left : goal.is_one-requires-clause-left
is_one-requires-clause-left c =
    skip-is c.args.symbols.now c.args.skips.now c.args.one c.terms.i c.in-Some-Some.left.now c.requires.ones (passed-behind c.args.symbols.now c.args.one c.terms._k c.terms.i c.terms.invariant.0)
    (true-ltb c.terms.i (length c.args.skips.now) c.in-Some-Some.ensures.lookup.0) c.in-Some-Some.ensures.lookup.1

pub is_one-requires-clause-right : goal.is_one-requires-clause-right
is_one-requires-clause-right c =
    skip-is c.args.symbols.now c.args.skips.now c.args.other c.terms.j c.in-Some-Some.right.now c.requires.others (passed-behind c.args.symbols.now c.args.other c.terms._k c.terms.j c.terms.invariant.1)
    (true-ltb c.terms.j (length c.args.skips.now) c.in-Some-Some.ensures'.lookup.0) c.in-Some-Some.ensures'.lookup.1

pub terms-preserved : goal.terms-preserved
terms-preserved c =
    let l : c.terms.i < length c.args.skips.now = true-ltb c.terms.i (length c.args.skips.now) c.in-Some-Some.ensures.lookup.0 in
    let m : c.terms.j < length c.args.skips.now = true-ltb c.terms.j (length c.args.skips.now) c.in-Some-Some.ensures'.lookup.0 in
    both-more c.args.symbols.now c.args.skips.now c.args.one c.args.other c.terms._k c.terms.i c.terms.j c.in-Some-Some.left.now c.in-Some-Some.right.now c.requires.whole c.requires.same
    c.requires.ones c.requires.others l c.in-Some-Some.ensures.lookup.1 m c.in-Some-Some.ensures'.lookup.1 (c.is_one.ensures c.if-not-is_one.false) c.terms.invariant
