use Rattle.std.proofs.Common.{IsSome, refl, sym, subst}
use Rattle.std.specs.Prelude.{nat_eq}
use Rattle.indexmap.specs.IndexMap.{get}
use Rattle.apd_index.specs.Columns.{IsUnlike}
use Rattle.apd_index.proofs.Unequal.{each-of, each-put}
use Rattle.apd_index.proofs.unlike.bring.Goals as goal

pub returns-in-Some : goal.returns-in-Some
returns-in-Some c = λ columns gathered has.
    let there : IsSome (get nat_eq c.args.pairs.now c.args.key) = subst (λ o. IsSome o) c.in-Some.ensures.value refl in
    each-put (λ key. IsUnlike columns) (get nat_eq c.args.pairs.now) (get nat_eq (c.get_mut.follows.lender c.bring_pair.new.unlike)) c.args.key c.bring_pair.new.unlike (λ q. ((c.get_mut.follows.holds c.bring_pair.new.unlike).3 there).0 q)
    (c.bring_pair.ensures columns gathered (each-of (IsUnlike columns) (get nat_eq c.args.pairs.now c.args.key) c.in-Some.unlike.now (has c.args.key) (sym c.in-Some.ensures.value))) has
