use Rattle.std.proofs.Common.{arith, refl}
use Rattle.apd_unify.proofs.Parts.{has_one}
use Rattle.apd_unify.proofs.arguments.only_argument.Goals as goal

pub returns : goal.returns
returns c =
    has_one c.args.heap.now c.args.at c.follow.result 1 c.follow.ensures.store c.follow.ensures.inside c.follow.ensures.end c.follow.ensures.same c.requires.one (omega arith) refl
