use Rattle.std.proofs.Common.{arith, refl}
use Rattle.apd_unify.proofs.Parts.{first_inside, has_two}
use Rattle.apd_unify.proofs.arguments.two_arguments.Goals as goal

pub end-requires : goal.end-requires
end-requires c =
    first_inside c.args.heap.now c.args.at c.follow-first.result 2 c.follow-first.ensures.store c.follow-first.ensures.inside c.follow-first.ensures.end c.follow-first.ensures.same c.requires.two (omega arith)

pub returns : goal.returns
returns c =
    has_two c.args.heap.now c.args.at c.follow-first.result 2 c.follow-first.ensures.store c.follow-first.ensures.inside c.follow-first.ensures.end c.follow-first.ensures.same c.requires.two (omega arith)
    c.end.result refl c.end.ensures.end
