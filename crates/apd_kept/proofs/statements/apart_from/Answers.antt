use Rattle.std.proofs.Common.{arith, subst}
use Rattle.apd_term.specs.Term.{Occurs}
use Rattle.apd_term.proofs.Variants.{Occurs-canonical}
use Rattle.apd_kept.proofs.statements.apart_from.Goals as goal

pub shifted-requires : goal.shifted-requires
shifted-requires c = λ v o.
    let within = Occurs-canonical c.args.call.now v (subst (Occurs v) c.in_ok-form.ensures o) in
    let size = c.size.ensures in
    let few = c.if-base-size.false in
    let fits = c.size.type_inv in
    omega (arith, within.1, size, few, fits)
