use Rattle.std.proofs.Common.{◌≡◌, [], ◌+◌, ◌-◌, arith, inr, refl, subst}
use Rattle.apd_cells.proofs.Passing.{passed_here}
use Rattle.apd_past.specs.Ground.{PassesFixed}
use Rattle.apd_past.proofs.ground.pass_bound.Goals as goal

pub returns : goal.returns
returns c =
    let s = c.args.then.now in
    let none : c.in_ok-arity.arity ≡ 0 = omega (arith, c.if-arity-gt0.false) in
    let left : c.args.here.left - 1 + c.in_ok-arity.arity ≡ c.args.here.left - 1 = omega (arith, none) in
    subst (λ n. PassesFixed s c.args.here (record { at = c.args.here.at + 1; left = n })) left (record {
      symbol = c.symbol-symbol.result;
      fixed = c.in_ok-arity.ensures.fixed;
      passes = passed_here s c.args.here _ [] c.follow-at.result c.in_ok-arity.arity c.symbol-symbol.result
          c.follow-at.ensures.store c.requires.right c.requires.some
          (record { inside = c.follow-at.ensures.inside; same = c.follow-at.ensures.same; end = c.follow-at.ensures.end; start = c.follow-at.ensures.start })
          c.symbol-symbol.ensures.symbol c.in_ok-arity.ensures.arity (inr none) refl;
    })
