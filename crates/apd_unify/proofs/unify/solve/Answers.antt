use Rattle.std.proofs.Common.{◌≢◌, refl, rules}
use Rattle.apd_unify.proofs.Solving.{no_unifier_clash}
use Rattle.apd_unify.proofs.unify.solve.Goals as goal

pub returns-then-ne : goal.returns-then-ne
returns-then-ne c =
    let d : c.symbol.result ≢ c.symbol-2.result = search rules in
    record {
      ok = (
        refl,
        no_unifier_clash c.args.heap.now c.args.a c.args.b c.symbol.result c.symbol-2.result c.symbol.ensures.store c.requires.a c.requires.b c.requires.free_a c.requires.free_b
            c.symbol.ensures.symbol c.symbol-2.ensures.symbol c.in_default.not-Var-0 c.in_default.not-Var-1 d,
      );
      err = tt;
    }
