use Rattle.std.proofs.Common.{ap, ◌∙◌, arith, length, get_or}
use Rattle.apd_term.specs.declared.term.Sym.TheVariants.{Var}
use Rattle.apd_arith.proofs.Values.{arguments_there, one_further, value_alone}
use Rattle.apd_arith.proofs.evaluation.eval.Goals as goal

pub put-requires : goal.put-requires
put-requires c =
    let fits = arguments_there c.args.expr.now c.symbols-symbols.result.now c.symbols.at (Var 0) c.symbols.values.items c.symbols-symbols.ensures c.symbols-test.true (omega arith) c.symbols.invariant in
    omega (arith, c.symbols.values.ok.0)

pub symbols-preserved : goal.symbols-preserved
symbols-preserved c =
    one_further c.symbols-symbols.result.now c.symbols.at (Var 0) c.symbols.values.items c.put.new.values.items c.symbols-test.true (omega arith) c.symbols.invariant c.in_ok-put.ensures

pub index-requires : goal.index-requires
index-requires c =
    let alone = value_alone c.args.expr.now c.symbols-symbols.result.now c.symbols.at c.symbols.values.items c.symbols-symbols.ensures c.symbols-test.false c.symbols.invariant in
    omega (arith, ap length alone, c.symbols.values.ok.0)

pub returns : goal.returns
returns c m =
    let alone = value_alone c.args.expr.now c.symbols-symbols.result.now c.symbols.at c.symbols.values.items c.symbols-symbols.ensures c.symbols-test.false c.symbols.invariant in
    c.index.ensures ∙ ap (λ vs. get_or vs 0 c.index.result.now) alone
