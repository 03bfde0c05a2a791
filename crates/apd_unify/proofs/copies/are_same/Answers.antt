use Rattle.std.proofs.Common.{◌≡◌, get_or, rules}
use Rattle.apd_term.specs.declared.term.Sym.TheVariants.{Var}
use Rattle.apd_unify.proofs.Copying.{same_none, same_more, same_all}
use Rattle.apd_unify.proofs.copies.are_same.Goals as goal

pub symbols-init : goal.symbols-init
symbols-init c = same_none c.args.ours.now c.args.theirs.now

pub symbols-preserved : goal.symbols-preserved
symbols-preserved c =
    let q : get_or c.args.ours.now c.symbols.at (Var 0) ≡ get_or c.args.theirs.now c.symbols.at (Var 0) = search rules in
    same_more c.args.ours.now c.args.theirs.now c.symbols.at c.symbols.invariant c.symbols-test.true c.requires q c.in_default.not-Var

pub returns : goal.returns
returns c = same_all c.args.ours.now c.args.theirs.now c.symbols.at c.symbols.invariant c.symbols-test.false c.requires
