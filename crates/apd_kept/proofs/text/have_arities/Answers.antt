use Rattle.std.proofs.Common.{◌≤◌, sym, subst}
use Rattle.std.specs.List.{AllByRecursion}
use Rattle.std.proofs.lemmas.List.{drop_more, drop_all}
use Rattle.apd_term.specs.declared.term.Pred.{Pred}
use Rattle.apd_kept.proofs.text.have_arities.Goals as goal

pub preds-init : goal.preds-init
preds-init c = λ all. all

pub preds-preserved : goal.preds-preserved
preds-preserved c = λ rest.
    c.preds.invariant (subst (AllByRecursion (λ (p : Pred). p.arity ≤ 255)) (sym (drop_more c.args.preds.now c.preds.i _ c.preds-test.true)) (c.has_arity.ensures, rest))

pub returns : goal.returns
returns c = c.preds.invariant (subst (AllByRecursion (λ (p : Pred). p.arity ≤ 255)) (sym (drop_all c.preds.i c.args.preds.now c.preds-test.false)) tt)
