use Rattle.std.proofs.Common.{List, length, ap, arith, subst, sym}
use Rattle.apd_term.specs.declared.term.Sym.{Sym}
use Rattle.apd_term.specs.Substitution.{term_for}
use Rattle.apd_term.proofs.Matched.{matched_all, step_result, too_short}
use Rattle.apd_term.proofs.Spelling.{whole_from_spelled}
use Rattle.apd_skips.specs.Skips.{HasSkips, placed}
use Rattle.apd_skips.proofs.kept.is_made.Goals as goal

pub returns-then-at-symbols : goal.returns-then-at-symbols
returns-then-at-symbols c =
    too_short c.args.special.now c.args.general.now (placed c.symbols-symbols.result.now c.symbols.firsts) c.symbols.symbol-index c.symbols.at c.symbols.invariant.matched
    (omega (arith, ap length c.symbols-symbol-items.ensures)) (omega (arith, ap length c.symbols-symbols.ensures))

pub step-requires-clause-whole : goal.step-requires-clause-whole
step-requires-clause-whole c = whole_from_spelled c.symbols-symbols.result.now c.args.special.now c.symbols-symbols.ensures

pub step-requires-clause-skips : goal.step-requires-clause-skips
step-requires-clause-skips c = subst (λ (xs : List Sym). HasSkips xs c.args.skips.now) (sym c.symbols-symbols.ensures) c.requires

pub returns-in-None : goal.returns-in-None
returns-in-None c =
    (step_result c.args.special.now c.args.general.now (placed c.symbols-symbols.result.now c.symbols.firsts) (placed c.symbols-symbols.result.now c.step.new.firsts) c.symbols.symbol-index c.symbols.at
    c.symbols-symbol-items.result.now c.symbols-symbols.result.now c.in_ok-step.field-0 c.symbols.invariant.matched
    c.symbols-symbol-items.ensures c.symbols-symbols.ensures c.symbols-test.true c.if-at-symbols.false c.in_ok-step.ensures.step).0 c.in-None.is

pub symbols-preserved : goal.symbols-preserved
symbols-preserved c = record {
  matched =
      (step_result c.args.special.now c.args.general.now (placed c.symbols-symbols.result.now c.symbols.firsts) (placed c.symbols-symbols.result.now c.step.new.firsts) c.symbols.symbol-index c.symbols.at
      c.symbols-symbol-items.result.now c.symbols-symbols.result.now c.in_ok-step.field-0 c.symbols.invariant.matched
      c.symbols-symbol-items.ensures c.symbols-symbols.ensures c.symbols-test.true c.if-at-symbols.false c.in_ok-step.ensures.step).1 c.in-Some.next c.in-Some.is;
  within = c.in_ok-step.ensures.within;
}

pub returns : goal.returns
returns c =
    let ps = placed c.symbols-symbols.result.now c.symbols.firsts in (
      term_for ps,
      (matched_all c.args.special.now c.args.general.now ps c.symbols.symbol-index c.symbols.at c.symbols.invariant.matched (omega (arith, ap length c.symbols-symbol-items.ensures))).makes,
    )
