use Rattle.std.proofs.Common.{◌∙◌, ℕ}
use Rattle.apd_term.specs.Term.{variable, apply}
use Rattle.apd_term.specs.Canonical.{place_of}
use Rattle.apd_term.proofs.Spelling.{applied, whole_from_spelled, term_of_from_spelled}
use Rattle.apd_by_definition.proofs.term.numbered.Goals as goal

pub of_symbols-requires : goal.of_symbols-requires
of_symbols-requires c =
    let s = λ (v : ℕ). variable (place_of c.args.order.now v) in
    whole_from_spelled c.loop-symbol.out (apply s c.args.t.now)
    (applied s c.args.t.now c.loop-symbol.out c.symbols-symbol-items.result.now c.loop-symbol.symbol-index
    c.loop-symbol.invariant c.symbols-symbol-items.ensures c.loop-symbol-test.false)

pub returns : goal.returns
returns c =
    let s = λ (v : ℕ). variable (place_of c.args.order.now v) in
    c.of_symbols.ensures
    ∙ term_of_from_spelled c.loop-symbol.out (apply s c.args.t.now)
    (applied s c.args.t.now c.loop-symbol.out c.symbols-symbol-items.result.now c.loop-symbol.symbol-index
    c.loop-symbol.invariant c.symbols-symbol-items.ensures c.loop-symbol-test.false)
