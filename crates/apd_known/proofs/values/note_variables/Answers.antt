use Rattle.std.proofs.Common.{ap, ◌∙◌}
use Rattle.std.specs.List.{fold}
use Rattle.apd_term.specs.Canonical.{with_new}
use Rattle.apd_term.proofs.Spelling.{variables_seen}
use Rattle.apd_known.proofs.values.note_variables.Goals as goal

pub returns : goal.returns
returns c =
    c.symbols.invariant
    ∙ ap (fold with_new c.args.seen.now.keys)
    (variables_seen c.args.term.now c.symbols-symbol-items.result.now c.symbols.symbol-index c.symbols-symbol-items.ensures c.symbols-test.false)
