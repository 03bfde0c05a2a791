use Rattle.std.proofs.Common.{ap, ◌∙◌}
use Rattle.std.specs.List.{fold}
use Rattle.apd_term.specs.Canonical.{with_new}
use Rattle.apd_term.proofs.Spelling.{variables_seen}
use Rattle.apd_by_definition.proofs.term.note_all.Goals as goal

pub returns : goal.returns
returns c =
    c.loop-symbol.invariant
    ∙ ap (fold with_new c.args.seen.now.items)
    (variables_seen c.args.t.now c.symbols-symbol-items.result.now c.loop-symbol.symbol-index c.symbols-symbol-items.ensures c.loop-symbol-test.false)
