use Rattle.std.proofs.Common.{sym, ap, ◌∙◌}
use Rattle.apd_cells.specs.First.{first_symbol}
use Rattle.apd_cells.proofs.Keys.{first_symbol-end}
use Rattle.apd_cells.proofs.first.first_symbol.Goals as goal

pub returns : goal.returns
returns c =
    c.symbol.ensures.symbol
    ∙ sym (first_symbol-end c.args.heap.now c.follow.result c.follow.ensures.store c.follow.ensures.inside c.follow.ensures.end)
    ∙ ap first_symbol c.follow.ensures.same
