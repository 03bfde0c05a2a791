use Rattle.std.proofs.Common.{sym}
use Rattle.std.proofs.lemmas.Result.{IfOk-weaker}
use Rattle.apd_term.specs.Term.{term_of}
use Rattle.apd_cells.proofs.Standing.{placed_all}
use Rattle.apd_cells.proofs.Stretching.{put_placed}
use Rattle.apd_cells.proofs.slots.append_symbols.Goals as goal

pub returns-then-is_empty-clause-put : goal.returns-then-is_empty-clause-put
returns-then-is_empty-clause-put c =
    IfOk-weaker c.append_placed.result _ _
    (λ n h means a. put_placed means c.args.cells.now.items c.append_placed.new.cells.items c.args.there n c.args.slots.now.items c.append_placed.new.slots.items (term_of c.args.symbols.now)
    (placed_all c.args.cells.now.items c.append_placed.new.cells.items c.args.there n c.args.slots.now.items c.append_placed.new.slots.items c.args.symbols.now (term_of c.args.symbols.now) h (sym c.requires.whole)))
    c.append_placed.ensures.put
