use Rattle.std.proofs.Common.{sym, length}
use Rattle.std.proofs.lemmas.Bool.{ltb-false}
use Rattle.apd_cells.proofs.Keys.{key_of-second, key_of-no_second}
use Rattle.apd_cells.proofs.first.key_of.Goals as goal

pub returns-in-Some : goal.returns-in-Some
returns-in-Some c = let h = c.in-Some.ensures.lookup in key_of-second c.args.t.now c.symbols.result.now c.in-Some.symbol.now c.symbols.ensures h.3.0 h.1

pub returns-in-None : goal.returns-in-None
returns-in-None c = key_of-no_second c.args.t.now c.symbols.result.now c.symbols.ensures (ltb-false 1 (length c.symbols.result.now) (sym c.in-None.ensures.lookup.0))
