use Rattle.std.proofs.Common.{length, take}
use Rattle.std.specs.List.{flat_map}
use Rattle.apd_term.specs.Term.{spell}
use Rattle.apd_cells.specs.Slots.{Placing}
use Rattle.apd_cells.proofs.slots.append_all.Given as goal

abbrev pub invariant-terms : goal.invariant-terms
invariant-terms l = Placing l.fn.cells.items l.cells.items (length l.fn.bindings.items) l.count l.fn.slots.items l.slots.items (flat_map spell (take l.term-index l.terms))
