use Rattle.std.proofs.Common.{◌≡◌, ◌≤◌, take}
use Rattle.std.specs.List.{flat_map}
use Rattle.apd_term.specs.Spelling.{variable_in}
use Rattle.apd_cells.specs.Store.{above}
use Rattle.apd_past.proofs.spans.Spans.add_variables.Given as goal

abbrev pub invariant-loop-symbol : goal.invariant-loop-symbol
invariant-loop-symbol l = record {
  count : l.self.variables ≡ above l.fn.self.variables (flat_map variable_in (take l.symbol-index l.symbols));
  moments : l.self.moments ≡ l.fn.self.moments;
  spans : l.self.spans ≡ l.fn.self.spans;
  more : l.fn.self.variables ≤ l.self.variables;
}
