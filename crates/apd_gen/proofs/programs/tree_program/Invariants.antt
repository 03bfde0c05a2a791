use Rattle.std.proofs.Common.{◌≡◌}
use Rattle.std.specs.Prelude.{flat_map}
use Rattle.std.specs.List.{range_with_len}
use Rattle.apd_gen.specs.Programs.{line_of}
use Rattle.apd_gen.proofs.programs.tree_program.Given as goal

abbrev pub invariant-nodes : goal.invariant-nodes
invariant-nodes l = l.text ≡ flat_map (line_of l.n) (range_with_len 1 l.i)
