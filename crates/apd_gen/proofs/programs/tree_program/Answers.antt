use Rattle.std.proofs.Common.{arith}
use Rattle.apd_gen.specs.Programs.{line_of}
use Rattle.apd_gen.proofs.Lines.{flat_map-range}
use Rattle.apd_gen.proofs.Sizes.{lines-short}
use Rattle.apd_gen.proofs.programs.tree_program.Goals as goal

pub nodes-preserved : goal.nodes-preserved
nodes-preserved c = let e = flat_map-range (line_of c.args.n) c.nodes.i in cc c.in_ok-add_line.ensures

pub returns-clause-size : goal.returns-clause-size
returns-clause-size c =
    let most = c.requires.1 in
    let end = c.nodes.auto.i-end in
    let short = lines-short c.args.n 1 c.nodes.i (omega (arith, end, most)) in
    rw c.nodes.invariant (omega (arith, short, end, most))
