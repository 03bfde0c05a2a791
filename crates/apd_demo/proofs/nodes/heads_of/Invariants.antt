use Rattle.std.proofs.Common.{◌≡◌, ◌++◌, drop}
use Rattle.apd_demo.specs.Replies.{heads_of}
use Rattle.apd_demo.proofs.nodes.heads_of.Given as goal

abbrev pub invariant-clauses : goal.invariant-clauses
invariant-clauses l = l.preds ++ heads_of (drop l.i l.program) ≡ heads_of l.program
