use Rattle.std.proofs.Common.{◌↔◌, length}
use Rattle.apd_answers.specs.Findings.{AllDescendByReplies}
use Rattle.apd_loop.specs.Loop.{calls_in}
use Rattle.apd_loop.specs.Turning.{HasBoxes}
use Rattle.apd_check.proofs.judging.does_chain_descend.Given as goal

abbrev pub invariant-parts : goal.invariant-parts
invariant-parts l = record {
  boxes : HasBoxes l.state.history l.rest;
  descend : AllDescendByReplies l.state.known (calls_in l.state.history l.chain) ↔ AllDescendByReplies l.state.known (calls_in l.state.history l.rest);
}

abbrev pub decreases-parts : goal.decreases-parts
decreases-parts l = length l.rest
