use Rattle.std.proofs.Common.{subst, sym, ◌∙◌}
use Rattle.apd_loop.specs.Turning.{HasBoxes}
use Rattle.apd_check.proofs.Chains.{chain-boxes}
use Rattle.apd_check.proofs.judging.judge_descent.Goals as goal

pub does_chain_descend-requires-clause-boxes : goal.does_chain_descend-requires-clause-boxes
does_chain_descend-requires-clause-boxes c = subst (HasBoxes c.args.state.now.history) (sym (c.as_slice.ensures ∙ c.in_ok-chain.ensures)) (chain-boxes c.args.state.now.history)
