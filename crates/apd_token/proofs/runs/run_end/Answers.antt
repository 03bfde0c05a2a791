use Rattle.std.proofs.Common.{arith, sym, ◌∙◌}
use Rattle.apd_token.proofs.Slices.{AllIn_more}
use Rattle.apd_token.proofs.runs.run_end.Goals as goal

pub run-preserved : goal.run-preserved
run-preserved c = record { from = omega arith; within = omega arith; each = AllIn_more _ _ _ _ c.run.invariant.from (omega arith) c.run.invariant.each (sym c.in_set.ensures ∙ c.if-in_set.true) }
