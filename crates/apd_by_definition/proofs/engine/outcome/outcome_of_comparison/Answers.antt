use Rattle.apd_frames.proofs.Outcomes.{outcome-comparison-faults}
use Rattle.apd_arith.specs.Value.{value}
use Rattle.apd_arith.specs.Truth.{compared}
use Rattle.apd_by_definition.proofs.engine.outcome.outcome_of_comparison.Goals as goal

pub returns-in_ok-error_of-in-Err : goal.returns-in_ok-error_of-in-Err
returns-in_ok-error_of-in-Err c =
    outcome-comparison-faults c.compare.result (compared c.args.comparison (value c.args.left.now) (value c.args.right.now)) c.in-Err.fault c.in_ok-error_of-in-Err.field-0 c.compare.ensures c.in-Err.is c.in_ok-error_of-in-Err.ensures.fault c.in_ok-error_of-in-Err.ensures.error
