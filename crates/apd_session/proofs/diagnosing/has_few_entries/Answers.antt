use Rattle.std.proofs.Common.{arith}
use Rattle.apd_debug.specs.Steps.{most_in_a_row}
use Rattle.apd_session.proofs.diagnosing.has_few_entries.Goals as goal

pub returns : goal.returns
unfolding most_in_a_row
returns c = let few = c.len-entries.type_inv in omega (arith, c.len-entries.ensures, few)
