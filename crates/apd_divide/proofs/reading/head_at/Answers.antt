use Rattle.std.proofs.Common.{ap}
use Rattle.apd_term.specs.declared.tuple.Tuple.{Tuple}
use Rattle.apd_divide.proofs.reading.head_at.Goals as goal

pub returns : goal.returns
returns c = ap (λ (t : Tuple). t.head) c.in_ok-tuple.ensures
