use Rattle.apd_index.proofs.Roomy.{same-right}
use Rattle.apd_index.proofs.waiting.gather.Goals as goal

pub returns-clause-columns : goal.returns-clause-columns
returns-clause-columns c = λ is h. c.in_ok-are_right.ensures.columns is (same-right c.args.known.now.table c.make_room.new.table c.make_room.ensures c.args.atoms.now h)
