use Rattle.std.proofs.Common.{◌≡◌, drop}
use Rattle.apd_known.specs.Scripts.{scripted_reply}
use Rattle.apd_known.proofs.scripted.scripted_reply.Given as goal

abbrev pub invariant-pairs : goal.invariant-pairs
invariant-pairs l = scripted_reply l.pairs.pairs l.asked ≡ scripted_reply (drop l.i l.pairs.pairs) l.asked
