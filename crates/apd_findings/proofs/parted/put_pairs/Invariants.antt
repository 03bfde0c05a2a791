use Rattle.std.proofs.Common.{take}
use Rattle.apd_findings.specs.Ordering.{AreOrders}
use Rattle.apd_findings.specs.Parted.{AreAffirmed, AreDenied}
use Rattle.apd_findings.proofs.parted.put_pairs.Given as goal

abbrev pub invariant-pairs : goal.invariant-pairs
invariant-pairs l =
    AreAffirmed (take l.i l.all.pairs) l.parts.affirmed × (AreDenied (take l.i l.all.pairs) l.parts.denied × AreOrders (take l.i l.all.pairs) l.parts.orders)
