use Rattle.apd_past.proofs.Ways.{Seeks, rank}
use Rattle.apd_past.proofs.spans.place_at.Given as goal

abbrev pub invariant-spans : goal.invariant-spans
invariant-spans l = Seeks l.kept l.v l.moment l.next

abbrev pub decreases-spans : goal.decreases-spans
decreases-spans l = rank l.next
