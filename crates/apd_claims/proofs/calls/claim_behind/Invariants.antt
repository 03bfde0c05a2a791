use Rattle.apd_claims.proofs.Behind.{Behind}
use Rattle.apd_claims.proofs.calls.claim_behind.Given as goal

abbrev pub invariant-places : goal.invariant-places
invariant-places l = Behind l.means.ops.now l.text l.fn.names l.names l.quote l.begun l.place
