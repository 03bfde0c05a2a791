use Rattle.apd_check.proofs.Callers.{Unfound}
use Rattle.apd_check.proofs.calls.Search.is_found.Given as goal

abbrev pub invariant-partings : goal.invariant-partings
invariant-partings l = Unfound l.self.source.program.now l.self.source.ops.now l.self.state.now l.self.call.now l.fn.names l.names l.place
