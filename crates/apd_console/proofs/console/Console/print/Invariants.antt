use Rattle.std.proofs.Common.{◌≡◌, length}
use Rattle.apd_console.specs.Print.{Prints}
use Rattle.apd_console.proofs.console.Console.print.Given as goal

abbrev pub invariant-bytes : goal.invariant-bytes
invariant-bytes g l = Prints (g.K.Sink.held l.fn.sink) (g.K.Sink.held l.sink) l.bytes l.rest × (g.K.Sink.faults l.sink ≡ g.K.Sink.faults l.fn.sink)

abbrev pub decreases-bytes : goal.decreases-bytes
decreases-bytes g l = length l.rest
