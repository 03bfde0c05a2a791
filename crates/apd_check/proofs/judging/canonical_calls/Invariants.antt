use Rattle.std.proofs.Common.{◌≡◌, take}
use Rattle.apd_loop.specs.Loop.{calls_in}
use Rattle.apd_check.proofs.judging.canonical_calls.Given as goal

abbrev pub invariant-boxes : goal.invariant-boxes
invariant-boxes l = l.calls ≡ calls_in l.history (take l.i l.chain)
