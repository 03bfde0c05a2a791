use Rattle.std.proofs.Common.{take}
use Rattle.apd_console.specs.Lines.{NoNewline}
use Rattle.apd_console.proofs.console.newline_in.Given as goal

abbrev pub invariant-loop-i : goal.invariant-loop-i
invariant-loop-i l = NoNewline (take l.i l.bytes)
