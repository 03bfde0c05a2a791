use Rattle.apd_console.proofs.Hearing.{NoNewline-more}
use Rattle.apd_console.proofs.console.newline_in.Goals as goal

pub loop-i-preserved : goal.loop-i-preserved
loop-i-preserved c = NoNewline-more c.args.bytes.now c.loop-i.i c.loop-i-test.true c.loop-i.invariant c.if-byte-eq-NEWLINE.false
