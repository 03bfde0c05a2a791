use Rattle.apd_read.proofs.Steps.{start_ready}
use Rattle.apd_read.proofs.brackets.read.Goals as goal

pub read_on-read-requires-clause-ready : goal.read_on-read-requires-clause-ready
read_on-read-requires-clause-ready c = rw (c.new.ensures, c.new-2.ensures, c.new-3.ensures) (start_ready c.args.ops.now c.args.lexemes.now c.has_no_clash.ensures)
