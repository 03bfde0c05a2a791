use Rattle.apd_read.proofs.ByMain.{reading_by_main}
use Rattle.apd_read.proofs.reader.read_by_main.Goals as goal

pub returns : goal.returns
returns c = reading_by_main c.args.ops.now c.args.lexemes.now c.read.result c.has_no_clash.ensures c.read.ensures
