use Rattle.apd_read.proofs.Every.{every_reader}
use Rattle.apd_read.proofs.reader.every_clause_reads.Goals as goal

pub returns : goal.returns
returns c = every_reader
