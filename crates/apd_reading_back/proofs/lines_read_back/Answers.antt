use Rattle.apd_reading_back.proofs.Lines.{lines_read_in_turn}
use Rattle.apd_reading_back.proofs.lines_read_back.Goals as goal

pub returns : goal.returns
returns c = λ ops names lines table all written. lines_read_in_turn ops names lines table all written
