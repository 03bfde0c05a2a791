use Rattle.apd_numbering.proofs.HeldElsewhere.{written-named}
use Rattle.apd_numbering.proofs.laws.what_is_written_says_kept_names.Goals as goal

pub returns : goal.returns
returns c = written-named
