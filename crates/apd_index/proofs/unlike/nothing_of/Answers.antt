use Rattle.apd_index.proofs.unlike.nothing_of.Goals as goal

pub returns : goal.returns
returns c = λ columns k h agree. absurd (c.new.ensures k h)
