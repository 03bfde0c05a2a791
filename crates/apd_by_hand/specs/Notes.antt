-- What is noted of an oracle that has its replies beforehand.
use Rattle.apd_answers.specs.Oracle.{Call, asking, telling}
use Rattle.apd_answers.specs.Store.{Store}
use Rattle.apd_known.specs.Scripts.{Answers, scripted_reply}

-- what is asked has its scripted reply, or there is no memory for the note; what is told is noted
abbrev pub Notes : Store → Call → Type 0
Notes store (asking asked result) = Answers (scripted_reply store.pairs asked) result
Notes store (telling reply left result) = Unit {0}
