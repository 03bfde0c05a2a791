use Rattle.apd_answers.specs.Store.{empty_store}
use Rattle.apd_answers.proofs.Decided.{added-no}
use Rattle.apd_by_hand.proofs.by_hand.symptom.Goals as goal

pub returns-in-Ok : goal.returns-in-Ok
returns-in-Ok c = rw (c.in-Ok.ensures.ok, c.new-answers.ensures, c.in_ok-copy.ensures) (added-no empty_store c.args.atom.now)
