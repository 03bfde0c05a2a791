use Rattle.apd_record.proofs.Predicates.{pred_told}
use Rattle.apd_record.proofs.kept.known_pred.Goals as goal

pub returns-in-Kept : goal.returns-in-Kept
returns-in-Kept c n all there = pred_told n all c.args.kept.now c.args.at c.in-Kept.numbered c.pred.result c.in-Kept.is there c.pred.ensures
