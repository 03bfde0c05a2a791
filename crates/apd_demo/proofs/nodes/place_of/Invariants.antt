use Rattle.std.proofs.Common.{◌≡◌, suc, drop}
use Rattle.apd_demo.specs.Replies.{place_from}
use Rattle.apd_demo.proofs.nodes.place_of.Given as goal

abbrev pub invariant-preds : goal.invariant-preds
invariant-preds l = place_from (suc l.i) (drop l.i l.preds) l.pred ≡ place_from 1 l.preds l.pred
