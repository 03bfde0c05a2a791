use Rattle.std.proofs.Common.{◌∙◌, ◌+◌, ◌++◌, drop, sym, ap, Some, None}
use Rattle.std.proofs.lemmas.List.{append-nil}
use Rattle.apd_demo.specs.Replies.{heads_of}
use Rattle.apd_demo.proofs.Walking.{heads_more}
use Rattle.apd_demo.proofs.nodes.heads_of.Goals as goal
use Rattle.apd_demo.proofs.nodes.heads_of.Goals.{in-Some+in_ok-push-in-Some, in-None}

pub clauses-preserved : goal.clauses-preserved
clauses-preserved c = elim c.match-pred.branch [
  | in-Some+in_ok-push-in-Some w ↦
      ap (λ ps. ps ++ heads_of (drop (c.clauses.i + 1) c.args.program.now)) (w.preds-is ∙ w.in_ok-push-in-Some.ensures.ok)
      ∙ heads_more c.args.program.now c.clauses.i c.clause.result.now c.clauses.preds _ (Some w.in-Some.pred) c.clause.ensures (sym c.pred.ensures ∙ w.in-Some.is) c.clauses.invariant
  | in-None w ↦
      ap (λ ps. ps ++ heads_of (drop (c.clauses.i + 1) c.args.program.now)) (w.preds-is ∙ sym (append-nil c.clauses.preds))
      ∙ heads_more c.args.program.now c.clauses.i c.clause.result.now c.clauses.preds _ None c.clause.ensures (sym c.pred.ensures ∙ w.in-None.is) c.clauses.invariant
]
