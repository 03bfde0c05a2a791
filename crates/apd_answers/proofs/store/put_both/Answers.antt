use Rattle.std.proofs.Common.{Some, ap, arith, ◌∙◌}
use Rattle.std.proofs.lemmas.Result.{IfOk-weaker}
use Rattle.std.specs.Map.{keys_of}
use Rattle.indexmap.specs.IndexMap.{keys}
use Rattle.indexmap.proofs.SetLemmas.{keys_insert_entry}
use Rattle.apd_ports.specs.Filter.{is_predicate}
use Rattle.apd_term.specs.declared.term.Pred.{Pred}
use Rattle.apd_answers.proofs.Once.{listed-too}
use Rattle.apd_answers.proofs.store.put_both.Goals as goal

pub returns-clause-same : goal.returns-clause-same
returns-clause-same c =
    listed-too (λ (a b : Pred). is_predicate (Some a) b) (keys c.args.listed.now) (keys c.reserve.new.self) (keys c.insert-listed.new.self) c.args.trusted.now c.push.new.self c.args.pred c.insert-listed.result c.requires.same (ap keys_of c.reserve.ensures.entries) c.in_ok-push.ensures.ok c.requires.unlisted
    (IfOk-weaker c.insert-listed.result _ _ (λ x h. ap keys_of h ∙ keys_insert_entry (λ (a b : Pred). is_predicate (Some a) b) c.reserve.new.self.entries c.args.pred tt) c.insert-listed.ensures.entries)
    (c.insert-listed.ensures.succeeds (omega (arith, c.in_ok-reserve.ensures.ok)))
