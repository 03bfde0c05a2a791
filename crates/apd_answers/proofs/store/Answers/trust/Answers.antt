use Rattle.std.proofs.Common.{Some, ap, sym, ◌∙◌}
use Rattle.std.specs.List.{list_any}
use Rattle.apd_ports.specs.Filter.{is_predicate}
use Rattle.apd_answers.specs.Store.{Store}
use Rattle.apd_answers.proofs.Once.{listed-put}
use Rattle.apd_answers.proofs.store.Answers.trust.Goals as goal

pub invariant_of-self : goal.invariant_of-self
invariant_of-self c = (
  c.self.invariant.0,
  c.self.invariant.1,
  c.self.invariant.2,
  c.self.invariant.3,
  listed-put c.self.inside.trusted c.put_both.new.trusted c.args.pred c.trusts.result c.put_both.result c.self.invariant.4 c.put_both.ensures.ok c.put_both.ensures.err
      (c.trusts.ensures ∙ ap (λ (s : Store). list_any (is_predicate (Some c.args.pred)) s.trusted) (sym c.self.view_is)) c.if-trusts.false,
  c.self.invariant.5,
  c.put_both.ensures.same,
)
