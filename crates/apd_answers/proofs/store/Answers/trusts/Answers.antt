use Rattle.std.proofs.Common.{Some, ap, ◌∙◌}
use Rattle.std.specs.List.{list_any}
use Rattle.std.proofs.lemmas.Map.Made.{is_some-lookup}
use Rattle.apd_ports.specs.Filter.{is_predicate}
use Rattle.apd_answers.specs.Store.{Store}
use Rattle.apd_answers.proofs.store.Answers.trusts.Goals as goal

pub returns : goal.returns
returns c =
    c.contains_key.ensures ∙ is_some-lookup (is_predicate (Some c.args.pred)) c.self.inside.listed.entries
    ∙ ap (list_any (is_predicate (Some c.args.pred))) c.self.invariant.6
    ∙ ap (λ (s : Store). list_any (is_predicate (Some c.args.pred)) s.trusted) c.self.view_is
